-- The bytes that may be given and those that are held, in the list that has both.
use Rattle.std.proofs.Common.{◌≡◌, ◌∙◌, ◌+◌, ◌-◌, ◌≤◌, ℕ, List, ◌++◌, ap, arith, drop, length, length-append, length-drop, sym, take}
use Rattle.std.proofs.Math.Seq.{drop-append_seam, take-add, take-append_seam, take-length}
use Rattle.std.proofs.lemmas.List.{drop-append-le, drop-drop, drop-take, length-take-le, take-append-le}

-- the bytes of a list from one place to another
abbrev pub between : List ℕ → ℕ → ℕ → List ℕ
between bytes start end = take (end - start) (drop start bytes)

-- The first n of them are given, and the others are those from there on.
pub given_first : (bytes : List ℕ) (start may n : ℕ) → n ≤ may - start → between bytes start may ≡ take n (drop start bytes) ++ between bytes (start + n) may
given_first bytes start may n le =
    let parts : may - start ≡ n + (may - (start + n)) = omega (arith, le) in
    ap (λ (k : ℕ). take k (drop start bytes)) parts ∙ take-add n (may - (start + n)) (drop start bytes)
    ∙ ap (λ (l : List ℕ). take n (drop start bytes) ++ take (may - (start + n)) l) (drop-drop n start bytes)

-- What was copied to the front of a buffer is what it begins with.
pub copied_first : (copied tail source : List ℕ) (n : ℕ) → copied ≡ source → length source ≡ n → take n (copied ++ tail) ≡ source
copied_first copied tail source n is long =
    ap (λ (l : List ℕ). take n (l ++ tail)) is ∙ ap (λ (k : ℕ). take k (source ++ tail)) (sym long) ∙ take-append_seam source tail

pub length_between : (bytes : List ℕ) (start n : ℕ) → start + n ≤ length bytes → length (take n (drop start bytes)) ≡ n
length_between bytes start n le = length-take-le n (drop start bytes) (omega (arith, length-drop start bytes, le))

pub length_owed : (bytes : List ℕ) (start may : ℕ) → start ≤ may → may ≤ length bytes → length (between bytes start may) ≡ may - start
length_owed bytes start may order within = length_between bytes start (may - start) (omega (arith, order, within))

-- Bytes are given: the first n of those that may be.
pub gives_part : (bytes copied tail : List ℕ) (start may n : ℕ) → start ≤ may → may ≤ length bytes → n ≤ may - start → copied ≡ take n (drop start bytes)
    → between bytes start may ≡ take n (copied ++ tail) ++ between bytes (start + n) may
gives_part bytes copied tail start may n order within le is =
    let front : take n (copied ++ tail) ≡ take n (drop start bytes) = copied_first copied tail (take n (drop start bytes)) n is (length_between bytes start n (omega (arith, order, within, le))) in
    given_first bytes start may n le ∙ ap (λ (l : List ℕ). l ++ between bytes (start + n) may) (sym front)

pub gives_count : (bytes copied tail : List ℕ) (start may n : ℕ) → start ≤ may → may ≤ length bytes → n ≤ may - start → copied ≡ take n (drop start bytes)
    → length (take n (copied ++ tail)) ≡ n
gives_count bytes copied tail start may n order within le is =
    let long = length_between bytes start n (omega (arith, order, within, le)) in
    ap (λ (l : List ℕ). length l) (copied_first copied tail (take n (drop start bytes)) n is long) ∙ long

-- What is behind a part is the whole without it.
pub behind_part : (bytes message behind : List ℕ) (may size : ℕ) → drop may bytes ≡ message ++ behind → size ≡ length message → drop (may + size) bytes ≡ behind
behind_part bytes message behind may size parts is =
    sym (drop-drop size may bytes) ∙ ap (λ (l : List ℕ). drop size l) parts ∙ ap (λ (k : ℕ). drop k (message ++ behind)) is ∙ drop-append_seam message behind

-- A message that is held may be given, too.
pub owed_more : (bytes message behind : List ℕ) (start may size : ℕ) → start ≤ may → may ≤ length bytes → drop may bytes ≡ message ++ behind → size ≡ length message
    → between bytes start (may + size) ≡ between bytes start may ++ message
owed_more bytes message behind start may size order within parts is =
    let k : ℕ = may - start in
    let sum : may + size - start ≡ k + size = omega (arith, order) in
    let there : start + k ≡ may = omega (arith, order) in
    let rest : take size (drop k (drop start bytes)) ≡ message =
    ap (λ (l : List ℕ). take size l) (drop-drop k start bytes ∙ ap (λ (n : ℕ). drop n bytes) there ∙ parts)
    ∙ ap (λ (n : ℕ). take n (message ++ behind)) is ∙ take-append_seam message behind in
    ap (λ (n : ℕ). take n (drop start bytes)) sum ∙ take-add k size (drop start bytes) ∙ ap (λ (l : List ℕ). between bytes start may ++ l) rest

pub rest_parts : (bytes message behind : List ℕ) (may size : ℕ) → drop may bytes ≡ message ++ behind → size ≡ length message → drop may bytes ≡ message ++ drop (may + size) bytes
rest_parts bytes message behind may size parts is = parts ∙ ap (λ (l : List ℕ). message ++ l) (sym (behind_part bytes message behind may size parts is))

-- The bytes that may be given are those of the front alone.
pub owed_in_front : (bytes : List ℕ) (start may : ℕ) → start ≤ may → may ≤ length bytes → between (take may bytes) start may ≡ between bytes start may
owed_in_front bytes start may order within =
    let k : ℕ = may - start in
    let front : drop start (take may bytes) ≡ take k (drop start bytes) =
    ap (λ (n : ℕ). drop start (take n bytes)) (omega (arith, order)) ∙ drop-take start k bytes in
    let long = length_owed bytes start may order within in
    ap (λ (l : List ℕ). take k l) front ∙ ap (λ (n : ℕ). take n (take k (drop start bytes))) (sym long) ∙ take-length (take k (drop start bytes))

-- A held message is no longer than what is held.
pub fits_held : (bytes message behind : List ℕ) (may : ℕ) → may ≤ length bytes → drop may bytes ≡ message ++ behind → may + length message ≤ length bytes
fits_held bytes message behind may within parts =
    omega (arith, within, length-drop may bytes, ap (λ (l : List ℕ). length l) parts, length-append message behind)

-- A part is taken out of a list, from a place on: what is before it stays, and what is behind it follows.
pub taken_out_rest : (bytes tail : List ℕ) (may : ℕ) → may ≤ length bytes → drop may (take may bytes ++ tail) ≡ tail
taken_out_rest bytes tail may within =
    let long = length-take-le may bytes within in
    ap (λ (k : ℕ). drop k (take may bytes ++ tail)) (sym long) ∙ drop-append_seam (take may bytes) tail

pub taken_out_owed : (bytes tail : List ℕ) (start may : ℕ) → start ≤ may → may ≤ length bytes → between (take may bytes ++ tail) start may ≡ between bytes start may
taken_out_owed bytes tail start may order within =
    let long = length-take-le may bytes within in
    let inside : start ≤ length (take may bytes) = omega (arith, long, order) in
    let enough : may - start ≤ length (drop start (take may bytes)) = omega (arith, length-drop start (take may bytes), long) in
    ap (λ (l : List ℕ). take (may - start) l) (drop-append-le start (take may bytes) tail inside)
    ∙ take-append-le (may - start) (drop start (take may bytes)) tail enough ∙ owed_in_front bytes start may order within

-- What a buffer has that was read into a whole list is its front.
pub piece_front : (buffer items : List ℕ) (n len : ℕ) → length buffer ≡ len → take n (take len (buffer ++ drop (length buffer) items)) ≡ take n buffer
piece_front buffer items n len is =
    let tail : List ℕ = drop (length buffer) items in
    ap (λ (l : List ℕ). take n l) (ap (λ (k : ℕ). take k (buffer ++ tail)) (sym is) ∙ take-append_seam buffer tail)
