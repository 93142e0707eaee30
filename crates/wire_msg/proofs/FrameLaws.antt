-- The header of a message, as its bytes are read, and as they are written.
use Rattle.std.proofs.Common.{◌≡◌, ℕ, pos, ◌+◌, ◌-◌, ◌^◌, ◌<◌, ◌≤◌, List, ◌++◌, length, take, drop, refl, sym, ap, ◌∙◌, append_assoc, arith, length-take, length-drop}
use Rattle.std.specs.Int.{w32, from_le_bytes, cast_signed}
use Rattle.std.proofs.lemmas.List.{take-append-drop, take-take, drop-take, drop-drop}
use Rattle.std.proofs.lemmas.Nat.{le_bytes_4}
use Rattle.std.proofs.lemmas.Int.{of_z-to_z}
use Rattle.bson_elem.specs.Spelling.{IsBytes, little}
use Rattle.bson_elem.proofs.Lemmas.{IsBytes-drop, IsBytes-take}
use Rattle.wire_msg.specs.declared.header.MsgHeader.{MsgHeader}
use Rattle.wire_msg.specs.Header.{number_at, header_of}
use Rattle.wire_msg.specs.Spelling.{signed, header_bytes, message_bytes}
use Rattle.wire_msg.specs.Faults.{IsFramedMsg}

-- a number in the first 16 bytes
number_in : (bytes : List ℕ) (at m : ℕ) → at + m ≡ 16 → 4 ≤ m → from_le_bytes w32 (take 4 (drop at (take 16 bytes))) ≡ from_le_bytes w32 (take 4 (drop at bytes))
number_in bytes at m sum four = ap (λ (n : ℕ). from_le_bytes w32 (take 4 (drop at (take n bytes)))) (sym sum) ∙ ap (λ (x : List ℕ). from_le_bytes w32 (take 4 x)) (drop-take at m bytes) ∙ ap (from_le_bytes w32) (take-take 4 m (drop at bytes) four)

abbrev header : ℕ → ℕ → ℕ → ℕ → MsgHeader
header n id to opcode = record { length = n; id = cast_signed w32 id; response_to = cast_signed w32 to; opcode = cast_signed w32 opcode }

same_header : (n n' id id' to to' opcode opcode' : ℕ) → n ≡ n' → id ≡ id' → to ≡ to' → opcode ≡ opcode' → header n id to opcode ≡ header n' id' to' opcode'
same_header n n' id id' to to' opcode opcode' a b d e = rw (a, b, d, e) refl

pub header_of-take : (bytes : List ℕ) → header_of (take 16 bytes) ≡ header_of bytes
header_of-take bytes =
    same_header _ _ _ _ _ _ _ _ (number_in bytes 0 16 refl (omega arith)) (number_in bytes 4 12 refl (omega arith)) (number_in bytes 8 8 refl (omega arith)) (number_in bytes 12 4 refl (omega arith))

-- ---- four bytes are a number

pub number_fits : (bytes : List ℕ) (at : ℕ) → IsBytes bytes → number_at bytes at < 2 ^ 32
number_fits bytes at fits =
    let n : (at + 4) - at ≡ 4 = omega arith in
    let f = IsBytes-take ((at + 4) - at) (drop at bytes) (IsBytes-drop at bytes fits) in
    omega (arith, f 0, f 1, f 2, f 3)

pub four_bytes : (bytes : List ℕ) (at : ℕ) → IsBytes bytes → at + 4 ≤ length bytes → little (number_at bytes at) ≡ take 4 (drop at bytes)
four_bytes bytes at fits room =
    let n : (at + 4) - at ≡ 4 = omega arith in
    let is : number_at bytes at ≡ from_le_bytes w32 (take 4 (drop at bytes)) = ap (λ (k : ℕ). from_le_bytes w32 (take k (drop at bytes))) n in
    le_bytes_4 (take 4 (drop at bytes)) (number_at bytes at) (omega (arith, length-take 4 (drop at bytes), length-drop at bytes, room)) (IsBytes-take 4 (drop at bytes) (IsBytes-drop at bytes fits)) is

pub signed_bytes : (bytes : List ℕ) (at : ℕ) → IsBytes bytes → at + 4 ≤ length bytes → signed (cast_signed w32 (number_at bytes at)) ≡ take 4 (drop at bytes)
signed_bytes bytes at fits room = ap little (of_z-to_z w32 (number_at bytes at) (number_fits bytes at fits)) ∙ four_bytes bytes at fits room

opcode_bytes : (bytes : List ℕ) → IsBytes bytes → 16 ≤ length bytes → cast_signed w32 (number_at bytes 12) ≡ pos 2013 → little 2013 ≡ take 4 (drop 12 bytes)
opcode_bytes bytes fits room is = ap signed (sym is) ∙ signed_bytes bytes 12 fits room

pub split_at : (bytes : List ℕ) (at : ℕ) → drop at bytes ≡ take 4 (drop at bytes) ++ drop (at + 4) bytes
split_at bytes at = sym (take-append-drop 4 (drop at bytes)) ∙ ap (λ (x : List ℕ). take 4 (drop at bytes) ++ x) (drop-drop 4 at bytes)

joined : (a b d e x : List ℕ) → a ++ (b ++ (d ++ (e ++ x))) ≡ (a ++ (b ++ (d ++ e))) ++ x
joined a b d e x = sym (append_assoc a (b ++ (d ++ e)) x ∙ ap (λ (y : List ℕ). a ++ y) (append_assoc b (d ++ e) x ∙ ap (λ (y : List ℕ). b ++ y) (append_assoc d e x)))

parts_same : (a a' b b' d d' e e' f f' sections : List ℕ) → a ≡ a' → b ≡ b' → d ≡ d' → e ≡ e' → f ≡ f' → (a ++ (b ++ (d ++ e))) ++ (f ++ sections) ≡ (a' ++ (b' ++ (d' ++ e'))) ++ (f' ++ sections)
parts_same a a' b b' d d' e e' f f' sections p q r s t = rw (p, q, r, s, t) refl

-- a framed message is a header, the flag bits, and what follows them
pub framed_parts : (limit : ℕ) (bytes sections : List ℕ) → IsBytes bytes → IsFramedMsg limit bytes → 20 ≤ length bytes → drop 20 bytes ≡ sections → bytes ≡ message_bytes (cast_signed w32 (number_at bytes 4)) (cast_signed w32 (number_at bytes 8)) (number_at bytes 16) sections
unfolding header_bytes message_bytes
framed_parts limit bytes sections fits framed room is =
    let size : number_at bytes 0 ≡ length sections + 20 = omega (arith, framed.whole, ap length is, length-drop 20 bytes, room) in
    let a : little (length sections + 20) ≡ take 4 bytes = ap little (sym size) ∙ four_bytes bytes 0 fits (omega (arith, room)) in
    let b = signed_bytes bytes 4 fits (omega (arith, room)) in
    let d = signed_bytes bytes 8 fits (omega (arith, room)) in
    let e = opcode_bytes bytes fits (omega (arith, room)) framed.good.opcode in
    let f = four_bytes bytes 16 fits (omega (arith, room)) in
    let cut : bytes ≡ take 4 bytes ++ (take 4 (drop 4 bytes) ++ (take 4 (drop 8 bytes) ++ (take 4 (drop 12 bytes) ++ (take 4 (drop 16 bytes) ++ sections)))) =
    split_at bytes 0 ∙ ap (λ (x : List ℕ). take 4 bytes ++ x) (split_at bytes 4 ∙ ap (λ (x : List ℕ). take 4 (drop 4 bytes) ++ x) (split_at bytes 8 ∙ ap (λ (x : List ℕ). take 4 (drop 8 bytes) ++ x) (split_at bytes 12 ∙ ap (λ (x : List ℕ). take 4 (drop 12 bytes) ++ x) (split_at bytes 16 ∙ ap (λ (x : List ℕ). take 4 (drop 16 bytes) ++ x) is)))) in
    cut ∙ joined (take 4 bytes) (take 4 (drop 4 bytes)) (take 4 (drop 8 bytes)) (take 4 (drop 12 bytes)) (take 4 (drop 16 bytes) ++ sections)
    ∙ parts_same (take 4 bytes) _ (take 4 (drop 4 bytes)) _ (take 4 (drop 8 bytes)) _ (take 4 (drop 12 bytes)) _ (take 4 (drop 16 bytes)) _ sections (sym a) (sym b) (sym d) (sym e) (sym f)
