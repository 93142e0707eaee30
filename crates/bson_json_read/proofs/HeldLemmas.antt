-- What a reader of pieces holds, as bytes are read, let go of and fed.
use Rattle.std.proofs.Common.{◌≡◌, ◌∙◌, ◌+◌, ◌<◌, ◌≤◌, ◌-◌, inr, ℕ, zero, suc, List, [], ◌∷◌, ◌++◌, Bool, true, false, Ok, Err, append_assoc, append-nil, drop, get_or, length, take, ltb, refl, sym, ap, subst, arith}
use Rattle.std.specs.Prelude.{⊤, if◌then◌else◌}
use Rattle.std.proofs.lemmas.Bool.{ltb-false, ltb-true}
use Rattle.std.proofs.lemmas.List.{drop-append-le, drop-drop, drop_all, length-append, take-append-le, take_rest}
use Rattle.bson_json_read.specs.declared.extent.Scan.{Scan}
use Rattle.bson_json_read.specs.declared.extent.Within.{Within}
use Rattle.bson_json_read.specs.declared.extent.Within.TheVariants.{Code}
use Rattle.bson_json_read.specs.declared.fault.Cause.{Cause}
use Rattle.bson_json_read.specs.declared.frame.Frame.{Frame}
use Rattle.bson_json_read.specs.declared.text_reader.Begun.{Begun}
use Rattle.bson_json_read.specs.Extents.{EndsBehind, HasPassed, closes, extent, open_next, text_len, within_next}
use Rattle.bson_json_read.specs.Frames.{behind_text}
use Rattle.bson_json_read.specs.Pieces.{EndsIn, Held, IsBegun, IsOpen, MayFollow, MovesBy}
use Rattle.bson_json_read.specs.Places.{place_behind}
use Rattle.bson_json_read.specs.Sequences.{Fails, Gives, Next, fault_here, front_read, next_in, nothing, text_here, utf8_read}
use Rattle.bson_json_read.specs.Values.{Pair}
use Rattle.bson_json_read.proofs.Lines.{line_is_text}
use Rattle.bson_json_read.proofs.PlaceLemmas.{place_on, places_append}
use Rattle.bson_json_read.proofs.Scans.{open_len}

take_nil : (n : ℕ) → take {A = ℕ} n [] ≡ []
take_nil zero = refl
take_nil (suc n) = refl

pub take_more : (n m : ℕ) (xs : List ℕ) → take (n + m) xs ≡ take n xs ++ take m (drop n xs)
take_more zero m xs = ap (λ (k : ℕ). take k xs) (omega arith)
take_more (suc n) m [] = take_nil (suc n + m) ∙ sym (take_nil m)
take_more (suc n) m (x ∷ xs) = ap (λ (k : ℕ). take k (x ∷ xs)) more ∙ ap (λ (ys : List ℕ). x ∷ ys) (take_more n m xs)
  where
    more : suc n + m ≡ suc (n + m)
    more = omega arith

-- a place behind more bytes
pub place_further : (line column at n : ℕ) (bytes : List ℕ) → place_behind line column (take (at + n) bytes) ≡ place_on (place_behind line column (take at bytes)) (take n (drop at bytes))
place_further line column at n bytes = ap (place_behind line column) (take_more at n bytes) ∙ places_append line column (take at bytes) (take n (drop at bytes))

-- bytes that are let go of
pub moved_to : (old new : Held) (line column at to n : ℕ) (bytes : List ℕ) → to ≡ at + n → n ≤ length (drop at bytes)
    → old.place ≡ place_behind line column (take at bytes) → old.bytes ≡ drop at bytes → new.place ≡ place_behind line column (take to bytes) → new.bytes ≡ drop to bytes → MovesBy n old new
moved_to old new line column at to n bytes is le old_place old_bytes new_place new_bytes =
    record {
      inside = omega (arith, le, ap length old_bytes);
      place = new_place ∙ ap (λ (k : ℕ). place_behind line column (take k bytes)) is ∙ place_further line column at n bytes
          ∙ rw (old_place, old_bytes) refl;
      bytes = new_bytes ∙ ap (λ (k : ℕ). drop k bytes) is ∙ sym (drop-drop n at bytes) ∙ ap (drop n) (sym old_bytes);
    }

-- ---- the text that is next

-- an end that isn't that of the bytes stays, whatever follows
pub extent_stays : (w : Within) (count : ℕ) (bs more : List ℕ) → extent w count bs < length bs → extent w count (bs ++ more) ≡ extent w count bs
extent_stays w count [] more lt = absurd (omega (arith, lt))
extent_stays w count (b ∷ bs) more lt = go (closes w count b) lt (extent_stays (within_next w b) (open_next w count b) bs more)
  where
    go : (c : Bool) → (if c then 1 else suc (extent (within_next w b) (open_next w count b) bs)) < suc (length bs)
        → (extent (within_next w b) (open_next w count b) bs < length bs → extent (within_next w b) (open_next w count b) (bs ++ more) ≡ extent (within_next w b) (open_next w count b) bs)
        → (if c then 1 else suc (extent (within_next w b) (open_next w count b) (bs ++ more))) ≡ (if c then 1 else suc (extent (within_next w b) (open_next w count b) bs))
    go true h rest = refl
    go false h rest = ap suc (rest (omega (arith, h)))

pub line_ends : (last : Bool) (text : List ℕ) (n : ℕ) → n ≡ text_len text → 0 < n → n ≤ length text → (n ≡ length text → last ≡ true) → EndsIn last text n
line_ends last text n is some inside whole = record {
  some = some;
  inside = inside;
  whatever = λ more may. go (ltb n (length text)) refl more may;
}
  where
    go : (b : Bool) → ltb n (length text) ≡ b → (more : List ℕ) → MayFollow last more → text_len (text ++ more) ≡ n
    go true e more may = extent_stays Code 0 text more (subst (λ (k : ℕ). k < length text) is (ltb-true n (length text) e)) ∙ sym is
    go false e more may =
        let all : n ≡ length text = omega (arith, inside, ltb-false n (length text) e) in
        ap (λ (m : List ℕ). text_len (text ++ m)) (may (whole all)) ∙ ap text_len (append-nil text) ∙ sym is

pub closed_ends : (last : Bool) (text : List ℕ) (n : ℕ) → EndsBehind n text → EndsIn last text n
closed_ends last text n e = record { some = e.some; inside = e.inside; whatever = λ more may. e.whatever more }

pub last_ends : (s : Scan) (text : List ℕ) → HasPassed s text → s.len ≡ length text → 0 < length text → EndsIn true text (length text)
last_ends s text p all some = record {
  some = some;
  inside = omega arith;
  whatever = λ more may. ap (λ (m : List ℕ). text_len (text ++ m)) (may refl) ∙ ap text_len (append-nil text) ∙ sym (open_len s text p all);
}

front_is : (last : Bool) (text : List ℕ) (n : ℕ) → EndsIn last text n → (more : List ℕ) → MayFollow last more → front_read (text ++ more) ≡ utf8_read (take n text)
front_is last text n e more may =
    ap (λ (k : ℕ). utf8_read (take k (text ++ more))) (e.whatever more may) ∙ ap utf8_read (take-append-le n text more e.inside)

left_is : (last : Bool) (text : List ℕ) (n : ℕ) → EndsIn last text n → (more : List ℕ) → MayFollow last more → drop (text_len (text ++ more)) (text ++ more) ≡ drop n text ++ more
left_is last text n e more may = ap (λ (k : ℕ). drop k (text ++ more)) (e.whatever more may) ∙ drop-append-le n text more e.inside

pub gives : (frame : Frame) (bytes : List ℕ) (b : Begun) (last : Bool) (n : ℕ) (d : List Pair) (new : Held) → IsBegun frame bytes b → EndsIn last (drop b.passed bytes) n → utf8_read (take n (drop b.passed bytes)) ≡ Ok d
    → new.frame ≡ behind_text b.frame → new.bytes ≡ drop (b.passed + n) bytes → (more : List ℕ) → MayFollow last more → Gives (next_in frame (bytes ++ more)) d (record { frame = new.frame; rest = new.bytes ++ more })
gives frame bytes b last n d new begun e read behind left more may =
    let text = drop b.passed bytes in
    let rest : new.bytes ++ more ≡ drop (text_len (text ++ more)) (text ++ more) =
    ap (λ (bs : List ℕ). bs ++ more) (left ∙ sym (drop-drop n b.passed bytes)) ∙ sym (left_is last text n e more may) in
    subst (λ (x : Next). Gives x d (record { frame = new.frame; rest = new.bytes ++ more })) (sym (begun.next more)) (front_is last text n e more may ∙ read, rw (behind, rest) refl)

pub fails : (frame : Frame) (bytes : List ℕ) (b : Begun) (last : Bool) (n : ℕ) (cause : Cause) (path : List ℕ) → IsBegun frame bytes b → EndsIn last (drop b.passed bytes) n → utf8_read (take n (drop b.passed bytes)) ≡ Err (cause, path)
    → (more : List ℕ) → MayFollow last more → Fails (next_in frame (bytes ++ more)) cause
fails frame bytes b last n cause path begun e read more may =
    subst (λ (x : Next). Fails x cause) (sym (begun.next more)) (path, front_is last (drop b.passed bytes) n e more may ∙ read)

pub fault_fails : (next : Next) (cause : Cause) → next ≡ fault_here cause → Fails next cause
fault_fails next cause is = subst (λ (x : Next). Fails x cause) (sym is) refl

-- where the input ends, no text is next and no fault is
abbrev is_text : Next → Type 0
is_text nothing = ⊥
is_text (text_here frame rest) = ⊤
is_text (fault_here cause) = ⊥

pub text_is_next : (frame : Frame) (bytes : List ℕ) (b : Begun) → IsBegun frame bytes b → next_in frame bytes ≡ nothing → ⊥
text_is_next frame bytes b begun is =
    let here : text_here b.frame (drop b.passed bytes ++ []) ≡ nothing =
    sym (begun.next []) ∙ ap (next_in frame) (append-nil bytes) ∙ is in
    subst is_text here tt

pub fault_is_next : (frame : Frame) (bytes : List ℕ) (cause : Cause) → next_in frame (bytes ++ []) ≡ fault_here cause → next_in frame bytes ≡ nothing → ⊥
fault_is_next frame bytes cause fault is =
    let here : next_in frame (bytes ++ []) ≡ nothing = ap (next_in frame) (append-nil bytes) ∙ is in
    subst (λ (x : Next). Fails x cause) here (fault_fails _ cause fault)

-- what is behind the first bytes of those that aren't read
pub text_slice : (items bytes : List ℕ) (at passed : ℕ) → bytes ≡ drop at items → take (length items - (at + passed)) (drop (at + passed) items) ≡ drop passed bytes
text_slice items bytes at passed is = take_rest items (at + passed) ∙ sym (drop-drop passed at items) ∙ ap (drop passed) (sym is)

pub line_of : (last : Bool) (slice text : List ℕ) (n : ℕ) (d : List Pair) → slice ≡ text → 0 < n → n ≤ length slice → get_or slice (n - 1) 0 ≡ 125 → utf8_read (take n slice) ≡ Ok d
    → (n ≡ length slice → last ≡ true) → EndsIn last text n
line_of last slice text n d is some inside brace read whole =
    subst (λ (t : List ℕ). EndsIn last t n) is (line_ends last slice n (line_is_text slice n d some inside brace read) some inside whole)

pub open_text : (frame : Frame) (bytes : List ℕ) (b : Begun) (s : Scan) → IsBegun frame bytes b → HasPassed s (drop b.passed bytes) → s.len ≡ length (drop b.passed bytes) → IsOpen frame bytes
open_text frame bytes b s begun passed all =
    let text = drop b.passed bytes in
    let here : next_in frame bytes ≡ text_here b.frame text =
    ap (next_in frame) (sym (append-nil bytes)) ∙ begun.next [] ∙ ap (text_here b.frame) (append-nil text) in
    inr (b.frame, text, here, λ x. passed.behind (x ∷ []) ∙ ap (λ (rest : List ℕ). s.len + extent s.within s.braces (rest ++ x ∷ [])) (drop_all s.len text (omega (arith, all))) ∙ one_more (closes s.within s.braces x) ∙ ap (λ (n : ℕ). n + 1) all)
  where
    one_more : (c : Bool) → s.len + (if c then 1 else suc 0) ≡ s.len + 1
    one_more true = refl
    one_more false = refl

-- ---- bytes that are fed

passed_more : (s : Scan) (text piece : List ℕ) → HasPassed s text → HasPassed s (text ++ piece)
passed_more s text piece p = record {
  inside = omega (arith, p.inside, length-append text piece);
  few = p.few;
  behind = λ more.
      ap text_len (append_assoc text piece more) ∙ p.behind (piece ++ more)
      ∙ ap (λ (bs : List ℕ). s.len + extent s.within s.braces bs) (sym (append_assoc (drop s.len text) piece more) ∙ ap (λ (bs : List ℕ). bs ++ more) (sym (drop-append-le s.len text piece p.inside)));
}

pub begun_more : (frame : Frame) (bytes piece : List ℕ) (b : Begun) → IsBegun frame bytes b → IsBegun frame (bytes ++ piece) b
begun_more frame bytes piece b begun =
    let tail : drop b.passed (bytes ++ piece) ≡ drop b.passed bytes ++ piece = drop-append-le b.passed bytes piece (omega (arith, begun.inside)) in
    record {
      inside = omega (arith, begun.inside, length-append bytes piece);
      next = λ more.
          ap (next_in frame) (append_assoc bytes piece more) ∙ begun.next (piece ++ more)
          ∙ ap (text_here b.frame) (sym (append_assoc (drop b.passed bytes) piece more) ∙ ap (λ (bs : List ℕ). bs ++ more) (sym tail));
      scanned = subst (HasPassed b.scan) (sym tail) (passed_more b.scan (drop b.passed bytes) piece begun.scanned);
    }
