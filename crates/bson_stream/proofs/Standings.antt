-- How bytes stand that come in pieces.
use Rattle.std.proofs.Common.{◌≡◌, ℕ, ◌+◌, ◌-◌, ◌^◌, ◌<◌, ◌≤◌, Bool, true, false, cond, ltb, leb, eqb, ◌||◌, List, [], ◌∷◌, ◌++◌, length, get_or, take, drop, Result, Ok, Err, refl, sym, ap, subst, ◌∙◌, arith, append-nil, length-append, length-drop}
use Rattle.std.specs.Int.{w32, from_le_bytes}
use Rattle.std.proofs.lemmas.Bool.{ltb-false, leb-false, leb-true, le-ltb, lt-ltb, lt-leb, or_parts}
use Rattle.std.proofs.lemmas.List.{take-append-le, drop-append-le, get_or_append_left, take-take, take_at}
use Rattle.std.proofs.lemmas.Nat.{from_le_bytes-to_le_bytes_4}
use Rattle.bson_elem.specs.declared.fault.BsonCause.TheVariants.{Truncated, Length, End}
use Rattle.bson_elem.specs.declared.fault.BsonFault.{BsonFault}
use Rattle.bson_elem.specs.{FrontFault, IsBytes, Spells, Tree, elements, fault, little}
use Rattle.bson_elem.specs.Checks.{document_at}
use Rattle.bson_elem.specs.Faults.{of_length, of_elements}
use Rattle.bson_elem.proofs.Lemmas.{length-document, no_front}
use Rattle.bson_raw.specs.{IsSpelled}
use Rattle.bson_stream.specs.Standing.{IsBad, IsLength, IsOpen, announced, in_document, in_length}

-- ---- the length in front

pub announced_front : (a b : List ℕ) → 4 ≤ length a → announced (a ++ b) ≡ announced a
announced_front a b le = ap (from_le_bytes w32) (take-append-le 4 a b le)

pub announced_take : (n : ℕ) (b : List ℕ) → 4 ≤ n → announced (take n b) ≡ announced b
announced_take n b le = ap (from_le_bytes w32) (take-take 4 n b le)

-- a document announces its own length, which is good
pub spelled_announced : (t : Tree) (b rest : List ℕ) → Spells t b → announced (b ++ rest) ≡ length b
spelled_announced t b rest s =
    let size : length b ≡ length (elements t) + 5 = ap length s.parts ∙ length-document (elements t) in
    let front : take 4 b ≡ little (length (elements t) + 5) = ap (take 4) s.parts ∙ take_at (little (length (elements t) + 5)) (elements t ++ 0 ∷ []) 4 refl in
    announced_front b rest (omega (arith, size)) ∙ ap (from_le_bytes w32) front ∙ from_le_bytes-to_le_bytes_4 (length (elements t) + 5) (omega (arith, size, s.short)) ∙ sym size

pub spelled_length : (t : Tree) (b : List ℕ) → Spells t b → IsLength (length b)
spelled_length t b s = (omega (arith, ap length s.parts, length-document (elements t)), s.short)

-- ---- what more bytes decide

pub four_there : (b : List ℕ) → (IsOpen b → ⊥) → 4 ≤ length b
four_there b decided = let lt : length b < 4 → ⊥ = λ h. decided (in_length h) in omega (arith, lt)

-- what more bytes would decide, bytes in front of it would too
pub open_front : (a b : List ℕ) → IsOpen (a ++ b) → IsOpen a
open_front a b (in_length lt) = in_length (omega (arith, lt, length-append a b))
open_front a b (in_document four is lt) = front (leb 4 (length a)) refl
  where
    front : (known : Bool) → leb 4 (length a) ≡ known → IsOpen a
    front false e = in_length (leb-false _ _ e)
    front true e =
        let le : 4 ≤ length a = leb-true _ _ e in
        let same = announced_front a b le in
        in_document le (subst IsLength same is) (omega (arith, lt, same, length-append a b))

pub whole_there : (b : List ℕ) → (IsOpen b → ⊥) → IsLength (announced b) → announced b ≤ length b
whole_there b decided is = let lt : length b < announced b → ⊥ = λ h. decided (in_document (four_there b decided) is h) in omega (arith, lt)

pub nothing_open : IsOpen []
nothing_open = in_length {bytes = []} (omega arith)

-- a document is whole
pub spelled_not_open : (b : List ℕ) → IsSpelled b → IsOpen b → ⊥
spelled_not_open b s (in_length lt) = omega (arith, lt, (spelled_length s.0 b s.1).0)
spelled_not_open b s (in_document four is lt) = omega (arith, lt, ap announced (append-nil b), spelled_announced s.0 b [] s.1)

pub spelled_not_bad : (start : ℕ) (b : List ℕ) (f : BsonFault) → IsBytes b → IsSpelled b → IsBad start b f → ⊥
spelled_not_bad start b f fits s bad = no_front b s.0 b [] bad.own fits s.1 (sym (append-nil b)) bad.first

-- ---- what is found at the front, step by step

abbrev Found : Type 0
Found = Result (List ℕ × List ℕ) BsonFault

-- what is found of so many bytes, which announce n, where the last byte of these, the elements and the rest are given
abbrev found_of : ℕ → ℕ → ℕ → List ℕ → List ℕ → Found
found_of count n last body rest = cond (ltb count 4) (Err (fault 0 Truncated)) (cond (ltb n 5 || leb (2 ^ 31) n) (Err (fault 0 Length)) (cond (ltb count n) (Err (fault 0 Truncated)) (cond (eqb last 0) (Ok (body, rest)) (Err (fault 0 End)))))

found : (b : List ℕ) → document_at 0 0 b ≡ found_of (length b) (announced b) (get_or b (announced b - 1) 0) (take (announced b - 5) (drop 4 b)) (drop (announced b) b)
unfolding document_at
found b = refl

-- the same, with more bytes behind it
abbrev with_more : List ℕ → Found → Found
with_more more (Ok x) = Ok (x.0, x.1 ++ more)
with_more more (Err f) = Err f

-- nothing changes but the rest
abbrev IsSame : ℕ → ℕ → ℕ → ℕ → ℕ → List ℕ → List ℕ → List ℕ → List ℕ → List ℕ → Type 0
IsSame count more_count n last more_last body more_body rest more_rest more =
    (n ≤ count) × (n ≤ more_count) × (more_last ≡ last) × (more_body ≡ body) × (more_rest ≡ rest ++ more)

same_last : (c : Bool) (body rest more : List ℕ) → cond c (Ok (body, rest ++ more)) (Err (fault 0 End)) ≡ with_more more (cond c (Ok (body, rest)) (Err (fault 0 End)))
same_last true body rest more = refl
same_last false body rest more = refl

same_length : (c : Bool) (count count' n last last' : ℕ) (body body' rest rest' more : List ℕ) → (ltb n 5 || leb (2 ^ 31) n) ≡ c → (IsLength n → IsSame count count' n last last' body body' rest rest' more) → cond c (Err (fault 0 Length)) (cond (ltb count' n) (Err (fault 0 Truncated)) (cond (eqb last' 0) (Ok (body', rest')) (Err (fault 0 End)))) ≡ with_more more (cond c (Err (fault 0 Length)) (cond (ltb count n) (Err (fault 0 Truncated)) (cond (eqb last 0) (Ok (body, rest)) (Err (fault 0 End)))))
same_length true count count' n last last' body body' rest rest' more e same = refl
same_length false count count' n last last' body body' rest rest' more e same =
    let o = or_parts _ _ e in
    let s = same (ltb-false _ _ o.0, leb-false _ _ o.1) in
    rw (le-ltb count n s.0, le-ltb count' n s.1, s.2, s.3, s.4) (same_last (eqb last 0) body rest more)

same_found : (count count' n last last' : ℕ) (body body' rest rest' more : List ℕ) → 4 ≤ count → 4 ≤ count' → (IsLength n → IsSame count count' n last last' body body' rest rest' more) → found_of count' n last' body' rest' ≡ with_more more (found_of count n last body rest)
same_found count count' n last last' body body' rest rest' more four four' same =
    rw (le-ltb count 4 four, le-ltb count' 4 four') (same_length (ltb n 5 || leb (2 ^ 31) n) count count' n last last' body body' rest rest' more refl same)

-- more bytes behind those that decide
found_longer : (b more : List ℕ) → 4 ≤ length b → (IsLength (announced b) → announced b ≤ length b) → document_at 0 0 (b ++ more) ≡ with_more more (document_at 0 0 b)
found_longer b more four whole =
    let n : ℕ = announced b in
    let longer : length (b ++ more) ≡ length b + length more = length-append b more in
    let same : IsLength n → IsSame (length b) (length (b ++ more)) n (get_or b (n - 1) 0) (get_or (b ++ more) (n - 1) 0) (take (n - 5) (drop 4 b)) (take (n - 5) (drop 4 (b ++ more))) (drop n b) (drop n (b ++ more)) more = λ is. (
      whole is,
      omega (arith, whole is, longer),
      get_or_append_left b more 0 (n - 1) (omega (arith, is.0, whole is)),
      ap (take (n - 5)) (drop-append-le 4 b more four) ∙ take-append-le (n - 5) (drop 4 b) more (omega (arith, is.0, whole is, length-drop 4 b)),
      drop-append-le n b more (whole is),
    ) in
    found (b ++ more)
    ∙ ap (λ (k : ℕ). found_of (length (b ++ more)) k (get_or (b ++ more) (k - 1) 0) (take (k - 5) (drop 4 (b ++ more))) (drop k (b ++ more))) (announced_front b more four)
    ∙ same_found (length b) (length (b ++ more)) n (get_or b (n - 1) 0) (get_or (b ++ more) (n - 1) 0) (take (n - 5) (drop 4 b)) (take (n - 5) (drop 4 (b ++ more))) (drop n b) (drop n (b ++ more)) more four (omega (arith, four, longer)) same
    ∙ ap (with_more more) (sym (found b))

-- a fault of bytes that decide is that of more bytes
pub fault_longer : (b more : List ℕ) (f : BsonFault) → (IsOpen b → ⊥) → FrontFault b f → FrontFault (b ++ more) f
fault_longer b more f decided (of_length e) = of_length (found_longer b more (four_there b decided) (whole_there b decided) ∙ ap (with_more more) e)
fault_longer b more f decided (of_elements body rest e chain) = of_elements body (rest ++ more) (found_longer b more (four_there b decided) (whole_there b decided) ∙ ap (with_more more) e) chain

-- bytes that decide nothing, if no more come
open_found : (count n last : ℕ) (body rest : List ℕ) → 4 ≤ count → IsLength n → count < n → found_of count n last body rest ≡ Err (fault 0 Truncated)
open_found count n last body rest four is lt = rw (le-ltb count 4 four, le-ltb n 5 is.0, lt-leb (2 ^ 31) n is.1, lt-ltb count n lt) refl

short_found : (count n last : ℕ) (body rest : List ℕ) → count < 4 → found_of count n last body rest ≡ Err (fault 0 Truncated)
short_found count n last body rest lt = rw (lt-ltb count 4 lt) refl

pub open_fault : (b : List ℕ) → IsOpen b → FrontFault b (fault 0 Truncated)
open_fault b (in_length lt) = of_length (found b ∙ short_found (length b) (announced b) (get_or b (announced b - 1) 0) (take (announced b - 5) (drop 4 b)) (drop (announced b) b) lt)
open_fault b (in_document four is lt) = of_length (found b ∙ open_found (length b) (announced b) (get_or b (announced b - 1) 0) (take (announced b - 5) (drop 4 b)) (drop (announced b) b) four is lt)
