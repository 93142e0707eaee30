-- Text that is escaped, run by run. A run is bytes that need no escape.
use Rattle.std.proofs.Common.{◌≡◌, ◌+◌, ◌-◌, ◌++◌, ◌∷◌, [], ℕ, List, Option, Some, None, Result, Ok, Err, OnOk, Bool, true, false, not, cond, suc, ap, sym, subst, ◌∙◌, refl, arith, take, drop, length, length-take, get_or, ◌<◌, ◌≤◌}
use Rattle.std.specs.List.{flat_map, position, position_or_len}
use Rattle.std.specs.Io.KnownBytes.{Appends, append_known}
use Rattle.std.proofs.Math.Seq.{take-length}
use Rattle.std.proofs.lemmas.Bool.{ltb-false}
use Rattle.std.proofs.lemmas.Grind.{flat_map-append}
use Rattle.std.proofs.lemmas.List.{get_or-take}
use Rattle.std.proofs.lemmas.List.Quantifiers.{position-Some}
use Rattle.std.proofs.lemmas.List.Sums.{prefix_len_passes}
use Rattle.text_writer.specs.Escapes.{needs_escape}
use Rattle.text_writer.proofs.Progress.{last_written, piece_written}

-- a byte that needs no escape is written as it is
abbrev pub KeepsPlain : (ℕ → List ℕ) → Type 0
KeepsPlain escaped = (b : ℕ) → needs_escape b ≡ false → escaped b ≡ b ∷ []

-- a text with no byte that needs an escape is written as it is
pub flat_map-plain : (escaped : ℕ → List ℕ) → KeepsPlain escaped → (xs : List ℕ) → ((k : ℕ) → k < length xs → needs_escape (get_or xs k 0) ≡ false)
    → flat_map escaped xs ≡ xs
flat_map-plain escaped keeps [] h = refl
flat_map-plain escaped keeps (x ∷ xs) h =
    let here = keeps x (h 0 (omega arith)) in
    let rest = flat_map-plain escaped keeps xs (λ k lt. h (suc k) (omega arith)) in
    ap (λ l. l ++ flat_map escaped xs) here ∙ ap (λ l. x ∷ l) rest

-- the bytes before the first that needs an escape are written as they are
pub run_before : (escaped : ℕ → List ℕ) → KeepsPlain escaped → (xs : List ℕ) (at : ℕ) → position needs_escape xs ≡ Some at → flat_map escaped (take at xs) ≡ take at xs
run_before escaped keeps xs at h =
    let found = position-Some needs_escape xs at 0 h in
    flat_map-plain escaped keeps (take at xs)
    (λ k lt. let below : k < at = omega (arith, length-take at xs) in rw (get_or-take at xs k 0 below) (found.2 k below))

-- a choice that gives `None` had a false test
none_chosen : (b : Bool) (m : ℕ) → cond b (Some m) None ≡ None → b ≡ false
none_chosen true m h = cc h
none_chosen false m h = refl

-- a test that failed
not_true : (b : Bool) → not b ≡ true → b ≡ false
not_true true h = sym h
not_true false h = refl

-- a text in which no byte to escape is found is written as it is
pub run_alone : (escaped : ℕ → List ℕ) → KeepsPlain escaped → (xs : List ℕ) → position needs_escape xs ≡ None → flat_map escaped xs ≡ xs
run_alone escaped keeps xs h =
    let test = none_chosen _ _ h in
    let long : length xs ≤ position_or_len needs_escape xs = ltb-false _ _ test in
    flat_map-plain escaped keeps xs
    (λ k lt. not_true _ (prefix_len_passes (λ x. not (needs_escape x)) xs k 0 (omega arith)))

-- bytes that aren't empty are the first and the others
first_and_others : (xs : List ℕ) → 0 < length xs → xs ≡ get_or xs 0 0 ∷ take (length xs - 1) (drop 1 xs)
first_and_others [] h = absurd (omega arith)
first_and_others (x ∷ xs) h = let fewer : length (x ∷ xs) - 1 ≡ length xs = omega arith in rw (fewer, take-length) refl

-- a run and the byte after it are written
pub run_written : (escaped : ℕ → List ℕ) → KeepsPlain escaped → (a b c d : Option (List ℕ)) (all rest run from : List ℕ) (at : ℕ)
    → position needs_escape rest ≡ Some at → run ≡ take at rest → rest ≡ run ++ from → length from + at ≡ length rest
    → Appends a (append_known b (flat_map escaped rest)) all → Appends b c run → Appends c d (escaped (get_or from 0 0))
    → Appends a (append_known d (flat_map escaped (take (length from - 1) (drop 1 from)))) all
run_written escaped keeps a b c d all rest run from at found front whole count p q r =
    let first = get_or from 0 0 in
    let after = take (length from - 1) (drop 1 from) in
    let within : at < length rest = (position-Some needs_escape rest at 0 found).0 in
    let next = first_and_others from (omega arith) in
    let plain : flat_map escaped run ≡ run = rw front (run_before escaped keeps rest at found) in
    let split : flat_map escaped rest ≡ run ++ (escaped first ++ flat_map escaped after) =
    ap (flat_map escaped) (whole ∙ ap (λ l. run ++ l) next) ∙ flat_map-append escaped run (first ∷ after)
    ∙ ap (λ l. l ++ (escaped first ++ flat_map escaped after)) plain in
    let left = subst (λ l. Appends a (append_known b l) all) split p in
    piece_written a c d (escaped first) (flat_map escaped after) all (piece_written a b c run _ all left q) r

-- the last run is written
pub runs_end : (escaped : ℕ → List ℕ) → KeepsPlain escaped → {E : Type 0} (r : Result (Unit {0}) E) (a b c : Option (List ℕ)) (bytes rest : List ℕ)
    → position needs_escape rest ≡ None → Appends a (append_known b (flat_map escaped rest)) (flat_map escaped bytes)
    → OnOk r (Appends b c rest) → OnOk r (Appends a c (flat_map escaped bytes))
runs_end escaped keeps (Err x) a b c bytes rest none left last = tt
runs_end escaped keeps (Ok x) a b c bytes rest none left last =
    last_written a b c rest (flat_map escaped bytes) (subst (λ l. Appends a (append_known b l) (flat_map escaped bytes)) (run_alone escaped keeps rest none) left) last

-- a text with no byte that needs an escape is written
pub plain_written : (escaped : ℕ → List ℕ) → KeepsPlain escaped → (a b : Option (List ℕ)) (text : List ℕ) → position needs_escape text ≡ None → Appends a b text
    → Appends a b (flat_map escaped text)
plain_written escaped keeps a b text none written = subst (Appends a b) (sym (run_alone escaped keeps text none)) written
