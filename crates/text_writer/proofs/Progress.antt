-- What a writer holds while a text is written piece by piece: with what is left appended, it is the whole.
use Rattle.std.proofs.Common.{ℕ, List, ◌++◌, Option, None, Some, Result, Ok, Err, OnOk, ap, ◌∙◌, append_assoc}
use Rattle.std.specs.Io.KnownBytes.{Appends, append_known}
use Rattle.std.proofs.KnownBytes.{Appends-trans}

-- the next piece is written
pub piece_written : (a b c : Option (List ℕ)) (piece rest all : List ℕ)
    → Appends a (append_known b (piece ++ rest)) all → Appends b c piece → Appends a (append_known c rest) all
piece_written None b c piece rest all p q = tt
piece_written (Some x) None c piece rest all p q = absurd p
piece_written (Some x) (Some y) None piece rest all p q = absurd q
piece_written (Some x) (Some y) (Some z) piece rest all p q = ap (λ l. l ++ rest) q ∙ append_assoc y piece rest ∙ p

-- the last piece is written
pub last_written : (a b c : Option (List ℕ)) (piece all : List ℕ)
    → Appends a (append_known b piece) all → Appends b c piece → Appends a c all
last_written None b c piece all p q = tt
last_written (Some x) None c piece all p q = absurd p
last_written (Some x) (Some y) None piece all p q = absurd q
last_written (Some x) (Some y) (Some z) piece all p q = q ∙ p

-- a word and the value after it are written
pub word_first : {E : Type 0} (r : Result (Unit {0}) E) (a b c : Option (List ℕ)) (word value : List ℕ)
    → Appends a b word → OnOk r (Appends b c value) → OnOk r (Appends a c (word ++ value))
word_first (Err e) a b c word value p q = tt
word_first (Ok x) a b c word value p q = Appends-trans a b c word value p q
