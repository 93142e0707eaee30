-- Texts of which one of a sort is written.
use Rattle.std.proofs.Common.{◌++◌, ℕ, List, Option, Result, Ok, Err, OnOk}
use Rattle.std.specs.Io.KnownBytes.{Appends}
use Rattle.std.proofs.KnownBytes.{Appends-trans}

-- one of the texts was written between a and b
abbrev pub One : Option (List ℕ) → Option (List ℕ) → (List ℕ → Type 0) → Type 0
One a b IsText = (text : List ℕ) × IsText text × Appends a b text

-- a text was written, and that is one of them
pub exact_one : {E : Type 0} (r : Result (Unit {0}) E) (a b : Option (List ℕ)) (text : List ℕ) (IsText : List ℕ → Type 0)
    → IsText text → OnOk r (Appends a b text) → OnOk r (One a b IsText)
exact_one (Err e) a b text IsText p q = tt
exact_one (Ok x) a b text IsText p q = (text, p, q)

-- a word, and then one of them
pub word_then_one : {E : Type 0} (r : Result (Unit {0}) E) (a b c : Option (List ℕ)) (word : List ℕ) (IsPart IsText : List ℕ → Type 0)
    → ((part : List ℕ) → IsPart part → IsText (word ++ part)) → Appends a b word → OnOk r (One b c IsPart) → OnOk r (One a c IsText)
word_then_one (Err e) a b c word IsPart IsText f p q = tt
word_then_one (Ok x) a b c word IsPart IsText f p q = (word ++ q.0, f q.0 q.1, Appends-trans a b c word q.0 p q.2)

-- one of them, and then a word
pub one_then_word : {E : Type 0} (r : Result (Unit {0}) E) (a b c : Option (List ℕ)) (word : List ℕ) (IsPart IsText : List ℕ → Type 0)
    → ((part : List ℕ) → IsPart part → IsText (part ++ word)) → One a b IsPart → OnOk r (Appends b c word) → OnOk r (One a c IsText)
one_then_word (Err e) a b c word IsPart IsText f p q = tt
one_then_word (Ok x) a b c word IsPart IsText f p q = (p.0 ++ word, f p.0 p.1, Appends-trans a b c p.0 word p.2 q)
