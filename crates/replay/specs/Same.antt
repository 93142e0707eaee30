-- Answers that are the same but for the fields that aren't compared.
use Rattle.std.specs.Prelude.{◌≡◌, ℕ, List, [], ◌∷◌}
use Rattle.bson_elem.specs.{Tree}
use Rattle.wire_msg.specs.{Message, Sequence}
use Rattle.replay.specs.Stripped.{AreSame}

-- Both are as many, and each one is like the other in its place.
abbrev pub OneByOne : {A : Type 0} → (A → A → Type 0) → List A → List A → Type 0
OneByOne IsLike [] [] = Unit {0}
OneByOne IsLike [] (y ∷ ys) = ⊥
OneByOne IsLike (x ∷ xs) [] = ⊥
OneByOne IsLike (x ∷ xs) (y ∷ ys) = IsLike x y × OneByOne IsLike xs ys

-- One by one, the documents are the same but for the fields of these names.
abbrev pub AreSameDocuments : List (List ℕ) → List Tree → List Tree → Type 0
AreSameDocuments names ts us = OneByOne (AreSame names) ts us

-- The sequences have the same identifier, and the same documents but for the fields of these names.
abbrev pub IsSameSequence : List (List ℕ) → Sequence → Sequence → Type 0
IsSameSequence names q r =
    (q.identifier ≡ r.identifier) × AreSameDocuments names q.documents r.documents

-- The messages have the same moreToCome, and the same body and, one by one, the same sequences but
-- for the fields of these names. Their ids and exhaustAllowed aren't compared.
abbrev pub AreSameMessages : List (List ℕ) → Message → Message → Type 0
AreSameMessages names m n =
    (m.flags.more_to_come ≡ n.flags.more_to_come)
    × AreSame names m.content.body n.content.body
    × OneByOne (IsSameSequence names) m.content.sequences n.content.sequences
