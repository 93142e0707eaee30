-- Quoted text.
use Rattle.std.proofs.Common.{Option, Result, Ok, Err, OnOk, ◌∷◌, [], ℕ, List, arith}
use Rattle.std.specs.Io.KnownBytes.{Appends}
use Rattle.std.proofs.KnownBytes.{Appends-trans}
use Rattle.std.specs.List.{flat_map}
use Rattle.text_writer.proofs.Lemmas.{KeepsPlain}
use Rattle.bson_text.specs.Text.{escaped, quoted}

-- a byte that needs no escape is written as it is
pub plain_kept : KeepsPlain escaped
plain_kept b h = grind (arith)

-- the closing quote is written
pub quoted_end : {E : Type 0} (r : Result (Unit {0}) E) (a b c d : Option (List ℕ)) (text : List ℕ)
    → Appends a b (34 ∷ []) → Appends b c (flat_map escaped text) → OnOk r (Appends c d (34 ∷ []))
    → OnOk r (Appends a d (quoted text))
quoted_end (Err x) a b c d text opened inside closed = tt
quoted_end (Ok x) a b c d text opened inside closed =
    Appends-trans a b d (34 ∷ []) _ opened (Appends-trans b c d _ (34 ∷ []) inside closed)
