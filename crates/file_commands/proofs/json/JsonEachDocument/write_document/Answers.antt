use Rattle.std.proofs.Common.{◌≡◌, ◌∙◌, ◌++◌, ℕ, List, Option, refl, subst}
use Rattle.std.specs.Io.KnownBytes.{Appends}
use Rattle.std.proofs.KnownBytes.{Appends-trans}
use Rattle.file_commands.proofs.json.JsonEachDocument.write_document.Goals as goal

-- what stands before a value, the value and what stands behind it were written
joined : (old a b new : Option (List ℕ)) (front json end x y : List ℕ) → Appends old a x → x ≡ front → Appends a b json → Appends b new y → y ≡ end → Appends old new (front ++ (json ++ end))
joined old a b new front json end x y p is q r is' = Appends-trans old a new front (json ++ end) (subst (Appends old a) is p) (Appends-trans a b new json end q (subst (Appends b new) is' r))

pub returns : goal.returns
returns g c = λ t s.
    let json = c.in_ok-write_json.ensures t s in (
      _,
      (json.0, json.1, refl),
      joined _ _ _ _ _ json.0 _ _ _ c.in_ok-write_all.ensures.bytes (c.as_bytes.ensures.value ∙ c.front_text.ensures) json.2 c.in_ok-write_all-2.ensures.bytes
          (c.as_bytes-2.ensures.value ∙ c.end_text.ensures),
    )
