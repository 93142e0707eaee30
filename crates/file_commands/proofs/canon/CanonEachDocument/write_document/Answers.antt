use Rattle.std.proofs.Common.{◌≡◌, ℕ, Bool, false, List, Option, Some, None, Result, length, cond, sym, ap, subst, ◌∙◌}
use Rattle.std.specs.Prelude.{IfOk, nat_lt}
use Rattle.bson_elem.specs.Trees.{Tree}
use Rattle.bson_elem.specs.Spelling.{document, elements}
use Rattle.bson_doc.specs.Plain.{plain}
use Rattle.bson_doc.proofs.Lemmas.{plain_where_named}
use Rattle.file_commands.specs.declared.documents.Written.{Written}
use Rattle.file_commands.specs.Canon.{canon_of, in_form}
use Rattle.file_commands.specs.DocumentWalk.{IsWritten}
use Rattle.file_commands.proofs.canon.CanonEachDocument.write_document.Goals as goal

-- the bytes of the canonical form were written
form_written : {E : Type 0} (r : Result Written E) (limit : ℕ) (hex : Bool) (bytes : List ℕ) (t : Tree) (old new : Option (List ℕ)) → bytes ≡ document (elements (plain t))
    → IfOk r (λ written. IsWritten (λ shown. cond (nat_lt limit (length bytes)) None (Some (in_form hex bytes)) ≡ shown) written old new)
    → IfOk r (λ written. IsWritten (λ shown. canon_of limit hex t ≡ shown) written old new)
form_written r limit hex bytes t old new is written =
    subst (λ (b : List ℕ). IfOk r (λ w. IsWritten (λ shown. cond (nat_lt limit (length b)) None (Some (in_form hex b)) ≡ shown) w old new)) is written

pub returns-then-canonical : goal.returns-then-canonical
returns-then-canonical g c = λ t s.
    let same : plain t ≡ t = plain_where_named false 0 t (sym (c.requires.canonical t s) ∙ c.if-canonical.true) in
    let is : c.as_bytes.result.now ≡ document (elements (plain t)) = c.as_bytes.ensures.bytes ∙ s.parts ∙ ap (λ (x : Tree). document (elements x)) (sym same) in
    form_written c.write_bytes.result c.args.self.now.limit c.args.self.now.hex c.as_bytes.result.now t _ _ is c.write_bytes.ensures
