use Rattle.std.proofs.Common.{arith, refl, ◌<◌, ◌^◌, ◌++◌, ◌∙◌, ap, List, ℕ, length}
use Rattle.std.proofs.lemmas.Result.{err_from_is_err_and}
use Rattle.bson_elem.specs.Spelling.{document, elements}
use Rattle.bson_doc.specs.Document.{tree_of}
use Rattle.bson_doc.proofs.Writing.{is_reason, length_refused, spells_formed}
use Rattle.bson_elem.specs.declared.number.TheConstants.{MAX_LEN}
use Rattle.bson_doc.proofs.documents.Document.to_raw.Goals as goal

pub returns-in_err-check_document-clause-refused :
    goal.returns-in_err-check_document-clause-refused
returns-in_err-check_document-clause-refused c =
    let told = err_from_is_err_and c.from_residual.result c.from_residual.ensures.1 in
    rw (told.1, told.2) (is_reason (tree_of c.args.self.now) c.in_err-check_document.field-0.0 c.in_err-check_document.ensures.reason)

pub from_spelled-requires : goal.from_spelled-requires
from_spelled-requires c =
    let short : length (document (elements (tree_of c.args.self.now))) < 2 ^ 31 = omega (arith, c.in-Some.ensures.within) in
    ∣ (
      tree_of c.args.self.now,
      spells_formed (tree_of c.args.self.now) c.write_document.new.out.items c.in_ok-check_document.ensures.reason c.in-Some.ensures.formed
          (c.in-Some.ensures.added ∙ ap (λ (x : List ℕ). x ++ document (elements (tree_of c.args.self.now))) c.new-out.ensures.items) short,
    ) ∣₁

pub returns-in-Some-clause-written : goal.returns-in-Some-clause-written
returns-in-Some-clause-written c =
    let short : length (document (elements (tree_of c.args.self.now))) < 2 ^ 31 = omega (arith, c.in-Some.ensures.within) in
    spells_formed (tree_of c.args.self.now) _ c.in_ok-check_document.ensures.reason c.in-Some.ensures.formed
    (c.from_spelled.ensures ∙ c.in-Some.ensures.added ∙ ap (λ (x : List ℕ). x ++ document (elements (tree_of c.args.self.now))) c.new-out.ensures.items) short

pub returns-in-None-clause-refused : goal.returns-in-None-clause-refused
returns-in-None-clause-refused c =
    length_refused (tree_of c.args.self.now) MAX_LEN c.refusal_of.result refl c.in_ok-check_document.ensures.reason
    (c.refusal_of.ensures MAX_LEN (length (document (elements (tree_of c.args.self.now)))) c.room_after_document.ensures)
