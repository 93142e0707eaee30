use Rattle.std.proofs.Common.{◌≡◌, IfErr, Some, Result, ap, sym, subst, ◌∙◌}
use Rattle.bson_raw.specs.{TreeValue}
use Rattle.bson_doc.specs.Bson.{value_of}
use Rattle.bson_doc.specs.declared.bson_values.Bson.TheVariants as values
use Rattle.doc_query.specs.declared.failure.CommandError.{CommandError}
use Rattle.doc_query.specs.{IsFailure, steps}
use Rattle.doc_update.specs.Setting.{edited, placed}
use Rattle.doc_update.proofs.Placings.{placed_array}
use Rattle.doc_update.proofs.setting.+placing.Goals as goal

pub placed-returns-in-Some-Array-clause-refused : goal.placed-returns-in-Some-Array-clause-refused
placed-returns-in-Some-Array-clause-refused t c =
    let path = c.in-Some.path.now in
    let make = edited c.args.edit (value_of c.args.operand.now) in
    let is : c.in-Some-Array.field-0.now ≡ values.Array c.in-Some-Array.array = rw c.in-Some-Array.is at c.in-Some-Array.field-0-is in
    rw (c.in-Some.is, c.in-Some-Array.is)
    (subst (λ (x : Result TreeValue CommandError). IfErr c.with_element.result (λ e. IsFailure x e))
    (sym (ap (λ b. placed make (steps path) (Some (value_of b))) is ∙ placed_array make path _ _ _ _ c.first_step.ensures.first c.as_slice.ensures))
    c.with_element.ensures.refused)
