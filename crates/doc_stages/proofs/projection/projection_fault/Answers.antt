use Rattle.std.proofs.Common.{◌≡◌, Some, None, ap, sym, ◌∙◌}
use Rattle.std.specs.Option.{option_or}
use Rattle.bson_doc.specs.Bson.{value_of}
use Rattle.bson_doc.specs.Document.{tree_of}
use Rattle.doc_stages.specs.Projection.{named_fault, projection_fault}
use Rattle.doc_stages.proofs.Keeping.{projection_fault-with_first}
use Rattle.doc_stages.proofs.projection.projection_fault.Goals as goal

pub loop-name-preserved : goal.loop-name-preserved
loop-name-preserved c =
    let name = c.in-Some.name.now in
    let value = value_of c.in-Some.value.now in
    let rest = tree_of c.next.new.self in
    let inclusion = c.args.inclusion in
    let none : named_fault inclusion name value ≡ None = sym c.named_fault.ensures ∙ c.in_default.is in
    c.loop-name.invariant ∙ ap (λ ps. projection_fault inclusion (tree_of ps)) c.in-Some.ensures.steps
    ∙ projection_fault-with_first inclusion name value rest
    ∙ ap (λ o. option_or o (projection_fault inclusion rest)) none

pub returns-in-Some-named_fault : goal.returns-in-Some-named_fault
returns-in-Some-named_fault c =
    let name = c.in-Some.name.now in
    let value = value_of c.in-Some.value.now in
    let rest = tree_of c.next.new.self in
    let inclusion = c.args.inclusion in
    let fault : Some c.in-Some-named_fault.fault ≡ named_fault inclusion name value = c.in-Some-named_fault.ensures in
    sym (c.loop-name.invariant ∙ ap (λ ps. projection_fault inclusion (tree_of ps)) c.in-Some.ensures.steps
    ∙ projection_fault-with_first inclusion name value rest
    ∙ ap (λ o. option_or o (projection_fault inclusion rest)) (sym fault))
