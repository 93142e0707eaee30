use Rattle.std.proofs.Common.{◌≡◌, Bool, true, false, ◌&&◌, ap, sym, ◌∙◌}
use Rattle.bson_doc.specs.Bson.{value_of}
use Rattle.bson_doc.specs.Document.{tree_of}
use Rattle.doc_stages.specs.Sorting.{are_ordered, field_in, is_ordered}
use Rattle.doc_stages.proofs.Naming.{are_ordered-with_first}
use Rattle.doc_stages.proofs.sorting.are_ordered.Goals as goal

pub loop-name-preserved : goal.loop-name-preserved
loop-name-preserved c =
    let name = c.in-Some.name.now in
    let value = value_of c.args.value.now in
    let rest = tree_of c.next.new.self in
    let test : is_ordered (field_in name value) ≡ true = ap is_ordered (sym c.field_in.ensures) ∙ sym c.is_ordered.ensures ∙ c.if-not-is_ordered.false in
    c.loop-name.invariant ∙ ap (λ ps. are_ordered (tree_of ps) value) c.in-Some.ensures.steps
    ∙ are_ordered-with_first name _ rest value
    ∙ ap (λ (b : Bool). b && are_ordered rest value) test

pub returns-then-not-is_ordered : goal.returns-then-not-is_ordered
returns-then-not-is_ordered c =
    let name = c.in-Some.name.now in
    let value = value_of c.args.value.now in
    let rest = tree_of c.next.new.self in
    let test : is_ordered (field_in name value) ≡ false = ap is_ordered (sym c.field_in.ensures) ∙ sym c.is_ordered.ensures ∙ c.if-not-is_ordered.true in
    sym (c.loop-name.invariant ∙ ap (λ ps. are_ordered (tree_of ps) value) c.in-Some.ensures.steps
    ∙ are_ordered-with_first name _ rest value
    ∙ ap (λ (b : Bool). b && are_ordered rest value) test)
