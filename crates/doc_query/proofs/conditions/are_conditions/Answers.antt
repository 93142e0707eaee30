use Rattle.std.proofs.Common.{◌≡◌, Bool, true, false, ◌&&◌, ap, sym, ◌∙◌}
use Rattle.bson_doc.specs.Bson.{value_of}
use Rattle.bson_doc.specs.Document.{tree_of}
use Rattle.doc_query.specs.Conditions.{are_conditions, is_named_operand, operator_of}
use Rattle.doc_query.proofs.Naming.{are_conditions-with_first}
use Rattle.doc_query.proofs.conditions.are_conditions.Goals as goal

pub loop-name-preserved : goal.loop-name-preserved
loop-name-preserved c =
    let name = c.in-Some.name.now in
    let operand = value_of c.in-Some.operand.now in
    let test : is_named_operand (operator_of name) operand ≡ true = sym c.is_named_operand.ensures ∙ c.if-not-is_named_operand.false in
    c.loop-name.invariant ∙ ap (λ ps. are_conditions (tree_of ps)) c.in-Some.ensures.steps
    ∙ are_conditions-with_first name operand (tree_of c.next.new.self)
    ∙ ap (λ (b : Bool). b && are_conditions (tree_of c.next.new.self)) test

pub returns-then-not-is_named_operand : goal.returns-then-not-is_named_operand
returns-then-not-is_named_operand c =
    let name = c.in-Some.name.now in
    let operand = value_of c.in-Some.operand.now in
    let test : is_named_operand (operator_of name) operand ≡ false = sym c.is_named_operand.ensures ∙ c.if-not-is_named_operand.true in
    sym (c.loop-name.invariant ∙ ap (λ ps. are_conditions (tree_of ps)) c.in-Some.ensures.steps
    ∙ are_conditions-with_first name operand (tree_of c.next.new.self)
    ∙ ap (λ (b : Bool). b && are_conditions (tree_of c.next.new.self)) test)
