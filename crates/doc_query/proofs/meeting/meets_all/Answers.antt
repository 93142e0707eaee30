use Rattle.std.proofs.Common.{◌≡◌, Bool, true, false, ◌&&◌, ap, sym, ◌∙◌}
use Rattle.bson_doc.specs.Bson.{value_of}
use Rattle.bson_doc.specs.Document.{tree_of}
use Rattle.doc_query.specs.Paths.{own_values}
use Rattle.doc_query.specs.Conditions.{meets_all, meets_named, operator_of}
use Rattle.doc_query.proofs.Naming.{meets_all-with_first}
use Rattle.doc_query.proofs.meeting.meets_all.Goals as goal

pub loop-name-preserved : goal.loop-name-preserved
loop-name-preserved c =
    let name = c.in-Some.name.now in
    let operand = value_of c.in-Some.operand.now in
    let own = own_values c.args.own in
    let test : meets_named (operator_of name) own operand ≡ true = sym c.meets_named.ensures ∙ c.if-not-meets_named.false in
    c.loop-name.invariant ∙ ap (λ ps. meets_all (tree_of ps) own) c.in-Some.ensures.steps
    ∙ meets_all-with_first name operand (tree_of c.next.new.self) own
    ∙ ap (λ (b : Bool). b && meets_all (tree_of c.next.new.self) own) test

pub returns-then-not-meets_named : goal.returns-then-not-meets_named
returns-then-not-meets_named c =
    let name = c.in-Some.name.now in
    let operand = value_of c.in-Some.operand.now in
    let own = own_values c.args.own in
    let test : meets_named (operator_of name) own operand ≡ false = sym c.meets_named.ensures ∙ c.if-not-meets_named.true in
    sym (c.loop-name.invariant ∙ ap (λ ps. meets_all (tree_of ps) own) c.in-Some.ensures.steps
    ∙ meets_all-with_first name operand (tree_of c.next.new.self) own
    ∙ ap (λ (b : Bool). b && meets_all (tree_of c.next.new.self) own) test)
