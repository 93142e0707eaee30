use Rattle.std.proofs.Common.{◌≡◌, Bool, true, false, ◌&&◌, ap, sym, ◌∙◌}
use Rattle.bson_doc.specs.Bson.{value_of}
use Rattle.bson_doc.specs.Document.{tree_of}
use Rattle.test_store.specs.Indexes.{has_index_fields, may_have}
use Rattle.test_store.proofs.Indexing.{fields_with_first}
use Rattle.test_store.proofs.indexes.has_index_fields.Goals as goal

pub loop-name-preserved : goal.loop-name-preserved
loop-name-preserved c =
    let name = c.in-Some.name.now in
    let value = value_of c.in-Some.value.now in
    let test : may_have name value ≡ true = sym c.may_have.ensures ∙ c.if-not-may_have.false in
    c.loop-name.invariant ∙ ap (λ ps. has_index_fields (tree_of ps)) c.in-Some.ensures.steps
    ∙ fields_with_first name value (tree_of c.next.new.self)
    ∙ ap (λ (b : Bool). b && has_index_fields (tree_of c.next.new.self)) test

pub returns-then-not-may_have : goal.returns-then-not-may_have
returns-then-not-may_have c =
    let name = c.in-Some.name.now in
    let value = value_of c.in-Some.value.now in
    let test : may_have name value ≡ false = sym c.may_have.ensures ∙ c.if-not-may_have.true in
    sym (c.loop-name.invariant ∙ ap (λ ps. has_index_fields (tree_of ps)) c.in-Some.ensures.steps
    ∙ fields_with_first name value (tree_of c.next.new.self)
    ∙ ap (λ (b : Bool). b && has_index_fields (tree_of c.next.new.self)) test)
