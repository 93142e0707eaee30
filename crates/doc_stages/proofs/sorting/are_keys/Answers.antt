use Rattle.std.proofs.Common.{◌≡◌, Bool, true, false, ◌&&◌, ap, sym, ◌∙◌}
use Rattle.bson_doc.specs.Bson.{value_of}
use Rattle.bson_doc.specs.Document.{tree_of}
use Rattle.doc_stages.specs.Sorting.{are_keys, is_key}
use Rattle.doc_stages.proofs.Naming.{are_keys-with_first}
use Rattle.doc_stages.proofs.sorting.are_keys.Goals as goal

pub loop-name-preserved : goal.loop-name-preserved
loop-name-preserved c =
    let name = c.in-Some.name.now in
    let direction = value_of c.in-Some.direction.now in
    let test : is_key name direction ≡ true = sym c.is_key.ensures ∙ c.if-not-is_key.false in
    c.loop-name.invariant ∙ ap (λ ps. are_keys (tree_of ps)) c.in-Some.ensures.steps
    ∙ are_keys-with_first name direction (tree_of c.next.new.self)
    ∙ ap (λ (b : Bool). b && are_keys (tree_of c.next.new.self)) test

pub returns-then-not-is_key : goal.returns-then-not-is_key
returns-then-not-is_key c =
    let name = c.in-Some.name.now in
    let direction = value_of c.in-Some.direction.now in
    let test : is_key name direction ≡ false = sym c.is_key.ensures ∙ c.if-not-is_key.true in
    sym (c.loop-name.invariant ∙ ap (λ ps. are_keys (tree_of ps)) c.in-Some.ensures.steps
    ∙ are_keys-with_first name direction (tree_of c.next.new.self)
    ∙ ap (λ (b : Bool). b && are_keys (tree_of c.next.new.self)) test)
