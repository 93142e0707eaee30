use Rattle.std.proofs.Common.{◌≡◌, Bool, true, false, ap, sym, ◌∙◌}
use Rattle.std.specs.Prelude.{if◌then◌else◌}
use Rattle.bson_doc.specs.Bson.{value_of}
use Rattle.bson_doc.specs.Document.{tree_of}
use Rattle.doc_stages.specs.Projection.{includes, includes_from, is_id}
use Rattle.doc_stages.proofs.Keeping.{includes_from-with_first}
use Rattle.doc_stages.proofs.projection.is_inclusion.Goals as goal

pub loop-name-preserved : goal.loop-name-preserved
loop-name-preserved c =
    let name = c.in-Some.name.now in
    let value = value_of c.in-Some.value.now in
    let rest = tree_of c.next.new.self in
    let by_id = c.loop-name.by_id in
    let own : is_id name ≡ true = sym c.is_id.ensures ∙ c.if-not-is_id.false in
    c.loop-name.invariant ∙ ap (λ ps. includes_from by_id (tree_of ps)) c.in-Some.ensures.steps
    ∙ includes_from-with_first by_id name value rest
    ∙ ap (λ (b : Bool). if b then includes_from (includes value) rest else includes value) own
    ∙ ap (λ (b : Bool). includes_from b rest) (sym c.includes-by_id.ensures)

pub returns-then-not-is_id : goal.returns-then-not-is_id
returns-then-not-is_id c =
    let name = c.in-Some.name.now in
    let value = value_of c.in-Some.value.now in
    let rest = tree_of c.next.new.self in
    let other : is_id name ≡ false = sym c.is_id.ensures ∙ c.if-not-is_id.true in
    c.includes.ensures
    ∙ sym (c.loop-name.invariant ∙ ap (λ ps. includes_from c.loop-name.by_id (tree_of ps)) c.in-Some.ensures.steps
    ∙ includes_from-with_first c.loop-name.by_id name value rest
    ∙ ap (λ (b : Bool). if b then includes_from (includes value) rest else includes value) other)
