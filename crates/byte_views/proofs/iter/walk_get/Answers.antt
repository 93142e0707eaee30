use Rattle.std.proofs.Common.{ap, subst}
use Rattle.byte_views.specs.declared.element.Element.{Element}
use Rattle.byte_views.specs.declared.iter.ElementIter.{ElementIter}
use Rattle.byte_views.specs.declared.iter.FirstElement.{FirstElement}
use Rattle.byte_views.specs.Finding.{GivesNamed, begins, has_fault}
use Rattle.byte_views.proofs.iter.walk_get.Goals as goal

pub returns-then-fault-ne0-clause-gets : goal.returns-then-fault-ne0-clause-gets
returns-then-fault-ne0-clause-gets c = has_fault c.walk_first.result c.walk_first.ensures.first c.if-fault-ne0.true (ap (λ (e : Element). record e { fault = c.walk_first.result.fault }) c.none.ensures)

pub returns-clause-gets : goal.returns-clause-gets
returns-clause-gets c = begins c.walk_first.result c.walk_find.new.iter.at c.walk_first.ensures.first c.if-fault-ne0.false c.walk_find.ensures.finds

pub returns-clause-pairs : goal.returns-clause-pairs
returns-clause-pairs c = λ t spells.
    let first = c.walk_first.ensures.pairs t spells in
    (c.walk_find.new.iter, subst (λ (s : ElementIter). GivesNamed c.args.bytes.now c.args.name.now s c.walk_find.new.element c.walk_find.new.iter t) (ap (λ (f : FirstElement). f.iter) first.0) (c.walk_find.ensures.pairs t first.1))
