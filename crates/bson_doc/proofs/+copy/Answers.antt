use Rattle.std.proofs.Common.{◌≡◌, take, take_all, arith}
use Rattle.bson_doc.specs.Bson.{value_of}
use Rattle.bson_doc.proofs.Copies.{one_copied}
use Rattle.bson_doc.proofs.+copy.Goals as goal

pub arrays::Array::try_clone-loop-value-preserved : goal.arrays::Array::try_clone-loop-value-preserved
arrays::Array::try_clone-loop-value-preserved t c =
    one_copied c.deref-value-items.result.now c.loop-value.values.items _ c.loop-value.value-index c.value-item.result (omega arith) c.value-item.is c.loop-value.invariant
    (c.in_ok-push_copy.ensures (value_of c.value-item.result) c.try_clone.ensures)

pub documents::Document::try_clone-loop-value-preserved : goal.documents::Document::try_clone-loop-value-preserved
documents::Document::try_clone-loop-value-preserved t c =
    one_copied c.deref-value-items.result.now c.loop-value.values.items _ c.loop-value.value-index c.value-item.result (omega arith) c.value-item.is c.loop-value.invariant
    (c.in_ok-push_copy.ensures (value_of c.value-item.result) c.try_clone.ensures)

pub documents::Document::try_clone-returns : goal.documents::Document::try_clone-returns
documents::Document::try_clone-returns t c =
    let all : take c.loop-value.value-index c.deref-value-items.result.now ≡ c.deref-value-items.result.now = take_all _ _ (omega arith) in
    let values = rw (all, c.deref-value-items.ensures.value) at c.loop-value.invariant in
    rw (← c.self.view_is, ← values) c.with_names.ensures
