use Rattle.std.proofs.Common.{◌≡◌, ◌≤◌, ◌-◌, ◌++◌, List, length, drop}
use Rattle.byte_views.specs.declared.element.Element.{Element}
use Rattle.byte_views.specs.Filling.{Reads}
use Rattle.byte_views.specs.Iters.{moved}
use Rattle.byte_views.proofs.iter.walk_next_elements.Given as goal

-- the elements that were read stand in front of the room, and the places behind them are unchanged
abbrev pub invariant-loop-count : goal.invariant-loop-count
invariant-loop-count l = record {
  so_far : (es : List Element) × Reads l.bytes l.fn.iter es l.iter.at × (l.count ≡ length es)
      × (l.room ≡ es ++ drop (length es) l.fn.room);
  same : l.iter ≡ moved l.fn.iter l.iter.at;
  within : l.count ≤ length l.fn.room;
}

abbrev pub decreases-loop-count : goal.decreases-loop-count
decreases-loop-count l = length l.fn.room - l.count
