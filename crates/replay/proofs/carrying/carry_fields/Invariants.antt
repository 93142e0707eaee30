use Rattle.std.proofs.Common.{◌≡◌}
use Rattle.bson_elem.specs.{Spells, Tree}
use Rattle.bson_raw.specs.{PairsLeft, document_bytes}
use Rattle.replay.specs.Carried.{field_ids, pair_ids, with_ids}
use Rattle.replay.proofs.carrying.carry_fields.Given as goal

-- what is left to be written makes all written
abbrev pub invariant-loop-name : goal.invariant-loop-name
invariant-loop-name l = record {
  can_next : (goal.iterator-loop-name).can_next l.pairs;
  is_finite : (goal.iterator-loop-name).is_finite l.pairs;
  so_far : (t : Tree) → Spells t (document_bytes l.fn.body) → (rest : Tree) × PairsLeft l.pairs rest
      × (with_ids l.cursors.list.items (pair_ids (field_ids) l.end rest) l.out ≡ with_ids l.cursors.list.items (pair_ids (field_ids) l.end t) l.fn.out);
}
