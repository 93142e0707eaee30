use Rattle.std.proofs.Common.{◌≡◌, ◌++◌, map}
use Rattle.std.specs.Map.Iter.{deref}
use Rattle.bson_elem.specs.Trees.{Tree}
use Rattle.bson_elem.specs.Spelling.{Spells}
use Rattle.bson_raw.specs.RawDocument.{document_bytes}
use Rattle.bson_raw.specs.RawIter.{PairsLeft}
use Rattle.bson_raw.specs.Pairs.{names_of}
use Rattle.wire_msg.proofs.fields.sorted_names.Given as goal

abbrev pub invariant-loop-name : goal.invariant-loop-name
invariant-loop-name l = record {
  can_next : (goal.iterator-loop-name).can_next l.name-iterator;
  is_finite : (goal.iterator-loop-name).is_finite l.name-iterator;
  so_far : (t : Tree) → Spells t (document_bytes l.fn.body) → (rest : Tree) × PairsLeft l.name-iterator rest × (names_of t ≡ map deref l.names.items ++ names_of rest);
}
