use Rattle.std.proofs.Common.{◌≡◌, ◌+◌, ◌*◌, length, map, string_bytes}
use Rattle.bson_elem.specs.Trees.{Tree}
use Rattle.bson_elem.specs.Spelling.{Spells}
use Rattle.bson_raw.specs.RawArray.{array_bytes}
use Rattle.bson_raw.specs.RawBson.{held_len}
use Rattle.bson_raw.specs.RawDocument.{document_bytes}
use Rattle.bson_raw.specs.RawIter.{PairsLeft, ValuesLeft, walked_len, walked_array_len}
use Rattle.bson_doc.specs.Bson.{value_of}
use Rattle.bson_doc.proofs.Reading.{DocumentRead, ArrayRead}
use Rattle.bson_doc.proofs.from_raw.+read.Given as goal

abbrev pub decreases-read_document : goal.decreases-read_document
decreases-read_document l = 4 * length (document_bytes l.document) + 1

abbrev pub decreases-read_pairs : goal.decreases-read_pairs
decreases-read_pairs l = 4 * length (document_bytes l.document)

abbrev pub decreases-read_array : goal.decreases-read_array
decreases-read_array l = 4 * length (array_bytes l.array) + 1

abbrev pub decreases-read_values : goal.decreases-read_values
decreases-read_values l = 4 * length (array_bytes l.array)

abbrev pub decreases-read_value : goal.decreases-read_value
decreases-read_value l = 4 * held_len l.value + 3

abbrev pub decreases-read_scope : goal.decreases-read_scope
decreases-read_scope l = 4 * length (document_bytes l.scope) + 2

abbrev pub invariant-read_values-loop-value : goal.invariant-read_values-loop-value
invariant-read_values-loop-value l = record {
  can_next : (goal.iterator-read_values-loop-value).can_next l.value-iterator;
  is_finite : (goal.iterator-read_values-loop-value).is_finite l.value-iterator;
  walked : walked_array_len l.value-iterator ≡ length (array_bytes l.fn.array);
  so_far : (t : Tree) → Spells t (array_bytes l.fn.array) → ArrayRead l.depth t (map value_of l.values.items) (ValuesLeft l.value-iterator);
}

abbrev pub invariant-read_pairs-loop-name : goal.invariant-read_pairs-loop-name
invariant-read_pairs-loop-name l = record {
  can_next : (goal.iterator-read_pairs-loop-name).can_next l.name-iterator;
  is_finite : (goal.iterator-read_pairs-loop-name).is_finite l.name-iterator;
  walked : walked_len l.name-iterator ≡ length (document_bytes l.fn.document);
  lengths : length l.names ≡ length l.values.items;
  so_far : (t : Tree) → Spells t (document_bytes l.fn.document) → DocumentRead l.depth t (map string_bytes l.names) (map value_of l.values.items) (PairsLeft l.name-iterator);
}
