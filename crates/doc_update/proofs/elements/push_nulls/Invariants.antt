use Rattle.std.proofs.Common.{◌≡◌, length, map}
use Rattle.bson_raw.specs.{TreeValue}
use Rattle.bson_doc.specs.Bson.{value_of}
use Rattle.doc_update.specs.Elements.{put_at}
use Rattle.doc_update.proofs.elements.push_nulls.Given as goal

abbrev pub invariant-loop-count : goal.invariant-loop-count
invariant-loop-count l = record {
  same : (v : TreeValue) → put_at l.index v (map value_of l.values.items) ≡ put_at l.index v (map value_of l.fn.values.items);
  long : length l.values.items ≡ l.count;
}
