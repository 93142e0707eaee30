use Rattle.std.proofs.Common.{◌∷◌, [], length, ap, length-append, arith}
use Rattle.bson_doc.specs.declared.bson_values.Bson.TheVariants as values
use Rattle.doc_update.proofs.ElementLaws.{put_pushed}
use Rattle.doc_update.proofs.elements.push_nulls.Goals as goal

pub loop-count-preserved : goal.loop-count-preserved
loop-count-preserved c = record {
  same = λ v. put_pushed c.args.index v c.loop-count.values.items c.push.new.self.items _ c.in_ok-push.ensures.items (omega arith) (c.loop-count.invariant.same v);
  long = omega (arith, ap length c.in_ok-push.ensures.items, length-append c.loop-count.values.items (values.Null ∷ []), c.loop-count.invariant.long);
}
