use Rattle.std.proofs.Common.{◌∙◌, ap, arith, drop, take}
use Rattle.std.specs.Int.{w64, from_le_bytes}
use Rattle.bson_elem.specs.Checks.{a_leaf}
use Rattle.bson_elem.specs.Trees.{raw_value}
use Rattle.byte_views.proofs.QuickLaws.{raw_read, with_double}
use Rattle.std.proofs.lemmas.List.{length-drop}
use Rattle.byte_views.proofs.quick.double.Goals as goal

pub returns-in-Some : goal.returns-in-Some
returns-in-Some c = λ depth at.
    let eight = c.in-Some.ensures in
    record {
      value = a_leaf (raw_value (take 8 c.args.rest.now));
      after = drop 8 c.args.rest.now;
      read = raw_read depth at c.args.from 8 c.args.rest.now eight.0;
      size = omega (arith, length-drop 8 c.args.rest.now, eight.0);
      place = with_double c.args.bare c.args.from c.args.rest.now _ _ eight.0 (c.from_le_bytes-bits.ensures ∙ ap (from_le_bytes w64) eight.1) c.new-bytes.ensures;
    }
