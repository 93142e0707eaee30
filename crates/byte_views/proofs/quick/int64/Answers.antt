use Rattle.std.proofs.Common.{◌∙◌, ap, arith, drop, take}
use Rattle.std.specs.Int.{w64, cast_signed, from_le_bytes}
use Rattle.bson_elem.specs.Checks.{a_leaf}
use Rattle.bson_elem.specs.Trees.{number_value}
use Rattle.byte_views.proofs.QuickLaws.{as_signed, int64_read, with_bits}
use Rattle.std.proofs.lemmas.List.{length-drop}
use Rattle.byte_views.proofs.quick.int64.Goals as goal

pub returns-in-Some : goal.returns-in-Some
returns-in-Some c = λ depth at from.
    let eight = c.in-Some.ensures in
    let is = c.from_le_bytes-bits.ensures ∙ ap (from_le_bytes w64) eight.1 ∙ as_signed c.args.rest.now (λ j. (c.type_inv.rest j).fits) in (
      record {
        value = a_leaf (number_value (cast_signed w64 (from_le_bytes w64 (take 8 c.args.rest.now))));
        after = drop 8 c.args.rest.now;
        read = int64_read depth at from c.args.rest.now eight.0;
        size = omega (arith, length-drop 8 c.args.rest.now, eight.0);
        place = with_bits c.args.bare _ _ is;
      },
      record {
        value = a_leaf (number_value (cast_signed w64 (from_le_bytes w64 (take 8 c.args.rest.now))));
        after = drop 8 c.args.rest.now;
        read = int64_read depth at from c.args.rest.now eight.0;
        size = omega (arith, length-drop 8 c.args.rest.now, eight.0);
        place = with_bits c.args.bare _ _ is;
      },
    )
