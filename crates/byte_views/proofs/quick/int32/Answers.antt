use Rattle.std.proofs.Common.{◌∙◌, ap, arith, drop, take}
use Rattle.std.specs.Int.{w32, w64, cast_signed, cast_unsigned, from_le_bytes}
use Rattle.bson_elem.specs.Checks.{a_leaf}
use Rattle.bson_elem.specs.Trees.{number_value}
use Rattle.byte_views.proofs.QuickLaws.{int32_read, with_bits}
use Rattle.std.proofs.lemmas.List.{length-drop}
use Rattle.byte_views.proofs.quick.int32.Goals as goal

pub returns : goal.returns
returns c = λ depth at from. record {
  value = a_leaf (number_value (cast_signed w32 (from_le_bytes w32 (take 4 c.args.rest.now))));
  after = drop 4 c.args.rest.now;
  read = int32_read depth at from c.args.rest.now c.if-rest-lt4.false;
  size = omega (arith, length-drop 4 c.args.rest.now, c.if-rest-lt4.false);
  place = with_bits c.args.bare _ _ (c.extended-bits.ensures ∙ ap (λ n. cast_unsigned w64 (cast_signed w32 n)) c.little_u32.ensures);
}
