use Rattle.std.proofs.Common.{◌∙◌, ap}
use Rattle.std.specs.Prelude.{from_bits}
use Rattle.std.specs.Float.{binary64}
use Rattle.std.proofs.lemmas.Bool.{le-ltb}
use Rattle.std.proofs.lemmas.Float.{T_from_false}
use lib.Ieee.{of_bits}
use lib.Ieee.Bits.{nan_bits_above}
use Rattle.bson_raw.proofs.DoubleLaws.{nan_above}
use Rattle.bson_raw.proofs.double.double_from_bytes.Goals as goal

pub float_from_bits-result : goal.float_from_bits-result
float_from_bits-result c =
    T_from_false _
    (nan_bits_above binary64 c.from_le_bytes-bits.result ∙ le-ltb _ _ c.if-bits-gt-INFINITY.false)

pub returns-then-bits-gt-INFINITY : goal.returns-then-bits-gt-INFINITY
unfolding of_bits
returns-then-bits-gt-INFINITY c =
    nan_above c.from_le_bytes-bits.result c.if-bits-gt-INFINITY.true
    ∙ ap (from_bits binary64) c.from_le_bytes-bits.ensures
