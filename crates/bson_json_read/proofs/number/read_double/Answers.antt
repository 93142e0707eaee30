use Rattle.std.proofs.Common.{rules}
use Rattle.bson_json_read.proofs.Specials.{nan_bits_are, infinity_bits_are, negative_infinity_bits_are}
use Rattle.bson_json_read.proofs.number.read_double.Goals as goal

pub returns-in-NaN : goal.returns-in-NaN
returns-in-NaN c = rw nan_bits_are (search rules)

pub returns-in-Infinity : goal.returns-in-Infinity
returns-in-Infinity c = rw infinity_bits_are (search rules)

pub returns-in-text : goal.returns-in-text
returns-in-text c = rw negative_infinity_bits_are (search rules)
