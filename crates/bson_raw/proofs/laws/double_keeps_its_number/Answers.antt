use Rattle.std.proofs.lemmas.Float.{T_from_true}
use Rattle.bson_raw.proofs.DoubleLaws.{number_kept}
use Rattle.bson_raw.proofs.laws.double_keeps_its_number.Goals as goal

pub returns : goal.returns
returns c = number_kept c.args.number (T_from_true _ c.well_formed.0.1)
