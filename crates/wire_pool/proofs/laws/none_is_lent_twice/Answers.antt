use Rattle.wire_pool.proofs.OnceLaws.{known_once}
use Rattle.wire_pool.proofs.laws.none_is_lent_twice.Goals as goal

pub returns : goal.returns
returns c = known_once
