use Rattle.wire_pool.proofs.RunLaws.{spent}
use Rattle.wire_pool.proofs.laws.no_id_follows_the_greatest.Goals as goal

pub returns-clause-full : goal.returns-clause-full
returns-clause-full c = spent
