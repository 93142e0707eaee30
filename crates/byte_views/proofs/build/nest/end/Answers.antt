use Rattle.byte_views.proofs.Nesting.{ends_pairs}
use Rattle.byte_views.proofs.build.nest.end.Goals as goal

pub returns-clause-pairs : goal.returns-clause-pairs
returns-clause-pairs c = λ t u k name s i h none. ends_pairs c.args.room.now c.end_inner.new.room c.args.outer.now c.args.inner.now c.end_inner.new.outer t u k name _ c.end_inner.ensures s i h none
