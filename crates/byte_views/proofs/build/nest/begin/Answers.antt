use Rattle.byte_views.proofs.Nesting.{opens}
use Rattle.byte_views.proofs.build.nest.begin.Goals as goal

pub returns-clause-empty : goal.returns-clause-empty
returns-clause-empty c = λ t s none. opens c.args.room.now c.open.new.room c.args.outer.now c.args.inner.now c.open.new.inner c.args.name.now c.args.kind t _ c.open.ensures s none
