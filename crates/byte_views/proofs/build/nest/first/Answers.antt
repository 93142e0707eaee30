use Rattle.byte_views.proofs.Nesting.{begins}
use Rattle.byte_views.proofs.build.nest.first.Goals as goal

pub returns-clause-empty : goal.returns-clause-empty
returns-clause-empty c = λ room five. begins room five
