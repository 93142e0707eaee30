use Rattle.proxy.proofs.HoldLemmas.{came_over, few_given, given_or_owed, settled_or_held}
use Rattle.proxy.specs.Holding.{new_view}
use Rattle.proxy.proofs.hold_laws.what_is_given.Goals as goal

pub returns-clause-given : goal.returns-clause-given
returns-clause-given g c = λ link left acts now run. given_or_owed g.L.Link.received (new_view link left) acts now run

pub returns-clause-came : goal.returns-clause-came
returns-clause-came g c = λ link left acts now run. settled_or_held g.L.Link.received (new_view link left) acts now run

pub returns-clause-received : goal.returns-clause-received
returns-clause-received g c = λ link left acts now run. came_over g.L.Link.received (new_view link left) acts now run

pub returns-clause-few : goal.returns-clause-few
returns-clause-few g c = λ link left acts now run. few_given g.L.Link.received (new_view link left) acts now run
