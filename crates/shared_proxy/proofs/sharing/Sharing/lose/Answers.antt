use Rattle.shared_proxy.proofs.Closings.{ends_leaves, leaves_none, leaves_on, loses_then}
use Rattle.shared_proxy.proofs.sharing.Sharing.lose.Goals as goal

pub returns-in-None-clause-lost : goal.returns-in-None-clause-lost
returns-in-None-clause-lost g c = λ y at. loses_then c.args.upstream c.args.self.now.core c.drop_server.new.self.core _ (c.drop_server.ensures.lost y at) (leaves_none _)

pub returns-in-Some-clause-lost : goal.returns-in-Some-clause-lost
returns-in-Some-clause-lost g c = λ y at. loses_then c.args.upstream c.args.self.now.core c.drop_server.new.self.core _ (c.drop_server.ensures.lost y at) c.end_calls.ensures.leaves

pub returns-in-Some-clause-leaves : goal.returns-in-Some-clause-leaves
returns-in-Some-clause-leaves g c = leaves_on (ends_leaves c.drop_server.ensures.ends) c.end_calls.ensures.leaves
