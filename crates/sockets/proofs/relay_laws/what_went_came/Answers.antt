use Rattle.std.proofs.Common.{refl}
use Rattle.sockets.specs.RelayActs.{tells}
use Rattle.sockets.proofs.Passed.{back_passed, there_passed}
use Rattle.sockets.proofs.relay_laws.what_went_came.Goals as goal

pub returns-clause-there : goal.returns-clause-there
returns-clause-there g c = λ near far acts now run. there_passed (tells g.N.Link.received g.N.Link.sent g.N.Link.ends g.N.Link.waits g.N.Link.failures g.N.EndSending.endings) (tells g.F.Link.received g.F.Link.sent g.F.Link.ends g.F.Link.waits g.F.Link.failures g.F.EndSending.endings) _ _ near far acts now refl refl run

pub returns-clause-back : goal.returns-clause-back
returns-clause-back g c = λ near far acts now run. back_passed (tells g.N.Link.received g.N.Link.sent g.N.Link.ends g.N.Link.waits g.N.Link.failures g.N.EndSending.endings) (tells g.F.Link.received g.F.Link.sent g.F.Link.ends g.F.Link.waits g.F.Link.failures g.F.EndSending.endings) _ _ near far acts now refl refl run
