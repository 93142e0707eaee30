use Rattle.shared_proxy.proofs.Placings.{places_open}
use Rattle.shared_proxy.proofs.sharing.Sharing.open.Goals as goal

pub returns-in_err-open-in-Ok-clause-places : goal.returns-in_err-open-in-Ok-clause-places
returns-in_err-open-in-Ok-clause-places g c = places_open c.in_ok-number-in-Ok.number c.args.used c.args.self.now.core _ c.in_ok-number-in-Ok.ensures.opened

pub returns-in_ok-open-in-Ok-clause-places : goal.returns-in_ok-open-in-Ok-clause-places
returns-in_ok-open-in-Ok-clause-places g c = places_open c.in_ok-number-in-Ok.number c.args.used c.args.self.now.core _ c.in_ok-number-in-Ok.ensures.opened
