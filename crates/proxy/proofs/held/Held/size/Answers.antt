use Rattle.proxy.proofs.HeldLists.{fits_held}
use Rattle.proxy.proofs.held.Held.size.Goals as goal

pub returns-in-Some-clause-within : goal.returns-in-Some-clause-within
returns-in-Some-clause-within g c =
    let held = c.in-Some.ensures.held in
    rw c.as_bytes.ensures (fits_held c.args.self.now.bytes.items _ held.behind c.args.self.now.may c.args.self.now.parts.within held.is.parts)

pub returns-in-None-clause-held : goal.returns-in-None-clause-held
returns-in-None-clause-held g c = λ message held. absurd (c.in-None.ensures.all message held)
