use Rattle.std.proofs.Common.{inl, inr}
use Rattle.shared_proxy.proofs.Passings.{passes_on}
use Rattle.shared_proxy.proofs.sharing.Sharing.pass.Goals as goal

pub returns-in-Ok-clause-passed : goal.returns-in-Ok-clause-passed
returns-in-Ok-clause-passed g c = λ m asks is.
    passes_on c.args.number c.in-Ok.upstream m c.args.self.now c.place.new.self c.pass_over.new.self c.place.ensures.places asks (c.pass_over.ensures.went is)

pub returns-in-Ok-clause-waits : goal.returns-in-Ok-clause-waits
returns-in-Ok-clause-waits g c = λ is. inl (c.in-Ok.upstream, (c.pass_over.ensures.waits is).0)

pub returns-in_ok-close-in-Err-clause-waits : goal.returns-in_ok-close-in-Err-clause-waits
returns-in_ok-close-in-Err-clause-waits g c = λ is. inr (record {
  placed = c.place.new.self.core;
  before = c.place.ensures.places;
  closes = c.close.ensures.closed;
  gone = c.close.ensures.gone.1;
})
