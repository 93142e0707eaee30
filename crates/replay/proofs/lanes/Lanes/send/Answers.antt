use Rattle.std.proofs.Common.{List, ℕ, subst, sym}
use Rattle.replay.specs.Carried.{IsCarried}
use Rattle.replay.proofs.Placing.{also_well}
use Rattle.replay.proofs.lanes.Lanes.send.Goals as goal

pub returns-clause-given : goal.returns-clause-given
returns-clause-given g c =
    also_well c.send_as.result _ _ (λ given. (
      c.deref.result.now,
      subst (λ (b : List ℕ). IsCarried c.args.self.now.cursors.list.items b c.deref.result.now) c.as_bytes.ensures
          (subst (λ (b : List ℕ). IsCarried c.args.self.now.cursors.list.items c.as_bytes.result.now b) (sym c.deref.ensures.value) c.in_ok-sent.ensures),
      given,
    )) c.send_as.ensures.given
