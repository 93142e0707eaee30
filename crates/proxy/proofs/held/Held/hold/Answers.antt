use Rattle.std.proofs.Common.{◌≡◌, false, true}
use Rattle.proxy.specs.declared.held.Standing.TheVariants as stands
use Rattle.proxy.proofs.held.Held.hold.Goals as goal

pub invariant_of-self : goal.invariant_of-self
invariant_of-self g c = record {
  parts = record {
    in_order = c.args.self.now.parts.in_order;
    within = c.args.self.now.parts.within;
    all = λ is. absurd (let no : stands.Gathers ≡ stands.Free = is in cc);
    none = λ is. absurd (let no : false ≡ true = is in cc);
    plain_free = λ is. absurd (let no : false ≡ true = is in cc);
  };
}
