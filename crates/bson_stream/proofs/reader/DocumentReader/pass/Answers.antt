use Rattle.std.proofs.Common.{◌≡◌, ℕ, [], take, ap, arith}
use Rattle.bson_stream.proofs.Holdings.{at_nothing}
use Rattle.bson_stream.proofs.reader.DocumentReader.pass.Goals as goal

pub invariant_of-self : goal.invariant_of-self
invariant_of-self c =
    let none : take c.self.inside.len c.self.inside.bytes.items ≡ [] = ap (λ (k : ℕ). take k c.self.inside.bytes.items) c.if-self-ne0.false in
    record {
      limit = c.self.invariant.limit;
      within = c.self.invariant.within;
      offset = omega (arith, c.if-self-ne0.false, c.if-len-self.false, c.self.invariant.offset);
      state = at_nothing _ _ _ _ none c.self.invariant.state;
      no_more = c.self.invariant.no_more;
      fits = c.self.invariant.fits;
    }
