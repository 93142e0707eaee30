use Rattle.std.proofs.Common.{arith}
use Rattle.proxy.proofs.HeldLists.{length_owed}
use Rattle.proxy.proofs.held.Held.cut.Goals as goal

pub returns : goal.returns
returns g c = λ message held.
    let self = c.args.self.now in
    let passed = c.pass.ensures.passes message held in
    let size = c.size.ensures.held message held in
    let owed = length_owed self.bytes.items self.start self.may self.parts.in_order self.parts.within in
    (passed.0.0, passed.1, passed.2, omega (arith, passed.0.1, size, owed, c.min.ensures, c.min-self.ensures))
