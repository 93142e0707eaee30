use Rattle.std.proofs.Common.{refl}
use Rattle.proxy.proofs.HeldLists.{owed_more, rest_parts}
use Rattle.proxy.proofs.held.Held.pass.Goals as goal

pub returns-clause-passes : goal.returns-clause-passes
returns-clause-passes g c = λ message held.
    let self = c.args.self.now in
    let size = c.size.ensures.held message held in (
      (refl, refl),
      rest_parts self.bytes.items message held.behind self.may c.size.result held.is.parts size,
      owed_more self.bytes.items message held.behind self.start self.may c.size.result self.parts.in_order self.parts.within held.is.parts size,
    )
