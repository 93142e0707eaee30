use Rattle.std.proofs.Common.{◌∙◌, ◌+◌, ◌++◌, ℕ, List, ap, drop, refl, sym}
use Rattle.proxy.proofs.HeldLists.{between, rest_parts, taken_out_owed, taken_out_rest}
use Rattle.proxy.proofs.held.Held.skip.Goals as goal

pub returns-clause-skips : goal.returns-clause-skips
returns-clause-skips g c = λ message held.
    let self = c.args.self.now in
    let bytes : List ℕ = self.bytes.items in
    let size = c.size.ensures.held message held in
    let tail : List ℕ = drop (self.may + c.size.result) bytes in
    let kept = c.drop-drain.ensures.items ∙ c.drain.ensures.kept in (
      (refl, refl),
      rest_parts bytes message held.behind self.may c.size.result held.is.parts size
          ∙ ap (λ (l : List ℕ). message ++ l) (sym (ap (λ (l : List ℕ). drop self.may l) kept ∙ taken_out_rest bytes tail self.may self.parts.within)),
      ap (λ (l : List ℕ). between l self.start self.may) kept ∙ taken_out_owed bytes tail self.start self.may self.parts.in_order self.parts.within,
    )
