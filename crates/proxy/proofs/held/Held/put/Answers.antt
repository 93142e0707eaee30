use Rattle.std.proofs.Common.{◌∙◌, ℕ, List, ap}
use Rattle.proxy.specs.Holding.{view_of}
use Rattle.proxy.proofs.HeldLists.{between, owed_in_front}
use Rattle.proxy.proofs.Putting.{is_put}
use Rattle.proxy.proofs.held.Held.put.Goals as goal

pub returns : goal.returns
returns g c =
    let self = c.args.self.now in
    is_put c.append.result (view_of self) (view_of c.append.new.self) _ c.args.bytes.now _ c.append.ensures.link c.append.ensures.left c.append.ensures.owed
    (ap (λ (l : List ℕ). between l self.start self.may) c.in_ok-behind.ensures.items ∙ owed_in_front self.bytes.items self.start self.may self.parts.in_order self.parts.within)
    c.append.ensures.rest (c.deref.ensures.value ∙ c.in_ok-behind.ensures.tail)
