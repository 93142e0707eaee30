use Rattle.std.proofs.Common.{◌≡◌, ◌∙◌, ◌+◌, ◌-◌, ◌≤◌, ℕ, List, ap, arith, drop, refl, take}
use Rattle.proxy.proofs.HeldLists.{gives_count, gives_part}
use Rattle.proxy.proofs.held.Held.give.Goals as goal

pub returns-clause-gives : goal.returns-clause-gives
returns-clause-gives g c =
    let self = c.args.self.now in
    let bytes : List ℕ = self.bytes.items in
    let n : ℕ = c.min-n.result in
    let within = self.parts.within in
    let order = self.parts.in_order in
    let few : n ≤ self.may - self.start = omega (arith, c.min-n.ensures) in
    let long : self.start + n - self.start ≡ n = omega arith in
    let source : c.copy_from_slice.new.self ≡ take n (drop self.start bytes) = c.copy_from_slice.ensures.after ∙ ap (λ (k : ℕ). take k (drop self.start c.deref.result.now)) long ∙ ap (λ (l : List ℕ). take n (drop self.start l)) c.deref.ensures.value in
    let part = gives_part bytes c.copy_from_slice.new.self (drop n c.args.buffer.now) self.start self.may n order within few source in
    let count = gives_count bytes c.copy_from_slice.new.self (drop n c.args.buffer.now) self.start self.may n order within few source in (
      c.count.ensures.link,
      rw (c.count.ensures.bytes, c.count.ensures.may, c.count.ensures.start) part,
      rw (c.count.ensures.bytes, c.count.ensures.may) refl,
      omega (arith, count, c.count.ensures.left, c.min-n.ensures, c.requires),
    )
