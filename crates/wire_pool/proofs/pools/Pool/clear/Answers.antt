use Rattle.std.proofs.Common.{◌≡◌, ◌∙◌, ◌++◌, All, ap, arith, drop, length, map, sym, take}
use Rattle.std.proofs.Math.Seq.{take-append_seam}
use Rattle.std.proofs.lemmas.List.{length-map}
use Rattle.std.proofs.lemmas.List.Elements.{All-map, All-nil}
use Rattle.std.specs.Vec.{vec_len, with_items}
use Rattle.wire_pool.specs.declared.loans.Loan.{Loan}
use Rattle.wire_pool.specs.Loans.{cleared}
use Rattle.wire_pool.specs.Pools.{IsGiven}
use Rattle.wire_pool.proofs.pools.Pool.clear.Goals as goal

pub invariant_of-self : goal.invariant_of-self
invariant_of-self c =
    let told : c.clear_all.new.lent ≡ map cleared c.self.inside.lent.items = c.clear_all.ensures ∙ ap (map cleared) c.deref_mut.ensures.value in
    let len : length c.clear_all.new.lent ≡ vec_len c.self.inside.lent = ap length c.clear_all.ensures ∙ length-map c.deref_mut.result.now cleared ∙ c.deref_mut.ensures.len in
    let items : (with_items c.self.inside.lent c.clear_all.new.lent).items ≡ map cleared c.self.inside.lent.items =
    ap (λ n. take n (c.clear_all.new.lent ++ drop (length c.clear_all.new.lent) c.self.inside.lent.items)) (sym len)
    ∙ take-append_seam c.clear_all.new.lent (drop (length c.clear_all.new.lent) c.self.inside.lent.items) ∙ told in
    let given : All (λ (l : Loan). IsGiven c.self.inside.next l.id) (map cleared c.self.inside.lent.items) = All-map (λ (l : Loan). IsGiven c.self.inside.next l.id) cleared c.self.inside.lent.items c.self.invariant.lent_given in
    record {
      within = rw (c.clear.ensures.items, items) (let old = c.self.invariant.within in omega (arith, old, length-map c.self.inside.lent.items cleared));
      idle_room = rw c.clear.ensures.capacity c.self.invariant.idle_room;
      lent_room = c.self.invariant.lent_room;
      idle_given = rw c.clear.ensures.items (All-nil (IsGiven c.self.inside.next));
      lent_given = rw items given;
    }
