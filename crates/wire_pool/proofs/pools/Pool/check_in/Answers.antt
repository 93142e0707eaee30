use Rattle.std.proofs.Common.{◌≡◌, ◌==◌, ◌∙◌, Some, not, ap, sym, arith}
use Rattle.std.proofs.lemmas.List.Elements.{All-cons, All-filter}
use Rattle.wire_pool.specs.declared.loans.Loan.{Loan}
use Rattle.wire_pool.specs.Loans.{loan_of}
use Rattle.wire_pool.specs.Pools.{IsGiven}
use Rattle.wire_pool.proofs.PoolLaws.{no_more, of_loan, one_fewer}
use Rattle.wire_pool.proofs.pools.Pool.check_in.Goals as goal

pub invariant_of-self : goal.invariant_of-self
invariant_of-self c =
    let found : loan_of c.args.id c.self.inside.lent.items ≡ Some c.in-Some.loan = ap (loan_of c.args.id) (sym c.deref.ensures.value) ∙ sym c.loan_of.ensures ∙ c.in-Some.is in
    record {
      within = rw (c.push_front_reserved.ensures.items, c.take_out.ensures.others) (let old = c.self.invariant.within in let fewer = one_fewer c.args.id c.self.inside.lent.items c.in-Some.loan found in omega (arith, old, fewer));
      idle_room = rw c.push_front_reserved.ensures.capacity c.self.invariant.idle_room;
      lent_room = rw c.take_out.ensures.room c.self.invariant.lent_room;
      idle_given = rw c.push_front_reserved.ensures.items (All-cons (IsGiven c.self.inside.next) c.args.id c.self.inside.idle.items (of_loan (IsGiven c.self.inside.next) c.args.id c.self.inside.lent.items c.in-Some.loan found c.self.invariant.lent_given) c.self.invariant.idle_given);
      lent_given = rw c.take_out.ensures.others (All-filter (λ (l : Loan). not (l.id == c.args.id)) (λ (l : Loan). IsGiven c.self.inside.next l.id) c.self.inside.lent.items c.self.invariant.lent_given);
    }

pub invariant_of-self-else-is_kept : goal.invariant_of-self-else-is_kept
invariant_of-self-else-is_kept c = record {
  within = rw c.take_out.ensures.others (let old = c.self.invariant.within in let fewer = no_more c.args.id c.self.inside.lent.items in omega (arith, old, fewer));
  idle_room = c.self.invariant.idle_room;
  lent_room = rw c.take_out.ensures.room c.self.invariant.lent_room;
  idle_given = c.self.invariant.idle_given;
  lent_given = rw c.take_out.ensures.others (All-filter (λ (l : Loan). not (l.id == c.args.id)) (λ (l : Loan). IsGiven c.self.inside.next l.id) c.self.inside.lent.items c.self.invariant.lent_given);
}
