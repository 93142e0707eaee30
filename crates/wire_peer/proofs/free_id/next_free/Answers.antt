use Rattle.std.proofs.Common.{arith, pos, ◌≡◌, ℕ, ℤ, nat_abs, to_z, of_z, w32, subst}
use Rattle.std.proofs.lemmas.Int.{ints}
use Rattle.wire_peer.specs.FreeIds.{IsFirstFree}
use Rattle.wire_peer.proofs.MarkLaws.{AreMarked, none_marked, first_free}
use Rattle.wire_peer.proofs.free_id.next_free.Goals as goal

pub loop-id-init : goal.loop-id-init
loop-id-init c = none_marked _ _

pub returns-clause-free : goal.returns-clause-free
returns-clause-free c =
    let same : pos (nat_abs (to_z w32 (of_z w32 c.args.next))) ≡ c.args.next = omega (arith, ints) in
    let out : to_z w32 c.id_at.result ≡ pos c.id_at.result = omega (arith, ints) in
    rw out (subst (λ (next : ℤ). IsFirstFree next c.args.used.now (pos c.id_at.result)) same
    (first_free _ _ c.loop-id.marks c.first_unmarked.result _ (subst (λ (n : ℕ). AreMarked (pos (nat_abs (to_z w32 (of_z w32 c.args.next)))) c.args.used.now n c.loop-id.marks) (omega arith) c.loop-id.invariant) c.first_unmarked.ensures.within c.first_unmarked.ensures.unmarked c.first_unmarked.ensures.before c.id_at.ensures.is))
