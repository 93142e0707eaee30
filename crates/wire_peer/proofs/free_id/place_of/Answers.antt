use Rattle.std.proofs.Common.{sym, arith, ◌∙◌, ap, pos, ◌+◌, ◌-◌}
use Rattle.wire_peer.proofs.IdLaws.{id_past_low, id_past_high, one_place}
use Rattle.wire_peer.proofs.free_id.place_of.Goals as goal

pub returns-then-id-next-clause-back : goal.returns-then-id-next-clause-back
returns-then-id-next-clause-back c = ap pos (omega arith) ∙ sym (id_past_low c.args.next (c.args.id - c.args.next) (omega arith))

pub returns-else-id-next-clause-back : goal.returns-else-id-next-clause-back
returns-else-id-next-clause-back c = ap pos (omega arith) ∙ sym (id_past_high c.args.next (2147483647 - c.args.next + c.args.id) (omega arith) (omega arith) (omega arith))

pub returns-then-id-next-clause-place : goal.returns-then-id-next-clause-place
returns-then-id-next-clause-place c = λ k e lt. one_place c.args.next c.args.id (c.args.id - c.args.next) k (omega arith) (omega arith) (omega arith)
    (ap pos (omega arith) ∙ sym (id_past_low c.args.next (c.args.id - c.args.next) (omega arith))) e (omega arith)

pub returns-else-id-next-clause-place : goal.returns-else-id-next-clause-place
returns-else-id-next-clause-place c = λ k e lt. one_place c.args.next c.args.id (2147483647 - c.args.next + c.args.id) k (omega arith) (omega arith) (omega arith)
    (ap pos (omega arith) ∙ sym (id_past_high c.args.next (2147483647 - c.args.next + c.args.id) (omega arith) (omega arith) (omega arith))) e (omega arith)
