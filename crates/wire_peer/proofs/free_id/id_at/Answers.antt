use Rattle.std.proofs.Common.{sym, arith, ◌∙◌, ap, pos}
use Rattle.wire_peer.proofs.IdLaws.{id_past_low, id_past_high}
use Rattle.wire_peer.proofs.free_id.id_at.Goals as goal

pub returns-then-place-left-clause-is : goal.returns-then-place-left-clause-is
returns-then-place-left-clause-is c = sym (id_past_low c.args.next c.args.place (omega arith))

pub returns-else-place-left-clause-is : goal.returns-else-place-left-clause-is
returns-else-place-left-clause-is c = ap pos (omega arith) ∙ sym (id_past_high c.args.next c.args.place (omega arith) (omega arith) (omega arith))
