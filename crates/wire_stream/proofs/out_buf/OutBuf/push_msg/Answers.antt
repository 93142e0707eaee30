use Rattle.std.proofs.Common.{◌≤◌, arith, length, w32}
use Rattle.std.proofs.Math.Bridge.{le_prop}
use Rattle.std.proofs.Math.Logic.{∥∥₁_elim}
use Rattle.std.proofs.lemmas.Int.{to_z-of_z}
use Rattle.wire_stream.proofs.OutBufs.{added_behind, length_stays, same_canonical}
use Rattle.wire_stream.proofs.out_buf.OutBuf.push_msg.Goals as goal

pub invariant_of-self : goal.invariant_of-self
invariant_of-self c =
    let longer : length c.self.inside.bytes.items ≤ length c.write_msg.new.out.items =
    ∥∥₁_elim c.args.payload.valid le_prop (λ k. length_stays c.write_msg.result c.self.inside.bytes.items c.write_msg.new.out.items _ (c.write_msg.ensures.written k.0 k.1) c.write_msg.ensures.unchanged) in
    let within = c.self.invariant.within in
    let kept = c.self.invariant.kept in
    record { within = omega (arith, longer, within); kept = omega (arith, longer, within, kept) }

pub returns-clause-written : goal.returns-clause-written
returns-clause-written c = λ content carried.
    rw (← c.self.view_is) (added_behind c.write_msg.result c.self.inside.bytes.items c.write_msg.new.out.items _ _ c.self.inside.start c.self.invariant.within
    (same_canonical _ c.args.id _ c.args.response_to c.args.flags content (to_z-of_z w32 c.args.id c.ranges.id) (to_z-of_z w32 c.args.response_to c.ranges.response_to))
    (c.write_msg.ensures.written content carried))
