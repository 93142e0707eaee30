use Rattle.std.proofs.Common.{arith}
use Rattle.wire_peer.proofs.ClientLaws.{received_len}
use Rattle.wire_peer.proofs.request_buf.RequestBuf.receive.Goals as goal

pub invariant_of-self : goal.invariant_of-self
invariant_of-self c = record {
  window = c.self.invariant.window;
  few = omega (arith, c.self.invariant.few, received_len c.self.inside.table _ _ _ c.receive.result c.receive.new.self c.receive.ensures);
  next_id = c.self.invariant.next_id;
}
