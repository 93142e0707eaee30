use Rattle.wire_frames.specs.{frame_bytes}
use Rattle.proxy.proofs.Showing.{other_written}
use Rattle.proxy.proofs.message.write_other.Goals as goal

pub returns : goal.returns
returns g c =
    other_written c.write_all-2.result _ _ _ _ _ _ (frame_bytes c.args.frame) c.args.kind c.header-header.result c.header-header.ensures
    c.in_ok-write_all.ensures.bytes c.in_ok-write_id.ensures c.in_ok-write_opcode.ensures c.in_ok-write_kind.ensures c.write_all-2.ensures.bytes
