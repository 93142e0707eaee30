use Rattle.wire_frames.specs.{frame_bytes}
use Rattle.proxy.proofs.Showing.{line_shown}
use Rattle.proxy.proofs.message.write_json_line.Goals as goal

pub returns : goal.returns
returns g c =
    line_shown c.write_line.result _ _ _ c.args.number c.args.direction (frame_bytes c.args.frame) c.opcode.result c.opcode.ensures.own c.opcode.ensures.number
    c.in_ok-write_start.ensures c.write_line.ensures
