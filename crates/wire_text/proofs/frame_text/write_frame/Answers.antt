use Rattle.std.proofs.Common.{ap}
use Rattle.wire_frames.specs.{frame_bytes}
use Rattle.wire_text.specs.FrameText.{IsKindText, header_line}
use Rattle.wire_text.proofs.FrameTexts.{Wrote, frame_written, other_kind}
use Rattle.wire_text.proofs.frame_text.write_frame.Goals as goal
use Rattle.wire_text.proofs.frame_text.write_frame.Goals.{in-Msg+in_ok-write_op_msg-in-Msg, in_default+in_ok-write_header-in_default}

pub returns : goal.returns
returns g c =
    let bytes = frame_bytes c.args.frame in
    let old = g.W.Write.contents c.args.out.now in
    let kind = c.opcode.result in
    let front : Wrote old (g.W.Write.contents c.match-opcode.out) (IsKindText kind c.args.start bytes) = elim c.match-opcode.branch [
      | in-Msg+in_ok-write_op_msg-in-Msg w ↦ rw (w.out-is, w.in-Msg.is) w.in_ok-write_op_msg-in-Msg.ensures
      | in_default+in_ok-write_header-in_default w ↦ rw (w.out-is) (_, other_kind kind c.args.start bytes _ w.in_default.not-Msg (ap (header_line kind) w.header.ensures), w.in_ok-write_header-in_default.ensures)
    ] in
    frame_written c.write_checksum.result old (g.W.Write.contents c.match-opcode.out) (g.W.Write.contents c.write_checksum.new.out) c.args.start bytes kind c.checksum.result
    c.opcode.ensures.own c.opcode.ensures.number c.checksum.ensures front c.write_checksum.ensures
