use Rattle.std.proofs.Common.{ap, arith, length, length-drop}
use Rattle.wire_frames.specs.{record_bytes}
use Rattle.file_commands.proofs.RecordTexts.{lines_written}
use Rattle.file_commands.proofs.record_text.write_record_lines.Goals as goal

pub write_frame-requires : goal.write_frame-requires
write_frame-requires g c = omega (arith, c.requires.long, c.requires.offset, ap length c.frame.ensures, length-drop 20 (record_bytes c.args.one))

pub returns : goal.returns
returns g c =
    lines_written c.write_frame.result _ _ _ c.args.start (record_bytes c.args.one) _ c.head.result c.head.ensures.read c.frame.ensures c.in_ok-write_head_line.ensures c.write_frame.ensures
