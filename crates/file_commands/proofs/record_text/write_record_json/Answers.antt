use Rattle.std.proofs.Common.{◌∙◌, ap, arith, length, length-drop}
use Rattle.wire_frames.specs.{record_bytes}
use Rattle.file_commands.proofs.RecordTexts.{object_written}
use Rattle.file_commands.proofs.record_text.write_record_json.Goals as goal

pub write_frame_json-requires : goal.write_frame_json-requires
write_frame_json-requires g c = omega (arith, c.requires.long, c.requires.offset, ap length c.frame.ensures, length-drop 20 (record_bytes c.args.one))

pub returns : goal.returns
returns g c =
    object_written c.write_all-3.result _ _ _ _ _ _ c.args.mode c.args.layout c.args.start (record_bytes c.args.one) _ _ _ c.head.result c.head.ensures.read c.frame.ensures
    c.in_ok-write_all.ensures.bytes (c.as_bytes.ensures.value ∙ c.front_text.ensures) c.in_ok-write_head_json.ensures c.in_ok-write_frame_json.ensures c.in_ok-write_all-2.ensures.bytes
    (c.as_bytes-2.ensures.value ∙ c.end_text.ensures) c.write_all-3.ensures.bytes
