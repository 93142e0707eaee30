use Rattle.std.proofs.Common.{ap}
use Rattle.bson_json.proofs.Lemmas.{exact_one}
use Rattle.wire_frames.specs.{frame_bytes}
use Rattle.file_commands.specs.RecordText.{IsFrameJson, IsMsgJson, header_json}
use Rattle.file_commands.proofs.RecordTexts.{other_json, wrote_as}
use Rattle.file_commands.proofs.record_text.write_frame_json.Goals as goal

pub returns-in-Msg : goal.returns-in-Msg
returns-in-Msg g c =
    let bytes = frame_bytes c.args.frame in
    wrote_as c.write_op_msg_json.result _ _ (IsMsgJson c.args.mode c.args.start bytes) (IsFrameJson c.args.mode c.args.start bytes)
    (λ text is. record { kind = c.opcode.result; own = c.opcode.ensures.own; number = c.opcode.ensures.number; is = rw (c.in-Msg.is) is }) c.write_op_msg_json.ensures

pub returns-in_default : goal.returns-in_default
returns-in_default g c =
    let bytes = frame_bytes c.args.frame in
    exact_one c.write_header_json.result _ _ (header_json c.header.result) (IsFrameJson c.args.mode c.args.start bytes)
    (record {
      kind = c.opcode.result;
      own = c.opcode.ensures.own;
      number = c.opcode.ensures.number;
      is = other_json c.opcode.result c.args.mode c.args.start bytes _ c.in_default.not-Msg (ap header_json c.header.ensures);
    })
    c.write_header_json.ensures
