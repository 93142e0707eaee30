use Rattle.std.proofs.Common.{◌+◌, inl, inr, List, ℕ, ap, subst, sym}
use Rattle.bson_json.proofs.Lemmas.{exact_one}
use Rattle.wire_msg.specs.{FaultMsg, SpellsMsg}
use Rattle.wire_frames.specs.{frame_bytes}
use Rattle.wire_text.specs.{IsMessageJson}
use Rattle.file_commands.specs.RecordText.{IsMsgJson, faulty_json}
use Rattle.file_commands.proofs.RecordTexts.{wrote_as}
use Rattle.file_commands.proofs.record_text.write_op_msg_json.Goals as goal
use Rattle.wire_msg.specs.declared.header.TheConstants.{MAX_MESSAGE_LEN}

pub returns-in-Ok : goal.returns-in-Ok
returns-in-Ok g c =
    let found = c.in-Ok.ensures.found in
    let m = found.1.1.0 in
    let bytes = frame_bytes c.args.frame in
    let spelled = subst (SpellsMsg m) c.as_bytes.ensures found.1.1.1 in
    wrote_as c.write_message_json.result _ _ (IsMessageJson c.args.mode m) (IsMsgJson c.args.mode c.args.start bytes) (λ text is. inl (m, spelled, is))
    (c.write_message_json.ensures m (subst (SpellsMsg m) (sym found.0) found.1.1.1))

pub returns-in-Err : goal.returns-in-Err
returns-in-Err g c =
    let f = c.in-Err.fault in
    let bytes = frame_bytes c.args.frame in
    let at = c.args.start + f.at in
    let fault = subst (λ (b : List ℕ). FaultMsg b MAX_MESSAGE_LEN f) c.as_bytes.ensures c.in-Err.ensures.fault in
    exact_one c.write_faulty_json.result _ _ (faulty_json c.header.result at f.cause) (IsMsgJson c.args.mode c.args.start bytes)
    (inr (f, fault, ap (λ h. faulty_json h at f.cause) c.header.ensures)) c.write_faulty_json.ensures
