use Rattle.std.proofs.Common.{◌≡◌, ◌+◌, ◌++◌, inl, inr, List, ℕ, ap, refl, subst, sym}
use Rattle.bson_json.proofs.Lemmas.{exact_one, one_then_word}
use Rattle.wire_msg.specs.{FaultMsg, SpellsMsg, header_of}
use Rattle.wire_frames.specs.declared.opcode.Opcode.TheVariants.{Msg}
use Rattle.wire_frames.specs.{frame_bytes}
use Rattle.wire_text.specs.FrameText.{IsMsgText, header_line}
use Rattle.wire_text.specs.MessageText.{message_text, msg_fault_line}
use Rattle.wire_text.proofs.frame_text.write_op_msg.Goals as goal
use Rattle.wire_msg.specs.declared.header.TheConstants.{MAX_MESSAGE_LEN}

pub returns-in-Ok : goal.returns-in-Ok
returns-in-Ok g c =
    let found = c.in-Ok.ensures.found in
    let m = found.1.1.0 in
    let spelled = subst (SpellsMsg m) c.as_bytes.ensures found.1.1.1 in
    exact_one c.write_message.result _ _ (message_text m) (IsMsgText c.args.start (frame_bytes c.args.frame)) (inl (m, spelled, refl))
    (c.write_message.ensures m (subst (SpellsMsg m) (sym found.0) found.1.1.1))

pub returns-in_ok-write_header-in-Err : goal.returns-in_ok-write_header-in-Err
returns-in_ok-write_header-in-Err g c =
    let f = c.in-Err.fault in
    let bytes = frame_bytes c.args.frame in
    let line = msg_fault_line (c.args.start + f.at) f.cause in
    let fault = subst (λ (b : List ℕ). FaultMsg b MAX_MESSAGE_LEN f) c.as_bytes.ensures c.in-Err.ensures.fault in
    one_then_word c.write_msg_fault.result _ _ _ line (λ text. text ≡ header_line Msg (header_of bytes)) (IsMsgText c.args.start bytes)
    (λ text is. inr (f, fault, ap (λ (x : List ℕ). x ++ line) is))
    (header_line Msg c.header.result, ap (header_line Msg) c.header.ensures, c.in_ok-write_header-in-Err.ensures)
    c.write_msg_fault.ensures
