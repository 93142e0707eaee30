-- A message of any opCode has one text at most.
use Rattle.std.proofs.Common.{◌≡◌, inl, inr, ◌+◌, ◌≤◌, ◌++◌, ℕ, List, length, sym, ap, subst, ◌∙◌}
use Rattle.bson_elem.specs.{IsBytes}
use Rattle.wire_msg.specs.declared.fault.MsgFault.{MsgFault}
use Rattle.wire_msg.specs.{header_of}
use Rattle.wire_msg.proofs.Lemmas.{no_msg_fault, one_message, one_msg_fault}
use Rattle.wire_frames.specs.declared.checksum.Checksum.{Checksum}
use Rattle.wire_frames.specs.declared.opcode.Opcode.{Opcode}
use Rattle.wire_frames.specs.declared.opcode.Opcode.TheVariants.{Compressed, Msg, Other, Query, Reply}
use Rattle.wire_frames.proofs.Lemmas.{one_checksum, one_kind}
use Rattle.wire_text.specs.FrameText.{IsFrameText, IsKindText, IsMsgText, checksum_line, header_line}
use Rattle.wire_text.specs.MessageText.{message_text, msg_fault_line}
use Rattle.wire_msg.specs.declared.header.TheConstants.{MAX_MESSAGE_LEN}

one_of_msg : (start : ℕ) (bytes a b : List ℕ) → IsBytes bytes → length bytes ≤ MAX_MESSAGE_LEN → IsMsgText start bytes a → IsMsgText start bytes b → a ≡ b
one_of_msg start bytes a b fits within (inl x) (inl y) = x.2 ∙ ap message_text (one_message x.0 y.0 bytes fits x.1 y.1) ∙ sym y.2
one_of_msg start bytes a b fits within (inl x) (inr y) = absurd (no_msg_fault MAX_MESSAGE_LEN x.0 bytes y.0 fits x.1 within y.1)
one_of_msg start bytes a b fits within (inr x) (inl y) = absurd (no_msg_fault MAX_MESSAGE_LEN y.0 bytes x.0 fits y.1 within x.1)
one_of_msg start bytes a b fits within (inr x) (inr y) =
    x.2 ∙ ap (λ (f : MsgFault). header_line Msg (header_of bytes) ++ msg_fault_line (start + f.at) f.cause) (one_msg_fault MAX_MESSAGE_LEN bytes x.0 y.0 fits x.1 y.1) ∙ sym y.2

one_of_kind : (kind : Opcode) (start : ℕ) (bytes a b : List ℕ) → IsBytes bytes → length bytes ≤ MAX_MESSAGE_LEN → IsKindText kind start bytes a → IsKindText kind start bytes b → a ≡ b
one_of_kind Reply start bytes a b fits within x y = x ∙ sym y
one_of_kind Query start bytes a b fits within x y = x ∙ sym y
one_of_kind Compressed start bytes a b fits within x y = x ∙ sym y
one_of_kind Msg start bytes a b fits within x y = one_of_msg start bytes a b fits within x y
one_of_kind (Other number) start bytes a b fits within x y = x ∙ sym y

-- a frame has one text
pub one_of_frame : (start : ℕ) (bytes a b : List ℕ) → IsBytes bytes → length bytes ≤ MAX_MESSAGE_LEN → IsFrameText start bytes a → IsFrameText start bytes b → a ≡ b
one_of_frame start bytes a b fits within x y =
    let k : x.kind ≡ y.kind = one_kind x.kind y.kind x.own y.own (x.number ∙ sym y.number) in
    let s : x.checksum ≡ y.checksum = one_checksum bytes x.checksum y.checksum x.checksum_is y.checksum_is in
    let f : x.front ≡ y.front = one_of_kind y.kind start bytes x.front y.front fits within (subst (λ (z : Opcode). IsKindText z start bytes x.front) k x.front_is) y.front_is in
    x.parts ∙ ap (λ (t : List ℕ). t ++ checksum_line x.checksum) f ∙ ap (λ (c : Checksum). y.front ++ checksum_line c) s ∙ sym y.parts
