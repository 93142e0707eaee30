-- Bytes have one text at most as messages.
use Rattle.std.proofs.Common.{◌≡◌, ◌+◌, ◌++◌, ℕ, List, Bool, sym, ap, ◌∙◌}
use Rattle.bson_elem.specs.Spelling.{IsBytes}
use Rattle.wire_msg.specs.declared.fault.MsgFault.{MsgFault}
use Rattle.wire_msg.proofs.Lemmas.{bad_not_whole, bad_once, msg_are_bytes, one_front, one_message}
use Rattle.wire_text.specs.{message_text, msg_fault_line}
use Rattle.file_commands.specs.declared.msg.MessageForm.TheVariants.{Text}
use Rattle.file_commands.specs.Output.{nothing}
use Rattle.file_commands.specs.Msg.{MsgText, messages_of}
use Rattle.file_commands.proofs.MessageReadings.{messages_kind, whole_front}
use Rattle.file_commands.proofs.ItemLaws.{IsTold, one_items_text}
use Rattle.wire_msg.specs.declared.header.TheConstants.{MAX_MESSAGE_LEN}

messages_told : (limit : ℕ) → IsTold (messages_of Text limit)
messages_told limit = record {
  one_item = λ a b after behind x y same. (one_front x.1.0 y.1.0 a b after behind (msg_are_bytes x.1.0 a x.1.1) x.1.1 y.1.1 same).1;
  one_text = λ start item a b fits is x y. x.2 ∙ ap message_text (one_message x.0 y.0 item fits x.1 y.1) ∙ sym y.2;
  one_line = λ start bytes a b fits x y. x.2 ∙ ap (λ (f : MsgFault). msg_fault_line (start + f.at) f.cause) (bad_once limit bytes x.0 y.0 fits x.1 y.1) ∙ sym y.2;
  bad_not_text = λ start front rest line text fits bad is t. bad_not_whole limit (front ++ rest) rest is.1.0 bad.0 fits bad.1 (whole_front limit front rest is);
}

pub one_msg_text : (bytes text text' : List ℕ) (fault fault' : Bool) → IsBytes bytes
    → MsgText Text bytes text fault → MsgText Text bytes text' fault' → (text ≡ text') × (fault ≡ fault')
one_msg_text = one_items_text (messages_of Text MAX_MESSAGE_LEN) (messages_kind Text MAX_MESSAGE_LEN) (messages_told MAX_MESSAGE_LEN) 0 nothing
