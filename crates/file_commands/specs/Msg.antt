-- What `msg` writes for messages back to back.
use Rattle.std.specs.Prelude.{◌≡◌, ℕ, ◌+◌, List, ◌++◌, codes}
use Rattle.wire_msg.specs.declared.fault.MsgFault.{MsgFault}
use Rattle.wire_msg.specs.{IsBad, IsMessage, IsOpen, Message, SpellsMsg}
use Rattle.wire_text.specs.{IsMessageJson, message_text, msg_fault_line}
use Rattle.file_commands.specs.declared.msg.MessageForm.{MessageForm}
use Rattle.file_commands.specs.declared.msg.MessageForm.TheVariants.{Text, Json}
use Rattle.file_commands.specs.InputFault.{ended_inside_line}
use Rattle.file_commands.specs.Output.{TextOf, nothing}
use Rattle.file_commands.specs.Items.{AllItems, FirstItems, ItemKind, ItemsText}
use Rattle.wire_msg.specs.declared.header.TheConstants.{MAX_MESSAGE_LEN}

-- what may be written for a message: its text; or a line with one JSON object, of which there are
-- several where the message holds doubles
abbrev pub MayBeMessage : MessageForm → Message → List ℕ → Type 0
MayBeMessage Text m text = text ≡ message_text m
MayBeMessage (Json mode) m text =
    (json : List ℕ) × IsMessageJson mode m json × (text ≡ json ++ codes "\n")

-- Messages within a limit, which are written in this form. A fault is told at its offset in the
-- input.
abbrev pub messages_of : MessageForm → ℕ → ItemKind
messages_of form limit = record {
  is_item = IsMessage limit;
  is_open = IsOpen limit;
  inside_line = ended_inside_line;
  is_bad = λ start bytes line.
      (f : MsgFault) × IsBad limit bytes f × (line ≡ msg_fault_line (start + f.at) f.cause);
  is_text = λ start bytes text. (m : Message) × SpellsMsg m bytes × MayBeMessage form m text;
}

-- What `msg` writes for bytes, and whether it ends with a fault line. The message limit is
-- 48,000,000 bytes.
abbrev pub MsgText : MessageForm → TextOf
MsgText form = ItemsText (messages_of form MAX_MESSAGE_LEN) 0 nothing

-- the texts of the first few messages in some bytes
abbrev pub FirstMessages : MessageForm → List ℕ → List ℕ → Type 0
FirstMessages form = FirstItems (messages_of form MAX_MESSAGE_LEN) 0

-- the texts of all messages in some bytes, up to the first fault
abbrev pub AllMessages : MessageForm → List ℕ → List ℕ → Type 0
AllMessages form = AllItems (messages_of form MAX_MESSAGE_LEN) 0
