-- What `msg --any` writes for messages of any opCode back to back.
use Rattle.std.specs.Prelude.{◌≡◌, ℕ, List}
use Rattle.wire_msg.specs.declared.fault.MsgCause.TheVariants.{Length}
use Rattle.wire_frames.specs.{IsFrame, LacksFrame, WantsMore}
use Rattle.wire_text.specs.{IsFrameText, msg_fault_line}
use Rattle.file_commands.specs.InputFault.{ended_inside_line}
use Rattle.file_commands.specs.Output.{TextOf, nothing}
use Rattle.file_commands.specs.Items.{AllItems, FirstItems, ItemKind, ItemsText}
use Rattle.wire_msg.specs.declared.header.TheConstants.{MAX_MESSAGE_LEN}

-- more bytes decide whether these begin with a frame
abbrev pub IsOpenFrame : ℕ → List ℕ → Type 0
IsOpenFrame limit bytes = (more : ℕ) × WantsMore limit bytes more

-- Frames within a limit. A length that is at fault is told at the offset at which its frame begins.
abbrev pub frames_of : ℕ → ItemKind
frames_of limit = record {
  is_item = IsFrame limit;
  is_open = IsOpenFrame limit;
  inside_line = ended_inside_line;
  is_bad = λ start bytes line. LacksFrame limit bytes × (line ≡ msg_fault_line start Length);
  is_text = IsFrameText;
}

-- What `msg --any` writes for bytes, and whether it ends with a fault line. The limit is 48,000,000
-- bytes.
abbrev pub AnyText : TextOf
AnyText = ItemsText (frames_of MAX_MESSAGE_LEN) 0 nothing

-- the texts of the first few frames in some bytes
abbrev pub FirstFrames : List ℕ → List ℕ → Type 0
FirstFrames = FirstItems (frames_of MAX_MESSAGE_LEN) 0

-- the texts of all frames in some bytes, up to a length at fault
abbrev pub AllFrames : List ℕ → List ℕ → Type 0
AllFrames = AllItems (frames_of MAX_MESSAGE_LEN) 0
