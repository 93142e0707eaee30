-- What is written of a frame.
use Rattle.std.proofs.Common.{◌≡◌, ◌≢◌, ℕ, List, Option, Result, OnOk, refl}
use Rattle.std.specs.Io.KnownBytes.{Appends}
use Rattle.bson_json.proofs.Lemmas.{one_then_word}
use Rattle.wire_msg.specs.{header_of}
use Rattle.wire_frames.specs.declared.checksum.Checksum.{Checksum}
use Rattle.wire_frames.specs.declared.opcode.Opcode.{Opcode}
use Rattle.wire_frames.specs.declared.opcode.Opcode.TheVariants.{Compressed, Msg, Other, Query, Reply}
use Rattle.wire_frames.specs.{IsChecksumOf, IsOwnKind, opcode_number}
use Rattle.wire_text.specs.FrameText.{IsFrameText, IsKindText, checksum_line, header_line}

-- a text of this sort was written between two states of a writer
abbrev pub Wrote : Option (List ℕ) → Option (List ℕ) → (List ℕ → Type 0) → Type 0
Wrote old new IsText = (text : List ℕ) × IsText text × Appends old new text

-- a frame that is no OP_MSG has the line of its header
pub other_kind : (kind : Opcode) (start : ℕ) (bytes text : List ℕ) → kind ≢ Msg → text ≡ header_line kind (header_of bytes) → IsKindText kind start bytes text
other_kind Reply start bytes text ne is = is
other_kind Query start bytes text ne is = is
other_kind Compressed start bytes text ne is = is
other_kind Msg start bytes text ne is = absurd (ne refl)
other_kind (Other number) start bytes text ne is = is

-- behind what is written of its kind comes the line of its checksum
pub frame_written : {E : Type 0} (r : Result (Unit {0}) E) (a b c : Option (List ℕ)) (start : ℕ) (bytes : List ℕ) (kind : Opcode) (checksum : Checksum)
    → IsOwnKind kind → opcode_number kind ≡ (header_of bytes).opcode → IsChecksumOf bytes checksum → Wrote a b (IsKindText kind start bytes)
    → OnOk r (Appends b c (checksum_line checksum)) → OnOk r (Wrote a c (IsFrameText start bytes))
frame_written r a b c start bytes kind checksum own number is front behind =
    one_then_word r a b c (checksum_line checksum) (IsKindText kind start bytes) (IsFrameText start bytes)
    (λ text text_is. record { kind = kind; own = own; number = number; checksum = checksum; checksum_is = is; front = text; front_is = text_is; parts = refl }) front behind
