-- What frames are to messages, and what is told of a frame.
use Rattle.std.proofs.Common.{◌≡◌, ℕ, pos, List, [], refl, sym, append-nil, arith}
use Rattle.wire_msg.specs.declared.fault.MsgCause.TheVariants.{Length}
use Rattle.wire_msg.specs.Header.{of_length}
use Rattle.wire_msg.specs.Standing.{bad_header, IsBad}
use Rattle.wire_msg.specs.{header_of, IsMessage, msg_fault}
use Rattle.wire_msg.proofs.Lemmas.{whole_read}
use Rattle.wire_frames.specs.declared.checksum.Checksum.{Checksum}
use Rattle.wire_frames.specs.declared.checksum.Checksum.TheVariants.{Absent, Right, Wrong}
use Rattle.wire_frames.specs.declared.opcode.Opcode.{Opcode}
use Rattle.wire_frames.specs.Checksums.{IsChecksumOf}
use Rattle.wire_frames.specs.Frames.{IsFrame, LacksFrame}
use Rattle.wire_frames.specs.Opcodes.{IsOwnKind, opcode_number}

-- a message is a frame, of the opCode of OP_MSG
pub message_framed : (limit : ℕ) (bytes : List ℕ) → IsMessage limit bytes → IsFrame limit bytes × ((header_of bytes).opcode ≡ pos 2013)
message_framed limit bytes m =
    let r = whole_read limit bytes [] m.1.0 (record { front = bytes; parts = sym (append-nil bytes); spelled = m.1.1; within = m.0 }) in (
      record { framed = record { header = omega (arith, r.good.least, r.announced); announced = r.announced }; within = m.0 },
      r.good.opcode,
    )

-- the fault of a frame is that of a message there
pub lacking_bad : (limit : ℕ) (bytes : List ℕ) → LacksFrame limit bytes → IsBad limit bytes (msg_fault 0 Length)
lacking_bad limit bytes l = bad_header l.header (of_length l.wrong refl)

-- one kind has an opCode
pub one_kind : (a b : Opcode) → IsOwnKind a → IsOwnKind b → opcode_number a ≡ opcode_number b → a ≡ b
one_kind a b own also is = grind (arith, own, also, is)

-- a frame has one checksum, or none
pub one_checksum : (bytes : List ℕ) (a b : Checksum) → IsChecksumOf bytes a → IsChecksumOf bytes b → a ≡ b
one_checksum bytes Absent Absent x y = refl
one_checksum bytes Absent Right x y = absurd (x y.0)
one_checksum bytes Absent Wrong x y = absurd (x y.0)
one_checksum bytes Right Absent x y = absurd (y x.0)
one_checksum bytes Right Right x y = refl
one_checksum bytes Right Wrong x y = absurd (y.1 x.1)
one_checksum bytes Wrong Absent x y = absurd (y x.0)
one_checksum bytes Wrong Right x y = absurd (x.1 y.1)
one_checksum bytes Wrong Wrong x y = refl
