-- The header of a message (MongoDB Wire Protocol manual: Standard Message Header), and the checks
-- of it.
use Rattle.std.specs.Prelude.{◌≡◌, ◌≢◌, ℕ, pos, ◌+◌, ◌<◌, ◌≤◌, ◌⊎◌, List, slice_range}
use Rattle.std.specs.Int.{w32, from_le_bytes, cast_signed}
use Rattle.wire_msg.specs.declared.header.MsgHeader.{MsgHeader}
use Rattle.wire_msg.specs.declared.fault.MsgFault.{MsgFault}
use Rattle.wire_msg.specs.declared.fault.MsgCause.TheVariants.{Length, Opcode}
use Rattle.wire_msg.specs.Causes.{msg_fault}

-- the unsigned number in the four bytes at an offset
abbrev pub number_at : List ℕ → ℕ → ℕ
number_at bytes at = from_le_bytes w32 (slice_range bytes at (at + 4))

-- the header in the first 16 bytes
abbrev pub header_of : List ℕ → MsgHeader
header_of bytes = record {
  length = number_at bytes 0;
  id = cast_signed w32 (number_at bytes 4);
  response_to = cast_signed w32 (number_at bytes 8);
  opcode = cast_signed w32 (number_at bytes 12);
}

-- The length is that of a message within the limit, and the opCode is that of OP_MSG.
pub record IsGoodHeader (limit : ℕ) (header : MsgHeader) : Type 0 where
  pub least : 16 ≤ header.length
  pub most : header.length ≤ limit
  pub opcode : header.opcode ≡ pos 2013

-- the first check that a header fails
pub data HeaderFault : ℕ → MsgHeader → MsgFault → Type 0 where
  of_length : {limit : ℕ} {header : MsgHeader} {f : MsgFault}
      → (header.length < 16) ⊎ (limit < header.length) → f ≡ msg_fault 0 Length
      → HeaderFault limit header f
  of_opcode : {limit : ℕ} {header : MsgHeader} {f : MsgFault} → 16 ≤ header.length
      → header.length ≤ limit → header.opcode ≢ pos 2013 → f ≡ msg_fault 12 (Opcode header.opcode)
      → HeaderFault limit header f
