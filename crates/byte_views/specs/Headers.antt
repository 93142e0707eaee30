-- The numbers at the front of a message, as a caller gets them.
use Rattle.std.specs.Prelude.{ℕ, ◌+◌, List, length, nat_lt, if◌then◌else◌}
use Rattle.std.specs.Int.{w32, cast_signed}
use Rattle.wire_msg.specs.{number_at}
use Rattle.wire_msg.specs.declared.header.MsgHeader.{MsgHeader}
use Rattle.byte_views.specs.declared.header.FrontNumbers.{FrontNumbers}

-- the unsigned number in the four bytes at an offset, or 0 where the bytes end before
abbrev pub number_or_0 : List ℕ → ℕ → ℕ
number_or_0 bytes at = if nat_lt (length bytes) (at + 4) then 0 else number_at bytes at

-- how many of five numbers of four bytes each so many bytes have
abbrev pub count_of : ℕ → ℕ
count_of n =
    if nat_lt n 4 then 0 else if nat_lt n 8 then 1 else if nat_lt n 12 then 2
    else if nat_lt n 16 then 3 else if nat_lt n 20 then 4 else 5

-- the numbers of a header, and flagBits
abbrev pub front_numbers : List ℕ → FrontNumbers
front_numbers bytes = record {
  count = count_of (length bytes);
  length = number_or_0 bytes 0;
  id = cast_signed w32 (number_or_0 bytes 4);
  response_to = cast_signed w32 (number_or_0 bytes 8);
  opcode = cast_signed w32 (number_or_0 bytes 12);
  flag_bits = number_or_0 bytes 16;
}

-- the four numbers of a message's header, out of the numbers at its front
abbrev pub header_shown : FrontNumbers → MsgHeader
header_shown n =
    record
    { length = n.length; id = n.id; response_to = n.response_to; opcode = n.opcode }
