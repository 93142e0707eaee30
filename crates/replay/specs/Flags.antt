-- The flags of an OP_MSG, and whether a request wants an answer.
use Rattle.std.specs.Prelude.{◌&&◌, ◌||◌, ◌==◌, not, ℕ, ℤ, pos, Bool, List, bit_and, slice_get}
use Rattle.std.specs.Prelude.{unwrap_or}
use Rattle.std.specs.Ordering.{int_eq}
use Rattle.wire_msg.specs.{header_of}

-- whether the message is an OP_MSG
abbrev pub is_msg : List ℕ → Bool
is_msg bytes = int_eq (header_of bytes).opcode (pos 2013)

-- the first byte of the flags, or 0 where the message ends before them
abbrev pub flags_of : List ℕ → ℕ
flags_of bytes = unwrap_or (slice_get bytes 16) 0

-- whether the message is an OP_MSG that has this flag
abbrev pub has_flag : ℕ → List ℕ → Bool
has_flag flag bytes = is_msg bytes && not (bit_and (flags_of bytes) flag == 0)

-- whether no answer comes to requests with this opCode: OP_UPDATE, OP_INSERT, OP_DELETE and
-- OP_KILL_CURSORS
abbrev pub is_unanswered : ℤ → Bool
is_unanswered opcode =
    int_eq opcode (pos 2001) || int_eq opcode (pos 2002) || int_eq opcode (pos 2006)
    || int_eq opcode (pos 2007)

-- whether an answer comes to a request: to each OP_MSG without moreToCome, and to each other
-- message unless its opCode is one to which none comes
abbrev pub wants_answer : List ℕ → Bool
wants_answer bytes = not (has_flag 2 bytes) && not (is_unanswered (header_of bytes).opcode)
