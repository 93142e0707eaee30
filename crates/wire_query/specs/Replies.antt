-- The bytes of a reply of one document (MongoDB Wire Protocol manual: OP_REPLY).
use Rattle.std.specs.Prelude.{ℕ, ℤ, pos, ◌+◌, ◌^◌, ◌<◌, FitsSigned, List, ◌++◌, length}
use Rattle.std.specs.Int.{w32, w64, cast_unsigned, to_le_bytes}
use Rattle.bson_elem.specs.{Tree, document, elements, little}
use Rattle.bson_raw.specs.{IsDocument}
use Rattle.wire_query.specs.declared.reply.ReplyHead.{ReplyHead}
use Rattle.wire_query.specs.Spelling.{signed, header_bytes}

-- an int64
abbrev pub long : ℤ → List ℕ
long z = to_le_bytes w64 (cast_unsigned w64 z)

-- the number of bytes of the reply with this document
abbrev pub reply_len : Tree → ℕ
reply_len t = 36 + length (document (elements t))

-- responseFlags, cursorID, startingFrom, and numberReturned, which is 1
unfoldable pub numbers_bytes : ReplyHead → List ℕ
numbers_bytes h = little h.flags ++ (long h.cursor_id ++ (signed h.starting_from ++ little 1))

-- a header with the opCode of OP_REPLY, 1, the numbers, and the document
unfoldable pub reply_bytes : ReplyHead → Tree → List ℕ
reply_bytes h t =
    header_bytes (reply_len t) h.id h.response_to 1 ++ (numbers_bytes h ++ document (elements t))

-- the numbers of a reply to a command
abbrev pub command_head : ℤ → ℤ → ReplyHead
command_head id response_to =
    record {
      id = id;
      response_to = response_to;
      flags = 0;
      cursor_id = pos 0;
      starting_from = pos 0;
    }

-- the numbers are those of a reply, and the tree is that of a document
pub record IsReply (h : ReplyHead) (t : Tree) : Type 0 where
  pub id : FitsSigned w32 h.id
  pub response_to : FitsSigned w32 h.response_to
  pub flags : h.flags < 2 ^ 32
  pub cursor_id : FitsSigned w64 h.cursor_id
  pub starting_from : FitsSigned w32 h.starting_from
  pub document : IsDocument t
