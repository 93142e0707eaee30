-- How many bytes are gathered before any is passed on (MongoDB Wire Protocol manual: Standard
-- Message Header).
use Rattle.std.specs.Prelude.{◌≡◌, ℕ, pos, ◌<◌, ◌≤◌, List, length}
use Rattle.wire_msg.specs.{header_of, number_at}
use Rattle.wire_msg.specs.declared.header.MsgHeader.{MsgHeader}
use Rattle.wire_serve.specs.declared.head.Head.{Head}
use Rattle.wire_serve.specs.declared.head.Head.TheVariants as heads

-- the header of a query of 17 to 65,536 bytes
pub record IsQueryHeader (header : MsgHeader) : Type 0 where
  pub opcode : header.opcode ≡ pos 2004
  pub least : 16 < header.length
  pub most : header.length ≤ 65536

-- The bytes begin with the header of a query.
pub record BeginsQuery (bytes : List ℕ) : Type 0 where
  pub header : 16 ≤ length bytes
  pub is_query : IsQueryHeader (header_of bytes)

-- what the bytes begin with
abbrev pub IsHead : List ℕ → Head → Type 0
IsHead bytes heads.Part = length bytes < 16
IsHead bytes (heads.Query n) = BeginsQuery bytes × (n ≡ number_at bytes 0)
IsHead bytes heads.Other = (16 ≤ length bytes) × (BeginsQuery bytes → ⊥)

-- The bytes are gathered and no more of them are there: fewer than a header, or than a query whose
-- header is there.
pub data IsPart (bytes : List ℕ) : Type 0 where
  of_header : length bytes < 16 → IsPart bytes
  of_query : BeginsQuery bytes → length bytes < number_at bytes 0 → IsPart bytes

-- The bytes are as many as the header of a query announces.
pub record IsWholeQuery (bytes : List ℕ) : Type 0 where
  pub begins : BeginsQuery bytes
  pub whole : length bytes ≡ number_at bytes 0

-- The bytes are a header, which isn't that of a query.
pub record IsOtherHeader (bytes : List ℕ) : Type 0 where
  pub whole : length bytes ≡ 16
  pub other : BeginsQuery bytes → ⊥

-- There are no more bytes than are gathered before any is passed on.
pub record IsWithin (bytes : List ℕ) : Type 0 where
  pub query : BeginsQuery bytes → length bytes ≤ number_at bytes 0
  pub header : (BeginsQuery bytes → ⊥) → length bytes ≤ 16
