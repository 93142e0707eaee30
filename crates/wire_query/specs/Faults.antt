-- The first fault of bytes that are not a query, in the order of the checks.
use Rattle.std.specs.Prelude.{◌≡◌, ℕ, ℤ, pos, ◌+◌, ◌≤◌, List, [], ◌++◌, length, drop, None, Ok, Err}
use Rattle.std.specs.Prelude.{Bool}
use Rattle.bson_elem.specs.declared.fault.BsonCause.{BsonCause}
use Rattle.bson_elem.specs.declared.fault.BsonFault.{BsonFault}
use Rattle.bson_elem.specs.{FrontFault, Tree, cstring_at, document, elements}
use Rattle.bson_raw.specs.{IsDocument, first_repeated}
use Rattle.wire_msg.specs.{header_of, number_at}
use Rattle.wire_query.specs.declared.fault.QueryFault.{QueryFault}
use Rattle.wire_query.specs.declared.fault.QueryCause.TheVariants as causes
use Rattle.wire_query.specs.Causes.{query_fault}
use Rattle.wire_query.specs.Queries.{command_name, IsDatabase}
use Rattle.wire_query.specs.Spelling.{flag_word, IsOneDocument}

-- A check fails, and the first fault is its own; or it holds, and a later check fails.
pub data Check (Holds : Type 0) (own first : QueryFault) (Later : Type 0) : Type 0 where
  fails : (Holds → ⊥) → first ≡ own → Check Holds own first Later
  holds : Holds → Later → Check Holds own first Later

-- ---- the command, which begins at p: the bytes are all that follows

pub data CommandFault (p : ℕ) (bytes : List ℕ) (f : QueryFault) : Type 0 where
  of_document : (inner : BsonFault) → FrontFault bytes inner
      → f ≡ query_fault p (causes.Document inner) → CommandFault p bytes f
  behind_document : (body : Tree) (rest : List ℕ) → IsDocument body
      → bytes ≡ document (elements body) ++ rest
      → Check (rest ≡ []) (query_fault
      (p + length (document (elements body))) causes.TrailingBytes) f
      (Check (first_repeated [] body ≡ None) (query_fault p causes.RepeatedField) f ⊥)
      → CommandFault p bytes f

-- ---- numberToSkip and numberToReturn, and then the command

abbrev pub NumbersFault : ℕ → List ℕ → QueryFault → Type 0
NumbersFault p bytes f =
    Check (8 ≤ length bytes) (query_fault p causes.Truncated) f
    (Check (number_at bytes 0 ≡ 0) (query_fault p causes.Skip) f
    (Check (IsOneDocument (number_at bytes 4)) (query_fault (p + 4) causes.Count) f
    (CommandFault (p + 8) (drop 8 bytes) f)))

-- ---- fullCollectionName, which begins at offset 20, and what follows it

-- the full name is that of a collection to which some database's commands are sent
abbrev pub IsOfCommands : List ℕ → Type 0
IsOfCommands name = (database : List ℕ) × IsDatabase database × (name ≡ command_name database)

pub data NameFault (bytes : List ℕ) (f : QueryFault) : Type 0 where
  of_name : (c : BsonCause) → cstring_at bytes ≡ Err c → f ≡ query_fault 20 causes.Name
      → NameFault bytes f
  behind_name : (name rest : List ℕ) → cstring_at bytes ≡ Ok (name, rest)
      → Check (IsOfCommands name) (query_fault 20 causes.Collection) f
      (NumbersFault (21 + length name) rest f)
      → NameFault bytes f

-- ---- queries

-- the length in the header is the number of the bytes, and within the limit
pub record IsWholeLength (limit : ℕ) (bytes : List ℕ) : Type 0 where
  pub header : 16 ≤ length bytes
  pub whole : number_at bytes 0 ≡ length bytes
  pub most : length bytes ≤ limit

abbrev pub opcode_of : List ℕ → ℤ
opcode_of bytes = (header_of bytes).opcode

-- no flag but SlaveOk is set
abbrev pub IsFlagWord : ℕ → Type 0
IsFlagWord word = (secondary_ok : Bool) × (word ≡ flag_word secondary_ok)

-- The first fault of bytes that are not a query within the limit.
abbrev pub FaultQuery : List ℕ → ℕ → QueryFault → Type 0
FaultQuery bytes limit f =
    Check (IsWholeLength limit bytes) (query_fault 0 causes.Length) f
    (Check (opcode_of bytes ≡ pos 2004) (query_fault 12 (causes.Opcode (opcode_of bytes))) f
    (Check (20 ≤ length bytes) (query_fault 16 causes.Truncated) f
    (Check (IsFlagWord (number_at bytes 16)) (query_fault 16 causes.Flags) f
    (NameFault (drop 20 bytes) f))))
