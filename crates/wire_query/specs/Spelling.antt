-- The bytes of a query (MongoDB Wire Protocol manual: Standard Message Header, OP_QUERY).
use Rattle.std.specs.Prelude.{◌≡◌, ◌⊎◌, ℕ, ℤ, ◌+◌, ◌-◌, ◌*◌, ◌^◌, ◌<◌, ◌≤◌, FitsSigned, Bool, List}
use Rattle.std.specs.Prelude.{[], ◌∷◌, ◌++◌, length}
use Rattle.std.specs.Int.{w32, cast_unsigned, from_bool}
use Rattle.bson_elem.specs.{Tree, cstring, document, elements, little}
use Rattle.wire_query.specs.Queries.{Query, command_name, IsDatabase, IsCommand}

-- an int32
abbrev pub signed : ℤ → List ℕ
signed z = little (cast_unsigned w32 z)

-- messageLength, requestID, responseTo and opCode
unfoldable pub header_bytes : ℕ → ℤ → ℤ → ℕ → List ℕ
header_bytes len id response_to opcode =
    little len ++ (signed id ++ (signed response_to ++ little opcode))

-- flags: only SlaveOk may be set, which is bit 2
abbrev pub flag_word : Bool → ℕ
flag_word secondary_ok = from_bool secondary_ok * 4

-- numberToReturn is 1 or -1, which mean the same for a command: one document
abbrev pub IsOneDocument : ℕ → Type 0
IsOneDocument count = (count ≡ 1) ⊎ (count ≡ 2 ^ 32 - 1)

-- fullCollectionName, numberToSkip, which is 0, numberToReturn, and the command; there is no
-- returnFieldsSelector
unfoldable pub command_bytes : List ℕ → ℕ → Tree → List ℕ
command_bytes database count body =
    cstring (command_name database) ++ (little 0 ++ (little count ++ document (elements body)))

-- a header with the opCode of OP_QUERY, 2004, the flags, and what follows them
unfoldable pub framed_bytes : ℤ → ℤ → ℕ → List ℕ → List ℕ
framed_bytes id response_to word rest =
    header_bytes (length rest + 20) id response_to 2004 ++ (little word ++ rest)

-- a header with the opCode of OP_MSG, 2013, no flag, and the kind byte of a body, which has this
-- number of bytes and is all that follows
unfoldable pub message_front : ℤ → ℤ → ℕ → List ℕ
message_front id response_to len =
    header_bytes (21 + len) id response_to 2013 ++ 0 ∷ 0 ∷ 0 ∷ 0 ∷ 0 ∷ []

-- The bytes spell the query.
pub record SpellsQuery (q : Query) (bytes : List ℕ) : Type 0 where
  pub count : ℕ
  pub parts : bytes ≡ framed_bytes q.id q.response_to (flag_word q.secondary_ok)
      (command_bytes q.database count q.body)
  pub short : length bytes < 2 ^ 31
  pub id : FitsSigned w32 q.id
  pub response_to : FitsSigned w32 q.response_to
  pub database : IsDatabase q.database
  pub one : IsOneDocument count
  pub command : IsCommand q.body

-- the bytes spell a query
abbrev pub IsSpelledQuery : List ℕ → Type 0
IsSpelledQuery bytes = (q : Query) × SpellsQuery q bytes

-- the bytes spell a query, within a limit
abbrev pub IsQuery : ℕ → List ℕ → Type 0
IsQuery limit bytes = (length bytes ≤ limit) × IsSpelledQuery bytes
