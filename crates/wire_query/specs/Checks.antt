-- What the parts of the check find.
use Rattle.std.specs.Prelude.{◌≡◌, ℕ, pos, List, length, drop, Ok, ◌≤◌}
use Rattle.bson_elem.specs.{cstring_at, document, elements, Tree}
use Rattle.wire_msg.specs.{number_at}
use Rattle.wire_query.specs.Queries.{Query, command_name, IsDatabase, IsCommand}
use Rattle.wire_query.specs.Spelling.{IsOneDocument, SpellsQuery}
use Rattle.wire_query.specs.Faults.{IsWholeLength, opcode_of}

-- the header is that of a query of this length
abbrev pub HasHeader : ℕ → List ℕ → Type 0
HasHeader limit bytes = IsWholeLength limit bytes × (opcode_of bytes ≡ pos 2004)

-- The bytes are a command.
pub record HasCommand (bytes : List ℕ) : Type 0 where
  pub body : Tree
  pub is : IsCommand body
  pub parts : bytes ≡ document (elements body)

-- The bytes are numberToSkip, numberToReturn and the command, whose bytes are these.
pub record HasNumbers (bytes command : List ℕ) : Type 0 where
  pub eight : 8 ≤ length bytes
  pub none_skipped : number_at bytes 0 ≡ 0
  pub one : IsOneDocument (number_at bytes 4)
  pub behind : command ≡ drop 8 bytes
  pub inner : HasCommand command

-- The bytes are the name of the collection to which this database's commands are sent, the two
-- numbers, and the command.
pub record HasName (bytes database command : List ℕ) : Type 0 where
  pub is : IsDatabase database
  pub rest : List ℕ
  pub read : cstring_at bytes ≡ Ok (command_name database, rest)
  pub inner : HasNumbers rest command

-- The bytes spell a query within the limit, to this database, whose command is these bytes.
pub record HasParts (limit : ℕ) (bytes database command : List ℕ) : Type 0 where
  pub query : Query
  pub spelled : SpellsQuery query bytes
  pub within : length bytes ≤ limit
  pub database_is : query.database ≡ database
  pub command_is : document (elements query.body) ≡ command

-- whatever query the bytes spell, it is sent to this database, and its command is these bytes
abbrev pub ArePartsOf : List ℕ → List ℕ → List ℕ → Type 0
ArePartsOf bytes database command =
    (q : Query) → SpellsQuery q bytes
    → (q.database ≡ database) × (document (elements q.body) ≡ command)
