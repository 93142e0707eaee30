-- The query of a command as a value, and the message that asks the same (MongoDB Wire Protocol
-- manual: OP_QUERY).
use Rattle.std.specs.Prelude.{◌≡◌, ◌≢◌, ℕ, ℤ, ◌<◌, List, [], ◌++◌, length, slice_index, codes, Bool}
use Rattle.std.specs.Prelude.{false, None}
use Rattle.bson_elem.specs.{IsName, Tree}
use Rattle.bson_raw.specs.{IsDocument, first_repeated}
use Rattle.wire_msg.specs.{Message, body_alone}
use Rattle.wire_query.specs.Database.{with_database}

-- requestID, responseTo, whether a secondary may answer, the database's name, and the command
pub record Query : Type 0 where
  pub id : ℤ
  pub response_to : ℤ
  pub secondary_ok : Bool
  pub database : List ℕ
  pub body : Tree

-- the full name of the collection to which a database's commands are sent
abbrev pub command_name : List ℕ → List ℕ
command_name database = database ++ codes ".$cmd"

-- The database's name is the part of the collection's full name before the first dot. It isn't
-- empty, and the full name is UTF-8 without 00.
pub record IsDatabase (database : List ℕ) : Type 0 where
  pub some : 0 < length database
  pub no_dot : (i : ℕ) → i < length database → slice_index database i ≢ 46
  pub full_name : IsName (command_name database)

-- the top-level names of the command are unique
pub record IsCommand (body : Tree) : Type 0 where
  pub document : IsDocument body
  pub unique : first_repeated [] body ≡ None

-- the message with the same ids, and with the body that names the database
abbrev pub message_of : Query → Message
message_of q =
    record {
      id = q.id;
      response_to = q.response_to;
      flags = record { more_to_come = false; exhaust_allowed = false };
      content = body_alone (with_database q.database q.body);
    }
