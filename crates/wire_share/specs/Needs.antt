-- What a request needs of the connection that it goes over, and what it and its reply tell of
-- cursors and transactions.
use Rattle.std.specs.Prelude.{ℕ, ℤ, List, [], ◌∷◌, Bool, false, ◌||◌, ◌==◌, Option, Some, None}
use Rattle.std.specs.Prelude.{codes, if◌then◌else◌, is_some, length, not}
use Rattle.std.specs.Str.{bytes_eq}
use Rattle.bson_elem.specs.declared.kinds.Kind.TheVariants as kinds
use Rattle.bson_elem.specs.{Tree, binary_value, boolean_value, inner_pair, leaf_pair}
use Rattle.bson_elem.specs.{no_pairs, number_value}
use Rattle.bson_raw.specs.{TreeValue, document_value, first_named, leaf_value, nth_value}
use Rattle.wire_share.specs.declared.need.Need.{Need}
use Rattle.wire_share.specs.declared.need.Need.TheVariants as needs
use Rattle.wire_share.specs.declared.need.SessionId.{SessionId}
use Rattle.wire_share.specs.declared.need.Topic.{Topic}
use Rattle.wire_share.specs.declared.need.Topic.TheVariants as topics

-- ---- commands

-- the name of a command, which is that of the first field of its body
abbrev pub command_name : Tree → List ℕ
command_name no_pairs = []
command_name (leaf_pair n k v ps) = n
command_name (inner_pair n k b inner ps) = n

-- the first field with this name has the command inside
abbrev pub is_wrapper : List ℕ → Bool
is_wrapper name = bytes_eq name (codes "$query") || bytes_eq name (codes "query")

-- the command of a request with this body: the document in such a field, or the body itself
abbrev pub command_in : Tree → Tree
command_in (inner_pair n kinds.Document b inner ps) =
    if is_wrapper n then inner else inner_pair n kinds.Document b inner ps
command_in t = t

-- what begins with `$` is an operator, and what stands behind it may be any command
abbrev pub other_topic : List ℕ → Topic
other_topic [] = topics.Other
other_topic (first ∷ rest) = if first == 36 then topics.Operator else topics.Other

-- what the command with this name is about
abbrev pub topic_of : List ℕ → Topic
topic_of name =
    if bytes_eq name (codes "hello") then topics.Handshake else
    if bytes_eq name (codes "isMaster") then topics.Handshake else
    if bytes_eq name (codes "ismaster") then topics.Handshake else
    if bytes_eq name (codes "saslStart") then topics.Authentication else
    if bytes_eq name (codes "saslContinue") then topics.Authentication else
    if bytes_eq name (codes "authenticate") then topics.Authentication else
    if bytes_eq name (codes "logout") then topics.Authentication else
    if bytes_eq name (codes "getnonce") then topics.Authentication else
    if bytes_eq name (codes "getMore") then topics.GetMore else
    if bytes_eq name (codes "killCursors") then topics.KillCursors else
    if bytes_eq name (codes "commitTransaction") then topics.TransactionEnd else
    if bytes_eq name (codes "abortTransaction") then topics.TransactionEnd else other_topic name

-- ---- fields

-- the number of an int64
abbrev pub id_of : Option TreeValue → Option ℤ
id_of (Some (leaf_value kinds.Int64 (number_value z))) = Some z
id_of _ = None

-- a session's id has 16 bytes
abbrev pub session_by : List ℕ → Option SessionId
session_by bytes = if length bytes == 16 then Some (record { bytes = bytes }) else None

abbrev pub session_id : Option TreeValue → Option SessionId
session_id (Some (leaf_value kinds.Binary (binary_value subtype bytes))) = session_by bytes
session_id _ = None

-- the id of the session that is this value of `lsid`
abbrev pub session_in : Option TreeValue → Option SessionId
session_in (Some (document_value kinds.Document b inner)) =
    session_id (first_named (codes "id") inner)
session_in _ = None

abbrev pub session_of : Tree → Option SessionId
session_of t = session_in (first_named (codes "lsid") t)

abbrev pub holds_true : Option TreeValue → Bool
holds_true (Some (leaf_value kinds.Boolean (boolean_value truth))) = truth
holds_true _ = false

abbrev pub holds_false : Option TreeValue → Bool
holds_false (Some (leaf_value kinds.Boolean (boolean_value truth))) = not truth
holds_false _ = false

-- the field with this name is true, or false
abbrev pub is_true : List ℕ → Tree → Bool
is_true name t = holds_true (first_named name t)

abbrev pub is_false : List ℕ → Tree → Bool
is_false name t = holds_false (first_named name t)

-- ---- transactions

-- the session to whose transaction a command belongs
abbrev pub transaction_of : Tree → Option SessionId
transaction_of t = if is_false (codes "autocommit") t then session_of t else None

-- the session whose transaction begins with it
abbrev pub begun_by : Tree → Option SessionId
begun_by t = if is_true (codes "startTransaction") t then transaction_of t else None

-- the session whose transaction ends with it
abbrev pub ended_as : Topic → Tree → Option SessionId
ended_as topics.TransactionEnd t = transaction_of t
ended_as _ t = None

abbrev pub ended_by : Tree → Option SessionId
ended_by t = ended_as (topic_of (command_name t)) t

-- ---- cursors

-- the first value of an array, if it is an id
abbrev pub first_id : Tree → Option ℤ
first_id t = id_of (nth_value 0 t)

abbrev pub first_in : Option TreeValue → Option ℤ
first_in (Some (document_value kinds.Array b inner)) = first_id inner
first_in _ = None

-- the cursor that a command asks for more of, or the first that it closes
abbrev pub asked_cursor : Topic → Tree → Option ℤ
asked_cursor topics.GetMore t = id_of (first_named (codes "getMore") t)
asked_cursor topics.KillCursors t = first_in (first_named (codes "cursors") t)
asked_cursor _ t = None

-- the cursor that it asks for more of
abbrev pub more_of : Topic → Tree → Option ℤ
more_of topics.GetMore t = id_of (first_named (codes "getMore") t)
more_of _ t = None

-- the id of the cursor that is this value of a reply
abbrev pub cursor_in : Option TreeValue → Option ℤ
cursor_in (Some (document_value kinds.Document b inner)) = id_of (first_named (codes "id") inner)
cursor_in _ = None

-- the id of the cursor in a reply
abbrev pub opened_by : Tree → Option ℤ
opened_by t = cursor_in (first_named (codes "cursor") t)

-- ---- needs

-- that of a command in a transaction, or about a cursor
abbrev pub need_for : Option SessionId → Option ℤ → Need
need_for (Some session) cursor = needs.Transaction session
need_for None (Some cursor) = needs.Cursor cursor
need_for None None = needs.Any

-- That of a handshake is a connection of its own, and one that the client keeps if it begins to
-- authenticate, as that of all that authenticates, or may.
abbrev pub need_by : Topic → Tree → Need
need_by topics.Handshake t =
    if is_some (first_named (codes "speculativeAuthenticate") t) then needs.Kept else needs.Own
need_by topics.Authentication t = needs.Kept
need_by topics.Operator t = needs.Kept
need_by topic t = need_for (transaction_of t) (asked_cursor topic t)

-- the need of a request with this body
abbrev pub need_of : Tree → Need
need_of t = need_by (topic_of (command_name t)) t
