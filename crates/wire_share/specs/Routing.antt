-- The tables of the upstreams on which cursors and transactions live.
use Rattle.std.specs.Prelude.{ℕ, ℤ, pos, List, [], Bool, not, ◌&&◌, Option, Some, None, codes}
use Rattle.std.specs.Prelude.{if◌then◌else◌, is_some, length, filter, nat_eq, nat_le, remove}
use Rattle.std.specs.Map.{lookup, remove_entry}
use Rattle.std.specs.Ordering.{int_eq}
use Rattle.std.specs.Str.{bytes_eq}
use Rattle.indexmap.specs.IndexMap.{insert_entry}
use Rattle.bson_elem.specs.{Tree, inner_pair, leaf_pair, no_pairs}
use Rattle.bson_elem.specs.declared.kinds.Kind.TheVariants as kinds
use Rattle.bson_raw.specs.{TreeValue, document_value, first_named, leaf_value}
use Rattle.wire_share.specs.declared.need.Need.{Need}
use Rattle.wire_share.specs.declared.need.Need.TheVariants as needs
use Rattle.wire_share.specs.declared.need.SessionId.{SessionId}
use Rattle.wire_share.specs.declared.need.Topic.{Topic}
use Rattle.wire_share.specs.declared.need.Topic.TheVariants as topics
use Rattle.wire_share.specs.Needs.{command_name, ended_by, id_of, more_of, opened_by, topic_of}

-- ---- one table: names and the numbers of upstreams, the oldest first

-- without the oldest, if there are as many as a table may have and this name is new
abbrev pub made_room : {K : Type 0} → (K → K → Bool) → K → List (K × ℕ) → List (K × ℕ)
made_room eq name t =
    if nat_le 65536 (length t) && not (is_some (lookup (eq name) t)) then remove t 0 else t

-- the name stands for this upstream
abbrev pub noted : {K : Type 0} → (K → K → Bool) → K → ℕ → List (K × ℕ) → List (K × ℕ)
noted eq name upstream t = insert_entry eq (made_room eq name t) name upstream

-- those that stand for other upstreams
abbrev pub off : {K : Type 0} → ℕ → List (K × ℕ) → List (K × ℕ)
off upstream t = filter (λ e. not (nat_eq e.1 upstream)) t

-- ---- both tables

-- the upstreams of cursors, by their ids, and of transactions, by their sessions
pub record RoutesSeen : Type 0 where
  pub cursors : List (ℤ × ℕ)
  pub transactions : List (SessionId × ℕ)

-- the routes of no cursor and no transaction
abbrev pub no_routes : RoutesSeen
no_routes = record { cursors = []; transactions = [] }

abbrev pub with_cursors : RoutesSeen → List (ℤ × ℕ) → RoutesSeen
with_cursors r cursors = record r { cursors = cursors }

abbrev pub with_transactions : RoutesSeen → List (SessionId × ℕ) → RoutesSeen
with_transactions r transactions = record r { transactions = transactions }

-- two sessions are the same if their ids are
abbrev pub is_session : SessionId → SessionId → Bool
is_session a b = bytes_eq a.bytes b.bytes

-- the one upstream that serves this need
abbrev pub found : RoutesSeen → Need → Option ℕ
found r (needs.Cursor id) = lookup (int_eq id) r.cursors
found r (needs.Transaction session) = lookup (is_session session) r.transactions
found r need = None

-- the transaction of a session began on this upstream
abbrev pub after_begin : SessionId → ℕ → RoutesSeen → RoutesSeen
after_begin session upstream r =
    with_transactions r (noted is_session session upstream r.transactions)

-- There was no memory to note that it began. Where the table was full, the oldest one is gone.
abbrev pub without_begin : SessionId → RoutesSeen → RoutesSeen
without_begin session r =
    with_transactions r (made_room is_session session r.transactions)

-- what lives on other upstreams
abbrev pub after_loss : ℕ → RoutesSeen → RoutesSeen
after_loss upstream r =
    record { cursors = off upstream r.cursors; transactions = off upstream r.transactions }

-- ---- what a reply tells

-- the cursors without that of this id, if it is one
abbrev pub without_id : Option ℤ → List (ℤ × ℕ) → List (ℤ × ℕ)
without_id None t = t
without_id (Some id) t = remove_entry (int_eq id) t

-- without those whose ids are among the values of the tree
abbrev pub without_ids : Tree → List (ℤ × ℕ) → List (ℤ × ℕ)
without_ids no_pairs t = t
without_ids (leaf_pair n k v ps) t = without_ids ps (without_id (id_of (Some (leaf_value k v))) t)
without_ids (inner_pair n k b inner ps) t =
    without_ids ps (without_id (id_of (Some (document_value k b inner))) t)

-- without those of the array that is this value
abbrev pub without_listed : Option TreeValue → List (ℤ × ℕ) → List (ℤ × ℕ)
without_listed (Some (document_value kinds.Array b inner)) t = without_ids inner t
without_listed _ t = t

-- without those that a request has closed
abbrev pub after_kill : Topic → Tree → List (ℤ × ℕ) → List (ℤ × ℕ)
after_kill topics.KillCursors request t = without_listed (first_named (codes "cursors") request) t
after_kill topic request t = t

-- without the transaction that a request has ended
abbrev pub without_session : Option SessionId → List (SessionId × ℕ) → List (SessionId × ℕ)
without_session None t = t
without_session (Some session) t = remove_entry (is_session session) t

-- without what a request has closed and ended
abbrev pub after_end : Tree → RoutesSeen → RoutesSeen
after_end request r = record {
  cursors = after_kill (topic_of (command_name request)) request r.cursors;
  transactions = without_session (ended_by request) r.transactions;
}

-- the cursors after a reply of this upstream that tells of none, of one that has no more to give,
-- or of one that is open
abbrev pub after_cursor : Option ℤ → Tree → ℕ → List (ℤ × ℕ) → List (ℤ × ℕ)
after_cursor None request upstream t = t
after_cursor (Some id) request upstream t =
    if int_eq id (pos 0) then without_id (more_of (topic_of (command_name request)) request) t
    else noted int_eq id upstream t

-- what is known after this reply of an upstream to a request
abbrev pub after_reply : Tree → Tree → ℕ → RoutesSeen → RoutesSeen
after_reply request reply upstream r =
    with_cursors (after_end request r)
    (after_cursor (opened_by reply) request upstream (after_end request r).cursors)

-- There was no memory to note the cursor that a reply to this request opens. What the request has
-- ended is forgotten, and where the table was full, the oldest cursor is gone.
abbrev pub without_cursor : Tree → ℤ → RoutesSeen → RoutesSeen
without_cursor request id r =
    with_cursors (after_end request r) (made_room int_eq id (after_end request r).cursors)
