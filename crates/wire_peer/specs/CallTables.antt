-- The calls that await replies, in the order in which they were made, each with the id of its
-- request.
use Rattle.std.specs.Prelude.{◌≡◌, ◌≤◌, ℤ, Bool, false, ◌&&◌, ◌||◌, not, if◌then◌else◌, List, []}
use Rattle.std.specs.Prelude.{◌∷◌, length, filter, map, Option, Some, None, is_some, Result, Ok}
use Rattle.std.specs.Prelude.{Err}
use Rattle.std.specs.Ordering.{int_eq}
use Rattle.std.specs.Map.{lookup, remove_entry, set_value}
use Rattle.wire_peer.specs.declared.call_table.Outstanding.{Outstanding}
use Rattle.wire_peer.specs.declared.call_table.ReadyReply.{ReadyReply}
use Rattle.wire_peer.specs.declared.client_state.ClientCause.{ClientCause}
use Rattle.wire_peer.specs.declared.client_state.ClientCause.TheVariants.{UnknownReply}
use Rattle.wire_peer.specs.declared.client_state.ClientCause.TheVariants.{MoreNotAllowed}
use Rattle.wire_peer.specs.declared.client_state.ClientCause.TheVariants.{StreamBroken}
use Rattle.wire_peer.specs.Calls.{allows_more}

abbrev pub Table : Type 0
Table = List (ℤ × Outstanding)

-- the ids of the requests
abbrev pub ids : Table → List ℤ
ids t = map (λ o. o.0) t

-- the call that bears the id
abbrev pub bearer : ℤ → Table → Option Outstanding
bearer id t = lookup (int_eq id) t

-- the others, in order
abbrev pub without : ℤ → Table → Table
without id t = remove_entry (int_eq id) t

-- the call with a part of this id, its last so far
abbrev pub after_part : Outstanding → ℤ → Outstanding
after_part o part = record o { last = Some part }

-- the call has had a part
abbrev pub has_part : ℤ × Outstanding → Bool
has_part o = is_some o.1.last

-- the call that has had a part
abbrev pub stream : Table → Option (ℤ × Outstanding)
stream [] = None
stream (o ∷ t) = if has_part o then Some o else stream t

-- at most one call has had a part
abbrev pub HasOneStream : Table → Type 0
HasOneStream t = length (filter has_part t) ≤ 1

-- ---- whom a reply belongs to

-- this is the id of the call's last part
abbrev pub is_last_part : Option ℤ → ℤ → Bool
is_last_part None to = false
is_last_part (Some part) to = int_eq part to

-- a call that has had a part takes what answers its request or its last part
abbrev pub of_stream : ℤ × Outstanding → ℤ → Result (ℤ × Outstanding) ClientCause
of_stream o to = if int_eq o.0 to || is_last_part o.1.last to then Ok o else Err StreamBroken

-- the call that bears the id takes what answers it
abbrev pub of_bearer : Option Outstanding → ℤ → Result (ℤ × Outstanding) ClientCause
of_bearer None to = Err (UnknownReply to)
of_bearer (Some o) to = Ok (to, o)

abbrev pub owner_by : Option (ℤ × Outstanding) → Table → ℤ → Result (ℤ × Outstanding) ClientCause
owner_by (Some o) t to = of_stream o to
owner_by None t to = of_bearer (bearer to t) to

-- The call that a message with this responseTo belongs to. While a call has had a part and isn't
-- complete, it is that one; else the one that bears the id.
abbrev pub owner : Table → ℤ → Result (ℤ × Outstanding) ClientCause
owner t to = owner_by (stream t) t to

-- more replies come to a call that allows them alone
abbrev pub allowed : Bool → Result (ℤ × Outstanding) ClientCause
    → Result (ℤ × Outstanding) ClientCause
allowed more (Ok o) = if more && not (allows_more o.1.kind) then Err MoreNotAllowed else Ok o
allowed more (Err cause) = Err cause

-- ---- a reply

-- the reply to a call, the last one unless more will come
abbrev pub reply_to : ℤ × Outstanding → Bool → ReadyReply
reply_to o more = record { call = o.1.call; last = not more }

-- the table after a part of that id, or after the last reply
abbrev pub after_reply : Table → ℤ × Outstanding → ℤ → Bool → Table
after_reply t o part more =
    if more then set_value (int_eq o.0) t (after_part o.1 part) else without o.0 t

-- a message with this id was given to the call that it belongs to, or to none
abbrev pub IsReceived : Table → ℤ → Bool → Result (ℤ × Outstanding) ClientCause
    → Result ReadyReply ClientCause → Table → Type 0
IsReceived t id more (Ok o) result new =
    (result ≡ Ok (reply_to o more)) × (new ≡ after_reply t o id more)
IsReceived t id more (Err cause) result new = (result ≡ Err cause) × (new ≡ t)
