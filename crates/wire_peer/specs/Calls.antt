-- Calls: the request of each kind, and the refusals.
use Rattle.std.specs.Prelude.{ℕ, ℤ, pos, Bool, true, false, List, codes, Option, Some}
use Rattle.wire_msg.specs.{Content, Message}
use Rattle.wire_msg.specs.declared.flags.MsgFlags.{MsgFlags}
use Rattle.wire_peer.specs.declared.calls.CallKind.{CallKind}
use Rattle.wire_peer.specs.declared.calls.CallKind.TheVariants.{Plain, Exhaust, Unacknowledged}
use Rattle.wire_peer.specs.declared.calls.CallRefusal.{CallRefusal}
use Rattle.wire_peer.specs.declared.calls.CallRefusal.TheVariants.{Closed, WindowFull, TooLarge}
use Rattle.wire_peer.specs.declared.calls.CallRefusal.TheVariants.{NumbersSpent, OutOfMemory}

-- a call of this kind has a reply
abbrev pub awaits_reply : CallKind → Bool
awaits_reply Plain = true
awaits_reply Exhaust = true
awaits_reply Unacknowledged = false

-- a call of this kind may have more than one
abbrev pub allows_more : CallKind → Bool
allows_more Plain = false
allows_more Exhaust = true
allows_more Unacknowledged = false

-- a plain request has no flag, an exhaust one exhaustAllowed, and an unacknowledged one moreToCome
abbrev pub request_flags : CallKind → MsgFlags
request_flags Plain = record { more_to_come = false; exhaust_allowed = false }
request_flags Exhaust = record { more_to_come = false; exhaust_allowed = true }
request_flags Unacknowledged = record { more_to_come = true; exhaust_allowed = false }

-- the request of a call under an id
abbrev pub request : ℤ → CallKind → Content → Message
request id kind c = record { id = id; response_to = pos 0; flags = request_flags kind; content = c }

-- what a refusal displays as
abbrev pub refusal_text : CallRefusal → List ℕ
refusal_text Closed = codes "the client is closed"
refusal_text WindowFull = codes "the window is full"
refusal_text TooLarge = codes "the request is too large"
refusal_text NumbersSpent = codes "the call numbers are spent"
refusal_text OutOfMemory = codes "out of memory"

abbrev pub shown_refusal : CallRefusal → Option (List ℕ)
shown_refusal r = Some (refusal_text r)
