-- What is copied out of a server: a request that waits.
use Rattle.std.specs.Prelude.{◌≡◌, ◌≤◌, ◌<◌, ℕ, pos, List, ◌++◌, drop, length, Bool, false}
use Rattle.std.specs.Prelude.{Result, Ok, Err, Vec, ◌⊎◌}
use Rattle.std.specs.declared.alloc.Global.{Global}
use Rattle.wire_msg.specs.{Message, canonical}
use Rattle.wire_peer.specs.{ServerView, WaitsAt, asked_by, takes_more}
use Rattle.core_handles.specs.declared.server_requests.RequestCopied.{RequestCopied}

-- there is no request, by this number
abbrev pub no_request : ℕ → RequestCopied
no_request n = record { refusal = n; takes_more = false; length = 0 }

-- the request has this many bytes, and was copied, or wasn't, by this number
abbrev pub request_told : ℕ → Bool → ℕ → RequestCopied
request_told n more len = record { refusal = n; takes_more = more; length = len }

-- the bytes of a request as a message with no ids and with its flags
abbrev pub request_bytes : Message → List ℕ
request_bytes m = canonical (record m { id = pos 0; response_to = pos 0 })

-- The request, which takes more than one answer or doesn't, is put to the front of the room; or the
-- room is too short for it, and stays as it was.
pub data IsRequestPut (more : Bool) (message old new : List ℕ) : RequestCopied → Type 0 where
  fits : {w : RequestCopied} → length message ≤ length old
      → w ≡ request_told 0 more (length message) → new ≡ message ++ drop (length message) old
      → IsRequestPut more message old new w
  too_long : {w : RequestCopied} → length old < length message
      → w ≡ request_told 5 more (length message) → new ≡ old → IsRequestPut more message old new w

-- whether the k-th request that waits takes more than one answer, and its bytes; or that no such
-- one waits, or that there is no memory for it
abbrev pub IsRequestSpelled : ServerView → ℕ → Result (Bool × Vec ℕ Global) ℕ → Type 0
IsRequestSpelled s k (Ok x) =
    (m : Message) × WaitsAt s k m × (x.0 ≡ takes_more (asked_by m))
    × (x.1.items ≡ request_bytes m)
IsRequestSpelled s k (Err n) =
    ((n ≡ 7) × (length s.waiting ≤ k)) ⊎ ((n ≡ 254) × (k < length s.waiting))

-- The k-th request that waits is put into the room, if it has as many bytes; or there is no memory
-- for it, or no such request, and the room stays as it was.
pub data IsRequestCopied (s : ServerView) (k : ℕ) (old new : List ℕ) : RequestCopied → Type 0 where
  waits : {w : RequestCopied} (m : Message) → WaitsAt s k m
      → IsRequestPut (takes_more (asked_by m)) (request_bytes m) old new w
      → IsRequestCopied s k old new w
  no_memory : {w : RequestCopied} → k < length s.waiting → w ≡ no_request 254 → new ≡ old
      → IsRequestCopied s k old new w
  none_waits : {w : RequestCopied} → length s.waiting ≤ k → w ≡ no_request 7 → new ≡ old
      → IsRequestCopied s k old new w
