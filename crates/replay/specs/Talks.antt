-- What the messages of a connection are taken for.
use Rattle.std.specs.Prelude.{◌≡◌, ◌++◌, ℕ, Bool, List, [], ◌∷◌, Option, None, Some, find}
use Rattle.std.specs.Prelude.{◌==◌, ◌||◌, false, true, if◌then◌else◌, is_some, length, not}
use Rattle.std.specs.Prelude.{option_map}
use Rattle.std.specs.Int.{w32, cast_unsigned}
use Rattle.wire_msg.specs.{header_of}
use Rattle.replay.specs.Firsts.{without_first}
use Rattle.replay.specs.Flags.{has_flag, wants_answer}
use Rattle.replay.specs.Follows.{noted, request_of, with_room}
use Rattle.replay.specs.MatchingRuns.{Act, ask, fail, give_up}
use Rattle.replay.specs.Matchings.{Seen}
use Rattle.replay.specs.Paces.{patience_of, plus}
use Rattle.replay.specs.Plain.{plain_bytes}
use Rattle.replay.specs.declared.answers.Answer.{Answer}
use Rattle.replay.specs.declared.asked.Request.{Request}
use Rattle.replay.specs.declared.channel.Broken.{Broken}
use Rattle.replay.specs.declared.channel.Broken.TheVariants.{Ended}
use Rattle.replay.specs.declared.conn.Stall.{Stall}
use Rattle.replay.specs.declared.follows.Follow.{Follow}
use Rattle.replay.specs.declared.pace.Taken.{Taken}

-- the id of a message, and that of the message that it answers, as unsigned numbers
abbrev pub id_of : List ℕ → ℕ
id_of bytes = cast_unsigned w32 (header_of bytes).id

abbrev pub to_of : List ℕ → ℕ
to_of bytes = cast_unsigned w32 (header_of bytes).response_to

-- the id of the request that a message answers, on a side where these answers came before
abbrev pub request_in : List Follow → List ℕ → ℕ
request_in follows bytes = request_of (to_of bytes) follows

-- those answers, once this message came
abbrev pub noted_in : List Follow → List ℕ → List Follow
noted_in follows bytes = noted (id_of bytes) (to_of bytes) (has_flag 2 bytes) follows

-- The message is this answer, which is awaited up to this moment.
pub record IsAnswer (follows : List Follow) (message : List ℕ) (until : ℕ) (a : Answer)
    : Type 0 where
  pub request : a.request ≡ request_in follows message
  pub more : a.more ≡ has_flag 2 message
  pub bytes : a.bytes.items ≡ plain_bytes message
  pub due : a.due ≡ until

-- the first noted request with this id
abbrev pub first_asked : ℕ → List Request → Option Request
first_asked id requests = find (λ r. r.id == id) requests

-- Up to when an answer to the request is awaited that is taken now: as long as the record took for
-- it, from the request on, and some time more.
abbrev pub due_of : ℕ → Taken → List Request → ℕ
due_of request taken requests =
    plus taken.now (patience_of taken (option_map (λ r. r.micros) (first_asked request requests)))

-- the noted requests, once this one was noted
abbrev pub with_asked : ℕ → ℕ → List Request → List Request
with_asked id micros requests = with_room requests ++ record { id = id; micros = micros } ∷ []

-- the noted requests behind an answer to this one, to which more may come
abbrev pub asked_behind : ℕ → Bool → ℕ → List Request → List Request
asked_behind id more micros requests =
    let others = without_first (λ r. r.id == id) requests in
    if more then with_asked id micros others else others

-- ---- what is done

-- a request is noted if an answer comes to it
abbrev pub asking : List ℕ → List Act
asking message = if wants_answer message then ask (id_of message) ∷ [] else []

-- a connection's failure is told, unless it was
abbrev pub failing : Option Broken → List Act
failing None = []
failing (Some broken) = fail broken ∷ []

-- a connection's failure is told, and all awaited answers are given up
abbrev pub losing : Option Broken → List Act
losing broken = failing broken ++ give_up 18446744073709551615 ∷ []

-- whether the server ended the connection
abbrev pub is_ended : Broken → Bool
is_ended Ended = true
is_ended broken = false

-- Whether it is told that nothing more goes over a connection: answers are awaited, something is
-- left to be sent, or it wasn't the server that ended it.
abbrev pub is_told : Seen → Option Stall → Broken → Bool
is_told s stall broken = not (length s.awaited == 0) || is_some stall || not (is_ended broken)

-- what is done where a connection is closed
abbrev pub closing : Seen → Option Stall → Broken → List Act
closing s stall broken = if is_told s stall broken then losing (Some broken) else []
