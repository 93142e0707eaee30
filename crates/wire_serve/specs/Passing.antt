-- What is made of the gathered bytes.
use Rattle.std.specs.Prelude.{◌≡◌, ℕ, List, [], ◌∷◌, Result, Ok, Err, Vec}
use Rattle.std.specs.declared.alloc.Global.{Global}
use Rattle.wire_msg.specs.{canonical}
use Rattle.wire_peer.specs.{ServerView, TakesBytes}
use Rattle.wire_peer.specs.declared.server_state.ServerState.TheVariants.{Open}
use Rattle.wire_query.specs.{FaultQuery, Query, SpellsQuery, message_of}
use Rattle.wire_stream.specs.declared.reader_state.ReadRefusal.{ReadRefusal}
use Rattle.wire_serve.specs.declared.passing.NoMessage.{NoMessage}
use Rattle.wire_serve.specs.declared.passing.NoMessage.TheVariants as no_message
use Rattle.wire_serve.specs.declared.passing.Passed.{Passed}
use Rattle.wire_serve.specs.declared.passing.Passed.TheVariants as passed
use Rattle.wire_serve.specs.Heads.{IsOtherHeader, IsPart, IsWholeQuery}
use Rattle.wire_msg.specs.declared.header.TheConstants.{MAX_MESSAGE_LEN}

-- the bytes spell a query, and this is its message; or they are no query, by this fault
abbrev pub AsksAs : List ℕ → Result (Vec ℕ Global) NoMessage → Type 0
AsksAs bytes (Ok message) =
    (q : Query) × SpellsQuery q bytes × (message.items ≡ canonical (message_of q))
AsksAs bytes (Err (no_message.Fault f)) = FaultQuery bytes 65536 f
AsksAs bytes (Err no_message.OutOfMemory) = Unit {0}

-- An open server between messages, in which no request waits and one may, of messages of up to
-- 48,000,000 bytes.
pub record TakesNext (s : ServerView) : Type 0 where
  pub is_open : s.state ≡ Open
  pub between : s.held ≡ []
  pub none_waits : s.waiting ≡ []
  pub window : s.window ≡ 1
  pub limit : s.limit ≡ MAX_MESSAGE_LEN

-- the server in which this request waits
abbrev pub with_request : ServerView → List ℕ → ServerView
with_request s request = record s { waiting = request ∷ [] }

-- What became of the gathered bytes: more are to come; the server took the header of a message;
-- the bytes spell a query, and the message of that waits; or they are no query, by this fault.
-- Where memory ran out the server is as it was.
abbrev pub PassesOn : Result Passed ReadRefusal → List ℕ → ServerView → ServerView → Type 0
PassesOn (Ok passed.Nothing) part s s' = IsPart part × (s' ≡ s)
PassesOn (Ok passed.Header) part s s' = IsOtherHeader part × TakesBytes s part 16 s'
PassesOn (Ok passed.Query) part s s' =
    IsWholeQuery part
    × ((q : Query) × SpellsQuery q part × (s' ≡ with_request s (canonical (message_of q))))
PassesOn (Ok (passed.Refused f)) part s s' =
    IsWholeQuery part × FaultQuery part 65536 f × (s' ≡ s)
PassesOn (Err refusal) part s s' = s' ≡ s
