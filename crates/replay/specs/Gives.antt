-- What was given to be sent over a connection.
use Rattle.std.specs.Prelude.{◌≡◌, ◌++◌, ◌<◌, ℕ, zero, suc, List, Option, None, Some, ⊤}
use Rattle.std.specs.Io.KnownBytes.{Appends}
use Rattle.wire_stream.specs.declared.outlet.Flushed.{Flushed}
use Rattle.wire_stream.specs.declared.outlet.Flushed.TheVariants as flushed
use Rattle.replay.specs.declared.channel.Sent.{Sent}
use Rattle.replay.specs.declared.channel.Sent.TheVariants.{All, Nothing, Part}

-- These bytes were given: what was sent, and behind it what still waits, is what waited before and
-- then they.
abbrev pub Gives : (sent sent' : Option (List ℕ)) (waiting waiting' bytes : List ℕ) → Type 0
Gives sent sent' waiting waiting' bytes =
    (gone : List ℕ) × Appends sent sent' gone × (waiting ++ bytes ≡ gone ++ waiting')

-- These bytes were given to a connection, as long as it stands. One that was closed stays so.
abbrev pub GivesOver : {C : Type 0} → (C → Option (List ℕ)) → (C → List ℕ) → Option C → Option C
    → List ℕ → Type 0
GivesOver sent waiting None None bytes = ⊤
GivesOver sent waiting None (Some c) bytes = ⊥
GivesOver sent waiting (Some c) None bytes = ⊤
GivesOver sent waiting (Some c) (Some d) bytes =
    Gives (sent c) (sent d) (waiting c) (waiting d) bytes

-- what sending came to that ended so, if this many bytes were sent
abbrev pub sent_as : Flushed → ℕ → Sent
sent_as flushed.All gone = All
sent_as flushed.Later zero = Nothing
sent_as flushed.Later (suc gone) = Part
