-- What a run writes, from its first line to its last.
use Rattle.std.specs.Prelude.{◌≡◌, ◌≢◌, ◌≤◌, ◌⊎◌, ℕ, zero, suc, min, Bool, true, false, List, []}
use Rattle.std.specs.Prelude.{◌++◌, Option, None, Some, codes, is_some, option_map}
use Rattle.std.specs.Fmt.{decimal}
use Rattle.std.specs.Io.KnownBytes.{Appends, Keeps}
use Rattle.std.specs.declared.net.socket_addr.SocketAddr.{SocketAddr}
use Rattle.clap.specs.Words.{Text}
use Rattle.mio.specs.declared.net.stream.TcpStream.{TcpStream}
use Rattle.sockets.specs.{listening_line}
use Rattle.test_script.specs.{IsMisread, IsScript}
use Rattle.test_store.specs.{Answered, StopsAt, empty_store, store_of}
use Rattle.script_rules.specs.{IsAnswered, IsStopped, RuleView}
use Rattle.script_rules.specs.declared.scripted.Scripted.{Scripted}
use Rattle.test_store.specs.declared.store.Store.{Store}
use Rattle.wire_serve.specs.{Tells, conns_seen, tells}
use Rattle.wire_serve.specs.declared.gated_link.GatedLink.{GatedLink}
use Rattle.wire_stream.specs.declared.tcp_link.TcpLink.{TcpLink}
use Rattle.bsonserver.specs.declared.choice.Choice.{Choice}
use Rattle.bsonserver.specs.declared.edge_triggered.EdgeTriggered.{EdgeTriggered}
use Rattle.bsonserver.specs.declared.ending.ServingEnd.{ServingEnd}
use Rattle.bsonserver.specs.declared.ending.ServingEnd.TheVariants as runs
use Rattle.server_core.specs.declared.serving.Serving.{Serving}
use Rattle.server_core.specs.declared.stop.Stop.TheVariants as stops
use Rattle.server_core.specs.{IsServing, IsTranscript, ServesOn}

-- the last line, which says how many connections were served
abbrev pub served_line : ℕ → List ℕ
served_line count = codes "served " ++ (decimal count ++ codes "\n")

-- What a gate before a link over a socket tells: no bytes, since no contract says what a socket
-- carries.
abbrev pub socket_tells : Tells (GatedLink (TcpLink (EdgeTriggered TcpStream)))
socket_tells =
    tells (λ gated. None) (λ gated. None) (λ gated. gated.link.ends) (λ gated. gated.link.waits)
    (λ gated. gated.failures)

-- the connections of the program
abbrev pub Connected : Type 0
Connected = Serving (GatedLink (TcpLink (EdgeTriggered TcpStream))) (Scripted Store)

-- what is written of a transcript: nothing by a quiet server
abbrev pub shown : (quiet : Bool) → List ℕ → List ℕ
shown true text = []
shown false text = text

-- The server stands so: over sockets, by rules before a store, it began with these, and with the
-- rules of a script that say what becomes of replies, this many connections ended, and this was
-- written.
abbrev pub StandsAt : Scripted Store → List RuleView → Connected → (ended : ℕ) → (text : List ℕ)
    → Type 0
StandsAt first replies s ended text =
    IsServing (IsAnswered Answered) (IsStopped StopsAt) socket_tells (λ gated. gated.gate) first
    replies s ended text

-- The server served on between these two moments, and wrote what it did.
abbrev pub GoesOnServing : (old new : Connected) → Option (List ℕ) → Option (List ℕ) → Type 0
GoesOnServing old new before after =
    ServesOn (IsAnswered Answered) (IsStopped StopsAt) socket_tells (λ gated. gated.gate) old new
    before after

-- the same, and wrote what is shown of what it did
abbrev pub ShowsServing : (quiet : Bool) → (old new : Connected) → Option (List ℕ)
    → Option (List ℕ) → Type 0
ShowsServing quiet old new before after =
    (first : Scripted Store) (replies : List RuleView) (ended : ℕ) (text : List ℕ)
    → StandsAt first replies old ended text
    → (more : ℕ) × (told : List ℕ) × StandsAt first replies new more (text ++ told)
    × Appends before after (shown quiet told)

-- no connection was served yet, the script has these rules, those that say what becomes of replies
-- are these, and no documents are held
pub record HasBegun (rules replies : List RuleView) (s : Connected) : Type 0 where
  pub first : Scripted Store
  pub script : first.script.rules.items ≡ rules
  pub nothing : store_of first.inner ≡ empty_store
  pub serving : StandsAt first replies s 0 []

-- as many connections were served as the words ask for, or fewer, where they say to end when
-- standard input does
abbrev pub IsEnough : Choice → ℕ → Type 0
IsEnough choice n = (choice.connections ≤ n) ⊎ (choice.until_stdin_closes ≡ true)

-- The server listened somewhere and wrote where. From when its script had these rules, those that
-- say what becomes of replies were these, and it held no documents, it served until enough
-- connections had ended, of which it counts no more than were asked for, and wrote what is shown of
-- the transcript of what it did.
pub record HasServed (choice : Choice) (rules replies : List RuleView) (count : ℕ)
    (before after : Option (List ℕ)) : Type 0 where
  pub first : Scripted Store
  pub script : first.script.rules.items ≡ rules
  pub nothing : store_of first.inner ≡ empty_store
  pub connections : Connected
  pub ended : ℕ
  pub text : List ℕ
  pub serving : StandsAt first replies connections ended text
  pub transcript : IsTranscript (IsAnswered Answered) (IsStopped StopsAt) socket_tells first
      (conns_seen connections.conns.slots connections.conns.logged connections.conns.next) text
  pub enough : IsEnough choice ended
  pub counted : count ≡ min ended choice.connections
  pub local : SocketAddr
  pub written : Appends before after (listening_line local ++ shown choice.quiet text)

-- what comes before the last line: nothing if no connection is asked for
abbrev pub IsBegun : Choice → (rules replies : List RuleView) → (asked count : ℕ)
    → Option (List ℕ) → Option (List ℕ) → Type 0
IsBegun choice rules replies zero count before after = (count ≡ 0) × Keeps before after
IsBegun choice rules replies (suc n) count before after =
    HasServed choice rules replies count before after

-- this many connections were served, and the last line says so
abbrev pub IsRun : Choice → (rules replies : List RuleView) → ServingEnd → Option (List ℕ)
    → Option (List ℕ) → Type 0
IsRun choice rules replies (runs.Served n) before after =
    (mid : Option (List ℕ)) × IsBegun choice rules replies choice.connections n before mid
    × Appends mid after (served_line n)
IsRun choice rules replies (runs.Script fault) before after = ⊥
IsRun choice rules replies (runs.ScriptFile error) before after = ⊥
IsRun choice rules replies (runs.Stopped why) before after = Unit {0}

-- ---- the script

-- The rules that answers follow, and those that say what becomes of replies: none if no file of a
-- script is named, and else both are those of one text.
abbrev pub AreRead : (file : Option Text) → (rules replies : List RuleView) → Type 0
AreRead None rules replies = (rules ≡ []) × (replies ≡ [])
AreRead (Some file) rules replies = (text : List ℕ) × IsScript text rules × IsScript text replies

-- reading the script ends a run so: a file that is named can't be read or is at fault, or memory
-- ran out
abbrev pub IsRefused : (file : Option Text) → ServingEnd → Type 0
IsRefused file (runs.Served n) = ⊥
IsRefused file (runs.Script fault) = IsMisread file fault
IsRefused file (runs.ScriptFile error) = is_some file ≡ true
IsRefused file (runs.Stopped why) = why ≡ stops.OutOfMemory

-- the file of a script that the words name
abbrev pub script_file : Choice → Option Text
script_file choice = option_map (λ file. file.now) choice.script

-- A whole run, with its script: this many connections were served by the rules that were read, or
-- the script is at fault or can't be read, and nothing was written.
abbrev pub EndsSo : Choice → ServingEnd → Option (List ℕ) → Option (List ℕ) → Type 0
EndsSo choice (runs.Served n) before after =
    (rules : List RuleView) × (replies : List RuleView) × AreRead (script_file choice) rules replies
    × IsRun choice rules replies (runs.Served n) before after
EndsSo choice (runs.Script fault) before after =
    IsMisread (script_file choice) fault × Keeps before after
EndsSo choice (runs.ScriptFile error) before after =
    (is_some (script_file choice) ≡ true) × Keeps before after
EndsSo choice (runs.Stopped why) before after = Unit {0}
