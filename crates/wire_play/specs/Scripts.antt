-- What a script writes. Its lines name the events of a world, one after another.
use Rattle.std.specs.Prelude.{◌≡◌, ◌≢◌, ℕ, ◌⊎◌, List, [], ◌∷◌, ◌++◌, codes, flat_map, Option, None}
use Rattle.std.specs.Prelude.{Some, Result, Err}
use Rattle.std.specs.Io.KnownBytes.{Appends}
use Rattle.wire_peer.specs.declared.counting.Count.{Count as CountHandler}
use Rattle.wire_peer.specs.declared.echoing.Echo.{Echo as EchoHandler}
use Rattle.wire_peer.specs.declared.handlers.HandlerStop.TheVariants as stops
use Rattle.wire_peer.specs.{Does, Stops, numbers, wanted}
use Rattle.wire_model.specs.declared.events.Event.{Event}
use Rattle.wire_model.specs.declared.limits.WorldLimits.{WorldLimits}
use Rattle.wire_model.specs.declared.refusals.WorldRefusal.{WorldRefusal}
use Rattle.wire_model.specs.declared.refusals.WorldRefusal.TheVariants.{OutOfMemory}
use Rattle.wire_model.specs.declared.reports.Report.{Report}
use Rattle.wire_model.specs.{AreGood, Happens, World, opening}
use Rattle.script_lines.specs.{script_lines}
use Rattle.wire_play.specs.declared.named.HandlerName.{HandlerName}
use Rattle.wire_play.specs.declared.named.HandlerName.TheVariants.{Echo, Count}
use Rattle.wire_play.specs.declared.named.Setup.{Setup}
use Rattle.wire_play.specs.Naming.{Names, event, setup}
use Rattle.wire_play.specs.Closing.{closing_text}
use Rattle.wire_play.specs.Reports.{result_line}

-- ---- lines that name events

-- the line names no event: it names a world, or nothing
abbrev pub NamesNoEvent : List ℕ → Type 0
NamesNoEvent line = (e : Event) → Names line (event e) → ⊥

-- the line names an event, which happens with this result, and memory doesn't run out in it
pub record LineHappens {H : Type 0} (does : Does H) (stop : Stops H) (l : WorldLimits)
    (old : World H) (line : List ℕ) (result : Result Report WorldRefusal)
    (new : World H) : Type 0 where
  pub what : Event
  pub named : Names line (event what)
  pub happens : Happens does stop l old what result new
  pub done : result ≢ Err OutOfMemory

-- The events that the lines name happen one after another, with these results, and lead from the
-- old world to the new one. The first line that names no event, if there is one, is at fault, and
-- the lines after it aren't played.
abbrev pub Plays : {H : Type 0} → Does H → Stops H → WorldLimits → World H → List (ℕ × List ℕ)
    → List (Result Report WorldRefusal) → World H → Option ℕ → Type 0
Plays does stop l old [] results new fault = (results ≡ []) × (new ≡ old) × (fault ≡ None)
Plays {H} does stop l old (line ∷ lines) results new fault =
    ((mid : World H) × (result : Result Report WorldRefusal)
    × (others : List (Result Report WorldRefusal)) × LineHappens does stop l old line.1 result mid
    × Plays does stop l mid lines others new fault × (results ≡ result ∷ others))
    ⊎ (NamesNoEvent line.1 × (results ≡ []) × (new ≡ old) × (fault ≡ Some line.0))

-- ---- texts

-- the lists at the end of a text; there are none if a line is at fault
abbrev pub ending : {H : Type 0} → World H → Option ℕ → List ℕ
ending w None = closing_text w
ending w (Some line) = []

-- the text of a world: its own line, a line for each result, and the lists at the end
abbrev pub world_text : {H : Type 0} → List (Result Report WorldRefusal) → World H → Option ℕ
    → List ℕ
world_text results w fault = codes "world\n" ++ (flat_map result_line results ++ ending w fault)

-- the text of lines that are played in this world
abbrev pub PlaysIn : {H : Type 0} → Does H → Stops H → WorldLimits → World H → List (ℕ × List ℕ)
    → List ℕ → Option ℕ → Type 0
PlaysIn {H} does stop l old lines text fault =
    (results : List (Result Report WorldRefusal)) × (new : World H)
    × Plays does stop l old lines results new fault × (text ≡ world_text results new fault)

-- ---- handlers

-- gives the request back, and stops only if memory runs out
abbrev pub echo_does : Does EchoHandler
echo_does h a answers h' = answers ≡ a.payload ∷ []

abbrev pub echo_stops : Stops EchoHandler
echo_stops h a stop h' = stop ≡ stops.OutOfMemory

-- counts up to what the request asks for, and stops only if memory runs out
abbrev pub count_does : Does CountHandler
count_does h a answers h' = answers ≡ numbers (wanted a)

abbrev pub count_stops : Stops CountHandler
count_stops h a stop h' = stop ≡ stops.OutOfMemory

-- the text of lines in a new world over this handler
abbrev pub PlaysBy : HandlerName → WorldLimits → List (ℕ × List ℕ) → List ℕ → Option ℕ → Type 0
PlaysBy Echo l lines text fault =
    (h : EchoHandler) × PlaysIn echo_does echo_stops l (opening l h) lines text fault
PlaysBy Count l lines text fault =
    (h : CountHandler) × PlaysIn count_does count_stops l (opening l h) lines text fault

-- ---- scripts

-- the line makes a world, with limits that are within their ranges
abbrev pub MakesWorld : List ℕ → Setup → Type 0
MakesWorld line s = Names line (setup s) × AreGood s.limits

-- The text of these lines, and the number of the line at fault, if there is one. The first line
-- makes the world in which the others are played, or is at fault itself. If there is no line, line
-- 1 is at fault.
abbrev pub LinesText : List (ℕ × List ℕ) → List ℕ → Option ℕ → Type 0
LinesText [] text fault = (text ≡ []) × (fault ≡ Some 1)
LinesText (line ∷ lines) text fault =
    ((s : Setup) × MakesWorld line.1 s × PlaysBy s.handler s.limits lines text fault)
    ⊎ (((s : Setup) → MakesWorld line.1 s → ⊥) × (text ≡ []) × (fault ≡ Some line.0))

-- the text of a script, up to the line at fault if there is one, and the number of that line
abbrev pub TextUpTo : List ℕ → List ℕ → Option ℕ → Type 0
TextUpTo script text fault = LinesText (script_lines script) text fault

-- a text with this property is appended to the bytes, if they are known
abbrev pub Writes : (List ℕ → Type 0) → Option (List ℕ) → Option (List ℕ) → Type 0
Writes IsText out out' = (text : List ℕ) × IsText text × Appends out out' text
