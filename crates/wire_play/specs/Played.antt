-- What the parts of a run do. Only clauses within this crate cite these.
use Rattle.std.specs.Prelude.{◌≡◌, ◌≢◌, ℕ, ◌⊎◌, Bool, true, false, List, [], flat_map, Option, Some}
use Rattle.std.specs.Prelude.{Result, Err}
use Rattle.std.specs.Io.KnownBytes.{Appends, Keeps}
use Rattle.wire_peer.specs.{Does, Stops}
use Rattle.wire_model.specs.declared.events.Event.{Event}
use Rattle.wire_model.specs.declared.limits.WorldLimits.{WorldLimits}
use Rattle.wire_model.specs.declared.refusals.WorldRefusal.{WorldRefusal}
use Rattle.wire_model.specs.declared.refusals.WorldRefusal.TheVariants.{OutOfMemory}
use Rattle.wire_model.specs.declared.reports.Report.{Report}
use Rattle.wire_model.specs.{AreGood, Happens, World, opening}
use Rattle.wire_play.specs.declared.named.Setup.{Setup}
use Rattle.wire_play.specs.Reports.{result_line}
use Rattle.wire_play.specs.Scripts.{NamesNoEvent, Plays, PlaysBy, PlaysIn, LineHappens}

-- the event happens, and the line of its result is written
pub record EventPlayed {H : Type 0} (does : Does H) (stop : Stops H) (l : WorldLimits)
    (old : World H) (e : Event) (new : World H) (out out' : Option (List ℕ)) : Type 0 where
  pub ended : Result Report WorldRefusal
  pub happens : Happens does stop l old e ended new
  pub done : ended ≢ Err OutOfMemory
  pub written : Appends out out' (result_line ended)

-- the event that a line names happens, and the line of its result is written; or the line names
-- none, and nothing happens
abbrev pub LinePlayed : {H : Type 0} → Does H → Stops H → WorldLimits → World H → List ℕ → World H
    → Option (List ℕ) → Option (List ℕ) → Bool → Type 0
LinePlayed does stop l old line new out out' true =
    (ended : Result Report WorldRefusal) × LineHappens does stop l old line ended new
    × Appends out out' (result_line ended)
LinePlayed does stop l old line new out out' false =
    NamesNoEvent line × (new ≡ old) × Keeps out out'

-- lines are played, and the lines of the results are written
pub record LinesPlayed {H : Type 0} (does : Does H) (stop : Stops H) (l : WorldLimits)
    (old : World H) (lines : List (ℕ × List ℕ)) (new : World H) (fault : Option ℕ)
    (out out' : Option (List ℕ)) : Type 0 where
  pub results : List (Result Report WorldRefusal)
  pub plays : Plays does stop l old lines results new fault
  pub written : Appends out out' (flat_map result_line results)

-- the text of lines that are played in a world over this handler, which the line of this number
-- makes; if a limit is out of range, that line is at fault
abbrev pub OverText : {H : Type 0} → Does H → Stops H → H → WorldLimits → ℕ → List (ℕ × List ℕ)
    → List ℕ → Option ℕ → Type 0
OverText does stop h l number lines text fault =
    (AreGood l × PlaysIn does stop l (opening l h) lines text fault)
    ⊎ ((AreGood l → ⊥) × (text ≡ []) × (fault ≡ Some number))

-- the same for a line that names the handler
abbrev pub SetupText : Setup → ℕ → List (ℕ × List ℕ) → List ℕ → Option ℕ → Type 0
SetupText s number lines text fault =
    (AreGood s.limits × PlaysBy s.handler s.limits lines text fault)
    ⊎ ((AreGood s.limits → ⊥) × (text ≡ []) × (fault ≡ Some number))
