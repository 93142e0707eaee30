-- What is done with a message that is held, by what becomes of it.
use Rattle.std.specs.Prelude.{◌≡◌, ℕ, ℤ, List, Bool, true, false, Option}
use Rattle.std.specs.Prelude.{None, Some}
use Rattle.script_rules.specs.declared.action.Flow.{Flow}
use Rattle.script_rules.specs.declared.action.Flow.TheVariants as flows
use Rattle.proxy.specs.declared.fate.Fate.{Fate}
use Rattle.proxy.specs.declared.fate.Fate.TheVariants as fates
use Rattle.proxy.specs.declared.marks.Mark.{Mark}
use Rattle.proxy.specs.declared.steer.Steer.{Steer}
use Rattle.proxy.specs.declared.steer.Steer.TheVariants as steers
use Rattle.proxy.specs.declared.outcome.Outcome.{Outcome}
use Rattle.proxy.specs.declared.outcome.Outcome.TheVariants as outcomes
use Rattle.proxy.specs.declared.ending.Ending.TheVariants as endings
use Rattle.proxy.specs.Holding.{HeldView, HoldMoves}
use Rattle.proxy.specs.Holding.{Cuts, Passes, Skips}
use Rattle.proxy.specs.Marks.{marked}

-- of a request: one that is delayed or hung up at stays, and one that is replied to is let go
abbrev pub steer_of : Fate → Steer
steer_of (fates.Pass flow) = steers.Pass
steer_of (fates.Delay millis) = steers.Stay
steer_of fates.HangUp = steers.Stay
steer_of (fates.CutUp count) = steers.Cut count
steer_of (fates.Reply bytes) = steers.Skip

-- of a reply
abbrev pub flow_steer : Flow → Steer
flow_steer flows.Whole = steers.Pass
flow_steer (flows.Held millis) = steers.Pass
flow_steer (flows.Cut count) = steers.Cut count
flow_steer flows.Dropped = steers.Skip

-- how many bytes of a reply go on at the most: 2^64 - 1 where all do
abbrev pub kept_of : Steer → ℕ
kept_of steers.Stay = 18446744073709551615
kept_of steers.Pass = 18446744073709551615
kept_of (steers.Cut count) = count
kept_of steers.Skip = 0

-- how many bytes of a request go on at the most
abbrev pub sent_of : Fate → ℕ
sent_of (fates.Pass flow) = 18446744073709551615
sent_of (fates.Delay millis) = 18446744073709551615
sent_of fates.HangUp = 0
sent_of (fates.CutUp count) = count
sent_of (fates.Reply bytes) = 0

-- the message that is held was dealt with so, and else nothing was done
abbrev pub IsSteered : {L : Type 0} → (L → Option (List ℕ)) → Steer → (message : List ℕ)
    → (old new : HeldView L) → Type 0
IsSteered received steers.Stay message old new = new ≡ old
IsSteered received steers.Pass message old new = HoldMoves received (Passes message) old new
IsSteered received (steers.Cut count) message old new =
    HoldMoves received (Cuts message count) old new
IsSteered received steers.Skip message old new = HoldMoves received (Skips message) old new

-- ---- what a request comes to, which has this id

-- what a turn comes to, if that is over: a request is held for some time, or the connection is
-- closed
abbrev pub comes_to : (id : ℤ) → Fate → Option Outcome
comes_to id (fates.Pass flow) = None
comes_to id (fates.Delay millis) = Some (outcomes.Held millis)
comes_to id fates.HangUp = Some (outcomes.Over (endings.HungUp id))
comes_to id (fates.CutUp count) = None
comes_to id (fates.Reply bytes) = None

-- whether a request is held for some time from then on
abbrev pub delays : Fate → Bool
delays (fates.Delay millis) = true
delays fate = false

-- the marks of replies from then on
abbrev pub marks_by : (id : ℤ) → Fate → List Mark → List Mark
marks_by id (fates.Pass flow) ms = marked id flow ms
marks_by id fate ms = ms
