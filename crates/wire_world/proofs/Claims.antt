-- What the laws of runs say of a world after a list of events.
use Rattle.std.specs.Prelude.{◌≡◌, IfOk, MatchResult, Result, Ok, Err, List}
use Rattle.wire_peer.specs.{Does, Stops}
use Rattle.wire_model.specs.{AreGood, GoesOnFromEach, Headline, IdsApart, QuietIsDone, RawAnswerOwn, RawGiveOwn, Run, UncutIsOpen, opening}
use Rattle.wire_model.specs.declared.events.Event.{Event}
use Rattle.wire_model.specs.declared.limits.WorldLimits.{WorldLimits}
use Rattle.wire_model.specs.declared.refusals.SetupRefusal.{SetupRefusal}
use Rattle.wire_model.proofs.Lemmas.{goes_on_from_each, headline, headline_alone, ids_stay_apart, own_entries}
use Rattle.wire_world.specs.Setups.{IsSetupRefusal}
use Rattle.wire_world.specs.Worlds.{WorldSeen}

module _ (H : Type 0) (does : Does H) (stops : Stops H) (l : WorldLimits) (first : H) (es : List Event) where
  abbrev Ran : Result (WorldSeen H) SetupRefusal → Type 0
  Ran r = MatchResult r (λ w. AreGood l × (w.limits ≡ l) × Run does stops l (opening l first) es w.state) (λ refusal. IsSetupRefusal l refusal)

  pub shown_of : (r : Result (WorldSeen H) SetupRefusal) → Ran r → IfOk r (λ w. Headline does stops first w.state)
  shown_of (Ok w) ran = headline_alone H does stops l first es w.state ran.0 ran.2
  shown_of (Err refusal) ran = tt

  pub goes_on_of : (r : Result (WorldSeen H) SetupRefusal) → Ran r → IfOk r (λ w. GoesOnFromEach does stops l first es w.state)
  goes_on_of (Ok w) ran = goes_on_from_each H does stops l first es w.state ran.0 ran.2
  goes_on_of (Err refusal) ran = tt

  pub quiet_of : (r : Result (WorldSeen H) SetupRefusal) → Ran r → IfOk r (λ w. QuietIsDone w.state)
  quiet_of (Ok w) ran = (headline_alone H does stops l first es w.state ran.0 ran.2).quiet
  quiet_of (Err refusal) ran = tt

  pub uncut_of : (r : Result (WorldSeen H) SetupRefusal) → Ran r → IfOk r (λ w. UncutIsOpen w.state)
  uncut_of (Ok w) ran = (headline_alone H does stops l first es w.state ran.0 ran.2).uncut
  uncut_of (Err refusal) ran = tt

  pub ids_of : (r : Result (WorldSeen H) SetupRefusal) → Ran r → IfOk r (λ w. IdsApart w.state)
  ids_of (Ok w) ran = ids_stay_apart does stops l first es w.state ran.2
  ids_of (Err refusal) ran = tt

  pub entries_of : (r : Result (WorldSeen H) SetupRefusal) → Ran r
      → IfOk r (λ w. (run : Run does stops l (opening l first) es w.state) × (shown : Headline does stops first w.state) × RawAnswerOwn does stops l first es w.state run shown.m)
  entries_of (Ok w) ran = let own = own_entries H does stops l first es w.state ran.0 ran.2 in (ran.2, own.0, own.1)
  entries_of (Err refusal) ran = tt

  pub replies_of : (r : Result (WorldSeen H) SetupRefusal) → Ran r
      → IfOk r (λ w. (run : Run does stops l (opening l first) es w.state) × (shown : Headline does stops first w.state) × RawGiveOwn does stops l first es w.state run shown.m)
  replies_of (Ok w) ran = let own = headline H does stops l first es w.state ran.0 ran.2 in (ran.2, own.0, own.1)
  replies_of (Err refusal) ran = tt
