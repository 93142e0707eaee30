-- A run goes on from the worlds on its way.
use Rattle.std.proofs.Common.{ℕ, List, [], ◌∷◌, ◌++◌, refl, sym, ◌∙◌, subst}
use Rattle.wire_peer.specs.{Does, LogEntry, Stops}
use Rattle.wire_model.specs.declared.events.Event.{Event}
use Rattle.wire_model.specs.declared.limits.WorldLimits.{WorldLimits}
use Rattle.wire_model.specs.Conns.{AreGood, Record, World, opening}
use Rattle.wire_model.specs.Happening.{Run}
use Rattle.wire_model.specs.Hostile.{given, taken}
use Rattle.wire_model.specs.Lasting.{CallsAreKept, GoesOn, GoesOnFromEach, LogGrows}
use Rattle.wire_model.specs.Machines.{Machine, empty}
use Rattle.wire_model.specs.Shown.{raws, shown_calls}
use Rattle.wire_model.proofs.Agreeing.{Follows}
use Rattle.wire_model.proofs.Begun.{agrees_opening}
use Rattle.wire_model.proofs.Grows.{grew_run, grows_run, raw_steps}
use Rattle.wire_model.proofs.Lasting.{calls_are_kept, done_is_earlier, log_grows}
use Rattle.wire_model.proofs.Main.{headline_of, short_limit}
use Rattle.wire_model.proofs.Places.{raws_at}
use Rattle.wire_model.proofs.Reaches.{steps_then}
use Rattle.wire_model.proofs.Runs.{followed_run, raws_before}

module _ (H : Type 0) (does : Does H) (stops : Stops H) where
  -- the machine follows to the earlier world, and from there to the later one
  later : (t t' g g' : ℕ → List ℕ) (first : H) (old new : World H) (l : WorldLimits) (good : AreGood l)
      → (one : Follows H does stops l.limit t g (empty first (raws new)) old) → Follows H does stops l.limit t' g' one.next new → GoesOn does stops first old new
  later t t' g g' first old new l good one two = record {
    m = one.next;
    reached = one.steps;
    shows = record { calls = sym one.agrees.calls; log = sym one.agrees.log; handler = sym one.agrees.handler };
    later = headline_of H does stops l.limit t' g' first new (short_limit l good) (record {
      next = two.next;
      steps = steps_then H does stops (empty first (raws new)) one.next two.next one.steps two.steps;
      agrees = two.agrees;
    });
    steps = two.steps;
    calls = subst (λ (cs : List Record). CallsAreKept cs new.calls) one.agrees.calls
        (subst (λ (cs : List Record). CallsAreKept (shown_calls one.next.calls) cs) two.agrees.calls (calls_are_kept H does stops first (raws new) one.next two.next one.steps two.steps));
    log = subst (λ (es : List LogEntry). LogGrows es new.log) one.agrees.log
        (subst (λ (es : List LogEntry). LogGrows one.next.log es) two.agrees.log (log_grows H does stops first (raws new) one.next two.next one.steps two.steps));
    order = done_is_earlier H does stops first (raws new) one.next two.next one.steps two.steps;
  }

  pub goes_on : (l : WorldLimits) (first : H) (before after : List Event) (old new : World H) → AreGood l → Run does stops l (opening l first) before old → Run does stops l old after new
      → GoesOn does stops first old new
  goes_on l first before after old new good one two =
      let short = short_limit l good in
      let m : Machine H = empty first (raws new) in
      let t : ℕ → List ℕ = (λ c. taken does stops l c (opening l first) old before one) in
      let g : ℕ → List ℕ = (λ c. given does stops l c (opening l first) old before one) in
      let to_old : Follows H does stops l.limit t g m old = followed_run H does stops l good short (λ c. []) (λ c. []) before (opening l first) old m refl (agrees_opening l first (raws new))
      (raws_before H does stops l good short old.conns new.conns m (grows_run does stops l after old new two) (λ c k at. sym (raws_at new c k at))) one in
      later t (λ c. t c ++ taken does stops l c old new after two) g (λ c. g c ++ given does stops l c old new after two) first old new l good to_old
      (followed_run H does stops l good short t g after old new to_old.next (grew_run does stops l before (opening l first) old one refl) to_old.agrees
      (λ c k at. sym (raws_at new c k at) ∙ sym (raw_steps does stops l m to_old.next to_old.steps c)) two)

  -- a run in two parts
  run_split : (l : WorldLimits) (before after : List Event) (old new : World H) → Run does stops l old (before ++ after) new → (mid : World H) × Run does stops l old before mid × Run does stops l mid after new
  run_split l [] after old new run = (old, refl, run)
  run_split l (e ∷ before) after old new run = let p = run_split l before after run.0 new run.2 in (p.0, (run.0, run.1, p.1), p.2)

  pub goes_on_from_each : (l : WorldLimits) (first : H) (es : List Event) (w : World H) → AreGood l → Run does stops l (opening l first) es w → GoesOnFromEach does stops l first es w
  goes_on_from_each l first es w good run before after e =
      let p = run_split l before after (opening l first) w (subst (λ (z : List Event). Run does stops l (opening l first) z w) e run) in
      (p.0, p.1, p.2, goes_on l first before after p.0 w good p.1 p.2)
