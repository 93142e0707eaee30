-- The headline, whatever events come.
use Rattle.std.proofs.Common.{ℕ, ◌<◌, ◌^◌, List, [], refl, sym, arith}
use Rattle.wire_peer.specs.{Does, Stops}
use Rattle.wire_model.specs.declared.events.Event.{Event}
use Rattle.wire_model.specs.declared.limits.WorldLimits.{WorldLimits}
use Rattle.wire_model.specs.Conns.{AreGood, World, opening}
use Rattle.wire_model.specs.Hostile.{RawAnswerOwn, RawGiveOwn, given, taken}
use Rattle.wire_model.specs.Machines.{empty}
use Rattle.wire_model.specs.Shown.{Headline, raws}
use Rattle.wire_model.specs.Happening.{Run}
use Rattle.wire_model.proofs.Agreeing.{Follows}
use Rattle.wire_model.proofs.Begun.{agrees_opening}
use Rattle.wire_model.proofs.Places.{raws_at}
use Rattle.wire_model.proofs.Promises.{beginnings, done_whole, never_done, one_call, silent_none}
use Rattle.wire_model.proofs.Quiet.{apart_of, quiet_of, uncut_of}
use Rattle.wire_model.proofs.Replays.{run_empty, run_steps}
use Rattle.wire_model.proofs.Runs.{followed_run}

-- a message's length fits an int32
pub short_limit : (l : WorldLimits) → AreGood l → l.limit < 2 ^ 31
short_limit l good = let most = good.limit_is.1 in omega arith

module _ (H : Type 0) (does : Does H) (stops : Stops H) where
  follows : (l : WorldLimits) (first : H) (es : List Event) (w : World H) → AreGood l → (run : Run does stops l (opening l first) es w)
      → Follows H does stops l.limit (λ c. taken does stops l c (opening l first) w es run) (λ c. given does stops l c (opening l first) w es run) (empty first (raws w)) w
  follows l first es w good run =
      followed_run H does stops l good (short_limit l good) (λ c. []) (λ c. []) es (opening l first) w (empty first (raws w)) refl (agrees_opening l first (raws w)) (λ c k at. sym (raws_at w c k at)) run

  abbrev pub headline_of : (limit : ℕ) (t g : ℕ → List ℕ) (first : H) (w : World H) → limit < 2 ^ 31 → Follows H does stops limit t g (empty first (raws w)) w → Headline does stops first w
  headline_of limit t g first w short f = record {
    m = f.next;
    reached = f.steps;
    shows = record { calls = sym f.agrees.calls; log = sym f.agrees.log; handler = sym f.agrees.handler };
    run = run_steps H does stops first (empty first (raws w)) f.next (run_empty H does stops first (raws w)) f.steps;
    whole = done_whole f.next f.agrees.ways.ok;
    one_call = one_call f.next f.agrees.ways.ok;
    silent = silent_none f.next f.agrees.ways.ok;
    beginning = beginnings f.next f.agrees.ways.ok;
    mute = never_done f.next f.agrees.ways.ok;
    quiet = quiet_of limit t g w f.next short f.agrees;
    uncut = uncut_of limit t g w f.next f.agrees;
  }

  -- one state of the machine explains what the world shows and what its raw connections took and
  -- gave
  pub headline : (l : WorldLimits) (first : H) (es : List Event) (w : World H) → AreGood l → (run : Run does stops l (opening l first) es w) → (h : Headline does stops first w) × RawGiveOwn does stops l first es w run h.m
  headline l first es w good run =
      let f = follows l first es w good run in
      let t : ℕ → List ℕ = (λ c. taken does stops l c (opening l first) w es run) in
      let g : ℕ → List ℕ = (λ c. given does stops l c (opening l first) w es run) in
      (headline_of l.limit t g first w (short_limit l good) f, λ c k at raw. apart_of l.limit t g w f.next f.agrees c k at raw)

  pub headline_alone : (l : WorldLimits) (first : H) (es : List Event) (w : World H) → AreGood l → Run does stops l (opening l first) es w → Headline does stops first w
  headline_alone l first es w good run = (headline l first es w good run).0

  pub own_entries : (l : WorldLimits) (first : H) (es : List Event) (w : World H) → AreGood l → (run : Run does stops l (opening l first) es w) → (h : Headline does stops first w) × RawAnswerOwn does stops l first es w run h.m
  own_entries l first es w good run = let p = headline l first es w good run in (p.0, λ c k at raw. (p.1 c k at raw).own)
