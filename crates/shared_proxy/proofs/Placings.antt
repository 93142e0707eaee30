-- Connections to the server that are opened and let go of, and the requests that stay there.
use Rattle.std.proofs.Common.{◌≡◌, ◌∙◌, ℕ, Bool, true, false, List, [], ◌∷◌, ◌++◌, Option, Some, None, refl, sym, ap, subst}
use Rattle.std.specs.Prelude.{◌==◌, if◌then◌else◌}
use Rattle.std.proofs.lemmas.Bool.{eqb-true}
use Rattle.wire_msg.specs.{Message}
use Rattle.wire_share.specs.Cores.{CoreAct, CoreDoes, CoreRun, CoreSeen, Finishes, KeepsFor, LosesUp, OpensUp, is_call_of, keeping, unless_hung}
use Rattle.wire_share.specs.Running.{seen}
use Rattle.wire_share.specs.Sharing.{Waits}
use Rattle.wire_share.specs.declared.client.Client as connections
use Rattle.wire_share.specs.declared.shared_core.Core.{Core}
use Rattle.wire_share.specs.declared.uses.Use.{Use}
use Rattle.wire_share.specs.declared.uses.Use.TheVariants as used
use Rattle.shared_proxy.specs.Closing.{AreAll, Ends, is_ending}
use Rattle.shared_proxy.specs.Passing.{Asks, Places, is_placing}
use Rattle.shared_proxy.proofs.Closings.{all_are, all_on}
use Rattle.shared_proxy.proofs.Runs.{runs_on}

ending_places : (act : CoreAct) → is_ending act ≡ true → is_placing act ≡ true
ending_places (Finishes u) is = refl
ending_places (LosesUp u) is = refl
ending_places act is = absurd (cc)

pub places_none : (core : Core) → Places core core
places_none core = record { acts = []; placings = tt; run = refl }

pub places_same : (old new : Core) → seen new ≡ seen old → Places old new
places_same old new same = record { acts = []; placings = tt; run = same }

pub places_open : (u : ℕ) (use_ : Use) (old new : Core) → CoreDoes (OpensUp u use_) (seen old) (seen new) → Places old new
places_open u use_ old new does = record { acts = OpensUp u use_ ∷ []; placings = (refl, tt); run = (seen new, does, refl) }

pub places_on : {old mid new : Core} → Places old mid → Places mid new → Places old new
places_on {old} {mid} {new} first rest = record {
  acts = first.acts ++ rest.acts;
  placings = all_on is_placing first.acts rest.acts first.placings rest.placings;
  run = runs_on first.acts rest.acts (seen old) (seen mid) (seen new) first.run rest.run;
}

pub ends_places : {old new : Core} → Ends old new → Places old new
ends_places e = record { acts = e.acts; placings = all_are is_ending is_placing ending_places e.acts e.endings; run = e.run }

-- ---- a request that is to be passed on still is

stays_asked : (number : ℕ) (m : Message) (old new : CoreSeen) → new.downs number ≡ old.downs number → Asks old number m → Asks new number m
stays_asked number m old new same asks = (asks.0, same ∙ asks.1, asks.2)

-- a client that is to keep a connection
kept_asked : (b : Bool) (u : ℕ) (x y : connections.Client) (row : Option connections.Client) (m : Message) → Waits y.downstream m → (b ≡ true → Some x ≡ Some y)
    → row ≡ (if b then keeping u x else Some y) → (z : connections.Client) × (row ≡ Some z) × Waits z.downstream m
kept_asked false u x y row m waits same is = (y, is, waits)
kept_asked true u x y row m waits same is =
    let e : x ≡ y = cc (same refl) in
    (record { downstream = x.downstream; kept = Some u }, is, subst (λ (z : connections.Client). Waits z.downstream m) (sym e) waits)

opened_asked : (use_ : Use) (u number : ℕ) (m : Message) (old new : CoreSeen) → KeepsFor use_ u old.downs new.downs → Asks old number m → Asks new number m
opened_asked (used.Kept owner) u number m old new keeps asks =
    kept_asked (owner == number) u keeps.0 asks.0 (new.downs number) m asks.2
    (λ e. sym keeps.1 ∙ ap old.downs (eqb-true owner number e) ∙ asks.1)
    (keeps.3 number ∙ ap (λ (row : Option connections.Client). if owner == number then keeping u keeps.0 else row) asks.1)
opened_asked used.Shared u number m old new keeps asks = stays_asked number m old new (keeps number) asks
opened_asked used.Once u number m old new keeps asks = stays_asked number m old new (keeps number) asks
opened_asked (used.Transaction beginner) u number m old new keeps asks = stays_asked number m old new (keeps number) asks
opened_asked used.Over u number m old new keeps asks = stays_asked number m old new (keeps number) asks

unhung : (u : ℕ) (x : connections.Client) (m : Message) → Waits x.downstream m → unless_hung u (Some x) ≡ Some x
unhung u x m waits = rw waits.free

act_asked : (act : CoreAct) (number : ℕ) (m : Message) (old new : CoreSeen) → is_placing act ≡ true → CoreDoes act old new → Asks old number m → Asks new number m
act_asked (Finishes u) number m old new is does asks = stays_asked number m old new (does.downs number) asks
act_asked (LosesUp u) number m old new is does asks =
    (asks.0, does.downs number ∙ ap (unless_hung u) asks.1 ∙ unhung u asks.0 m asks.2, asks.2)
act_asked (OpensUp u use_) number m old new is does asks = opened_asked use_ u number m old new does.downs asks
act_asked act number m old new is does asks = absurd (cc)

run_asked : (acts : List CoreAct) (number : ℕ) (m : Message) (old new : CoreSeen) → AreAll is_placing acts → CoreRun old acts new → Asks old number m → Asks new number m
run_asked [] number m old new all run asks = subst (λ (s : CoreSeen). Asks s number m) (sym run) asks
run_asked (act ∷ acts) number m old new all run asks =
    run_asked acts number m run.0 new all.1 run.2 (act_asked act number m old run.0 all.0 run.1 asks)

pub still_asks : (number : ℕ) (m : Message) (old new : Core) → Places old new → Asks (seen old) number m → Asks (seen new) number m
still_asks number m old new places asks = run_asked places.acts number m (seen old) (seen new) places.placings places.run asks
