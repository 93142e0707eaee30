-- Runs of one act, and of more.
use Rattle.std.proofs.Common.{◌≡◌, ℕ, List, [], ◌∷◌, ◌++◌, Option, Some, None, Result, Ok, Err, IfOk, OnErr, refl, subst}
use mathlib.Core.Logic.{∥∥₁_elim, ∥∥₁_prop}
use Rattle.wire_share.specs.declared.server.Server.{Server}
use Rattle.wire_share.specs.Cores.{CoreAct, CoreDoes, CoreRun, CoreSeen, core_seen, new_core}
use Rattle.wire_share.specs.Core_laws.{IsLawful, LawfulRun}
use Rattle.wire_share.specs.Running.{IsRun}
use Rattle.wire_share.specs.declared.shared_core.Core.{Core}

pub one_act : (act : CoreAct) (old new : CoreSeen) → CoreDoes act old new → (acts : List CoreAct) × CoreRun old acts new
one_act act old new does = (act ∷ [], (new, does, refl))

pub no_act : (old : CoreSeen) → (acts : List CoreAct) × CoreRun old acts old
no_act old = ([], refl)

-- a run and then another
pub runs_on : (acts more : List CoreAct) (old mid new : CoreSeen) → CoreRun old acts mid → CoreRun mid more new → CoreRun old (acts ++ more) new
runs_on [] more old mid new run rest = subst (λ (s : CoreSeen). CoreRun s more new) run rest
runs_on (act ∷ acts) more old mid new run rest = (run.0, run.1, runs_on acts more run.0 mid new run.2 rest)

abbrev pub Reached : CoreSeen → Type 0
Reached s = ∥ ((acts : List CoreAct) × CoreRun new_core acts s) ∥₁

pub reaches_on : (old new : CoreSeen) → Reached old → ((acts : List CoreAct) × CoreRun old acts new) → Reached new
reaches_on old new reached run = ∥∥₁_elim reached ∥∥₁_prop (λ r. ∣ (r.0 ++ run.0, runs_on r.0 run.0 new_core old new r.1 run.1) ∣₁)

pub lawful_from : (now : CoreSeen) → ((acts : List CoreAct) (s : CoreSeen) → CoreRun new_core acts s → LawfulRun s) → Reached now → IsLawful now
lawful_from now law reached = ∥∥₁_elim reached ∥∥₁_prop (λ r. ∣ law r.0 now r.1 ∣₁)

pub begun : (s : CoreSeen) → s ≡ new_core → Reached s
begun s is = ∣ ([], is) ∣₁

-- what was opened, or wasn't
pub opens_run : {E : Type 0} (act : ℕ → CoreAct) (result : Result ℕ E) (old new : CoreSeen) → IfOk result (λ n. CoreDoes (act n) old new) → OnErr result (new ≡ old)
    → (acts : List CoreAct) × CoreRun old acts new
opens_run act (Ok n) old new does same = one_act (act n) old new does
opens_run act (Err e) old new does same = ([], same)

-- what was done with a connection, if it is there
pub acts_run : (act : CoreAct) (row : Option Server) (old new : CoreSeen) → ((y : Server) → row ≡ Some y → CoreDoes act old new) → (row ≡ None → new ≡ old)
    → (acts : List CoreAct) × CoreRun old acts new
acts_run act None old new does none = ([], none refl)
acts_run act (Some y) old new does none = one_act act old new (does y refl)

-- a run of a core, by the acts of its state
pub as_run : (old new : Core) → ((acts : List CoreAct) × CoreRun (core_seen old.state) acts (core_seen new.state)) → IsRun old new
as_run old new run = record { acts = run.0; run = run.1 }
