-- Runs of a core, one after another.
use Rattle.std.proofs.Common.{◌≡◌, List, [], ◌∷◌, ◌++◌, refl, subst}
use Rattle.wire_share.specs.Cores.{CoreAct, CoreRun, CoreSeen}
use Rattle.wire_share.specs.Running.{IsRun, seen}
use Rattle.wire_share.specs.declared.shared_core.Core.{Core}

pub runs_on : (acts more : List CoreAct) (old mid new : CoreSeen) → CoreRun old acts mid → CoreRun mid more new → CoreRun old (acts ++ more) new
runs_on [] more old mid new run rest = subst (λ (s : CoreSeen). CoreRun s more new) run rest
runs_on (act ∷ acts) more old mid new run rest = (run.0, run.1, runs_on acts more run.0 mid new run.2 rest)

pub run_on : {old mid new : Core} → IsRun old mid → IsRun mid new → IsRun old new
run_on {old} {mid} {new} first rest =
    record { acts = first.acts ++ rest.acts; run = runs_on first.acts rest.acts (seen old) (seen mid) (seen new) first.run rest.run }

pub run_none : (core : Core) → IsRun core core
run_none core = record { acts = []; run = refl }

-- a run behind what left the core alone
pub run_after : {old mid new : Core} → mid ≡ old → IsRun mid new → IsRun old new
run_after {old} {mid} {new} same run = subst (λ (core : Core). IsRun core new) same run
