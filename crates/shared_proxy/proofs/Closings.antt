-- Connections to the server that are let go of, and clients that are closed.
use Rattle.std.proofs.Common.{◌≡◌, ℕ, Bool, true, List, [], ◌∷◌, ◌++◌, Option, Some, None, refl, sym, subst}
use Rattle.wire_share.specs.Cores.{ClosesDown, CoreAct, CoreDoes, CoreRun, CoreSeen, Finishes, LosesUp}
use Rattle.wire_share.specs.Running.{IsRun, seen}
use Rattle.wire_share.specs.declared.server.Server.{Server}
use Rattle.wire_share.specs.declared.shared_core.Core.{Core}
use Rattle.shared_proxy.specs.Closing.{AreAll, Closes, Ends, Leaves, Loses, is_closing, is_ending}
use Rattle.shared_proxy.proofs.Runs.{runs_on}

pub all_on : (test : CoreAct → Bool) (acts more : List CoreAct) → AreAll test acts → AreAll test more → AreAll test (acts ++ more)
all_on test [] more all rest = rest
all_on test (act ∷ acts) more all rest = (all.0, all_on test acts more all.1 rest)

-- what is of one kind is of another, if each act of the first kind is one of the other
pub all_are : (test other : CoreAct → Bool) → ((act : CoreAct) → test act ≡ true → other act ≡ true) → (acts : List CoreAct) → AreAll test acts → AreAll other acts
all_are test other is [] all = tt
all_are test other is (act ∷ acts) all = (is act all.0, all_are test other is acts all.1)

ending_closes : (act : CoreAct) → is_ending act ≡ true → is_closing act ≡ true
ending_closes (Finishes u) is = refl
ending_closes (LosesUp u) is = refl
ending_closes act is = absurd (cc)

-- ---- endings

pub ends_none : (core : Core) → Ends core core
ends_none core = record { acts = []; endings = tt; run = refl }

pub ends_on : {old mid new : Core} → Ends old mid → Ends mid new → Ends old new
ends_on {old} {mid} {new} first rest = record {
  acts = first.acts ++ rest.acts;
  endings = all_on is_ending first.acts rest.acts first.endings rest.endings;
  run = runs_on first.acts rest.acts (seen old) (seen mid) (seen new) first.run rest.run;
}

-- one connection was let go of, if it is there
pub ends_one : (act : CoreAct) → is_ending act ≡ true → (row : Option Server) (old new : Core) → ((y : Server) → row ≡ Some y → CoreDoes act (seen old) (seen new))
    → (row ≡ None → seen new ≡ seen old) → Ends old new
ends_one act is None old new does none = record { acts = []; endings = tt; run = none refl }
ends_one act is (Some y) old new does none = record { acts = act ∷ []; endings = (is, tt); run = (seen new, does y refl, refl) }

-- ---- closings

pub leaves_none : (core : Core) → Leaves core core
leaves_none core = record { acts = []; closings = tt; run = refl }

pub leaves_on : {old mid new : Core} → Leaves old mid → Leaves mid new → Leaves old new
leaves_on {old} {mid} {new} first rest = record {
  acts = first.acts ++ rest.acts;
  closings = all_on is_closing first.acts rest.acts first.closings rest.closings;
  run = runs_on first.acts rest.acts (seen old) (seen mid) (seen new) first.run rest.run;
}

pub ends_leaves : {old new : Core} → Ends old new → Leaves old new
ends_leaves e = record { acts = e.acts; closings = all_are is_ending is_closing ending_closes e.acts e.endings; run = e.run }

pub closes_leaves : {number : ℕ} {old new : Core} → Closes number old new → Leaves old new
closes_leaves {number} {old} {new} c = record {
  acts = ClosesDown number ∷ c.acts;
  closings = (refl, all_are is_ending is_closing ending_closes c.acts c.endings);
  run = c.run;
}

-- a client is closed, and then connections are let go of
pub closes_then : (number : ℕ) (old mid new : Core) → CoreDoes (ClosesDown number) (seen old) (seen mid) → Ends mid new → Closes number old new
closes_then number old mid new does e = record { acts = e.acts; endings = e.endings; run = (seen mid, does, e.run) }

-- the same, behind what left all as it was
pub closes_after : (number : ℕ) (old mid new : Core) → seen mid ≡ seen old → Closes number mid new → Closes number old new
closes_after number old mid new same c =
    record { acts = c.acts; endings = c.endings; run = subst (λ (s : CoreSeen). CoreRun s (ClosesDown number ∷ c.acts) (seen new)) same c.run }

-- a connection is lost, and then clients are closed
pub loses_then : (upstream : ℕ) (old mid new : Core) → CoreDoes (LosesUp upstream) (seen old) (seen mid) → Leaves mid new → Loses upstream old new
loses_then upstream old mid new does l = record { acts = l.acts; closings = l.closings; run = (seen mid, does, l.run) }
