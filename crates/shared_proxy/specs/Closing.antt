-- What is done with the core where clients and connections to the server are closed.
use Rattle.std.specs.Prelude.{◌≡◌, ℕ, Bool, true, false, List, [], ◌∷◌, None, nat_eq}
use Rattle.indexmap.specs.IndexMap.{get}
use Rattle.wire_share.specs.Cores.{ClosesDown, CoreAct, CoreRun, Finishes, LosesUp}
use Rattle.wire_share.specs.Running.{seen}
use Rattle.wire_share.specs.declared.shared_core.Core.{Core}
use Rattle.shared_proxy.specs.declared.sharing.Sharing.{Sharing}

-- a connection to the server is let go of: it is lost, or used no more
abbrev pub is_ending : CoreAct → Bool
is_ending (Finishes u) = true
is_ending (LosesUp u) = true
is_ending act = false

-- a client is closed, or a connection to the server let go of
abbrev pub is_closing : CoreAct → Bool
is_closing (ClosesDown d) = true
is_closing (Finishes u) = true
is_closing (LosesUp u) = true
is_closing act = false

-- each act passes the test
abbrev pub AreAll : (CoreAct → Bool) → List CoreAct → Type 0
AreAll test [] = Unit {0}
AreAll test (act ∷ acts) = (test act ≡ true) × AreAll test acts

-- Connections to the server were let go of, and nothing else was done.
pub record Ends (old new : Core) : Type 0 where
  pub acts : List CoreAct
  pub endings : AreAll is_ending acts
  pub run : CoreRun (seen old) acts (seen new)

-- Clients were closed and connections to the server let go of, and nothing else was done.
pub record Leaves (old new : Core) : Type 0 where
  pub acts : List CoreAct
  pub closings : AreAll is_closing acts
  pub run : CoreRun (seen old) acts (seen new)

-- This client was closed, and then only connections to the server were let go of.
pub record Closes (number : ℕ) (old new : Core) : Type 0 where
  pub acts : List CoreAct
  pub endings : AreAll is_ending acts
  pub run : CoreRun (seen old) (ClosesDown number ∷ acts) (seen new)

-- This connection to the server was lost, and then only clients were closed and others let go of.
pub record Loses (upstream : ℕ) (old new : Core) : Type 0 where
  pub acts : List CoreAct
  pub closings : AreAll is_closing acts
  pub run : CoreRun (seen old) (LosesUp upstream ∷ acts) (seen new)

-- The client was closed in the core, and its line is gone.
pub record IsClosed (number : ℕ) (old new : Sharing) : Type 0 where
  pub core : Closes number old.core new.core
  pub gone : get nat_eq new.clients.map number ≡ None
