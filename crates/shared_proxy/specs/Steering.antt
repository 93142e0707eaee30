-- What is done with a request by a script, and with its reply.
use Rattle.std.specs.Prelude.{◌≡◌, ℕ, Option, List}
use Rattle.proxy.specs.Holding.{HoldMoves, Holds, Passes, view_of}
use Rattle.script_rules.specs.declared.action.Flow.{Flow}
use Rattle.shared_proxy.specs.Lines.{SameButLink, unseen}
use Rattle.shared_proxy.specs.declared.client.Client.{Client}
use Rattle.shared_proxy.specs.declared.line.Line.{Line}

-- no message is held
abbrev pub HoldsNone : Line → Type 0
HoldsNone line = (message : List ℕ) → Holds line.link.held message → ⊥

-- the message that the line holds is received from now on
pub record PassesOn (message : List ℕ) (old new : Line) : Type 0 where
  pub moved : HoldMoves unseen (Passes message) (view_of old.link.held) (view_of new.link.held)
  pub same : SameButLink old new

-- The request passes, and this becomes of it and of its reply.
pub record PassesSo (message : List ℕ) (flow : Flow) (cut_up : Option ℕ) (old new : Client)
    : Type 0 where
  pub line : PassesOn message old.line new.line
  pub flow_is : new.steering.flow ≡ flow
  pub cut_up_is : new.steering.cut_up ≡ cut_up
  pub reply : new.steering.reply ≡ old.steering.reply
  pub waits_at : new.waits_at ≡ old.waits_at

-- all that is said of a client's request stays but what becomes of its reply
pub record SameButFlow (old new : Client) : Type 0 where
  pub cut_up : new.steering.cut_up ≡ old.steering.cut_up
  pub delayed : new.steering.delayed ≡ old.steering.delayed
  pub reply : new.steering.reply ≡ old.steering.reply
  pub waits_at : new.waits_at ≡ old.waits_at
