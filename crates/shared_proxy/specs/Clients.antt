-- The connections of clients.
use Rattle.std.specs.Prelude.{◌≡◌, ◌≢◌, ℕ, ◌+◌, ◌-◌, ◌^◌, min, Bool, true, false, [], Option, Some}
use Rattle.std.specs.Prelude.{None, is_some, nat_eq}
use Rattle.indexmap.specs.IndexMap.{IndexMap, Updates}
use Rattle.proxy.specs.declared.options.Watching.{Watching}
use Rattle.script_rules.specs.declared.action.Flow.TheVariants as flows
use Rattle.wire_serve.specs.{state_of}
use Rattle.wire_share.specs.Running.{seen}
use Rattle.wire_share.specs.declared.client.Client as connections
use Rattle.wire_share.specs.declared.shared_core.Core.{Core}
use Rattle.shared_proxy.specs.Leaving.{leave_of_state}
use Rattle.shared_proxy.specs.declared.client.Client.{Client}
use Rattle.shared_proxy.specs.declared.client.Steering.{Steering}
use Rattle.shared_proxy.specs.declared.line.Line.{Line}

-- how many are gone once this one is, if it was there
abbrev pub counted : Option Client → ℕ → ℕ
counted None ended = ended
counted (Some client) ended = min (ended + 1) (2 ^ 64 - 1)

-- a script says nothing of the request that waits
pub record IsUnsteered (s : Steering) : Type 0 where
  pub flow : s.flow ≡ flows.Whole
  pub cut_up : s.cut_up ≡ None
  pub delayed : s.delayed ≡ false
  pub reply : s.reply.items ≡ []

-- The client has this line, and no request of it waits. Its messages are watched, or aren't.
pub record IsNew (line : Line) (watched : Bool) (x : Client) : Type 0 where
  pub line_is : x.line ≡ line
  pub waits_at : x.waits_at ≡ None
  pub steering : IsUnsteered x.steering
  pub watches : is_some x.watches ≡ watched

-- a new client has this number, and each other one stays
pub record Opens {S : Type 0} (number : ℕ) (line : Line) (watching : Watching)
    (old new : IndexMap ℕ Client S) : Type 0 where
  pub client : Client
  pub is_new : IsNew line watching.watched client
  pub updates : Updates nat_eq old new number (Some client)

-- all of two clients is the same but for what is watched
pub record SameButWatches (old new : Client) : Type 0 where
  pub line : new.line ≡ old.line
  pub waits_at : new.waits_at ≡ old.waits_at
  pub steering : new.steering ≡ old.steering

-- where its request waits and what a script says of it stays
pub record SameRequest (old new : Client) : Type 0 where
  pub waits_at : new.waits_at ≡ old.waits_at
  pub steering : new.steering ≡ old.steering

-- the same, where the bytes of a script's reply may have been sent
pub record SameButReply (old new : Client) : Type 0 where
  pub waits_at : new.waits_at ≡ old.waits_at
  pub flow : new.steering.flow ≡ old.steering.flow
  pub cut_up : new.steering.cut_up ≡ old.steering.cut_up
  pub delayed : new.steering.delayed ≡ old.steering.delayed

-- The client is there and open, and awaits no reply.
pub record IsFree (core : Core) (number : ℕ) : Type 0 where
  pub client : connections.Client
  pub client_at : (seen core).downs number ≡ Some client
  pub free : client.downstream.awaited ≡ None
  pub open_ : leave_of_state (state_of client.downstream.conn) ≡ None
