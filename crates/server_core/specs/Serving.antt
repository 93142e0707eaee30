-- What the server does with its connections, and what it writes of that.
use Rattle.std.specs.Prelude.{◌≡◌, ℕ, suc, ◌+◌, min, List, [], ◌∷◌, ◌++◌, flat_map, Option, None}
use Rattle.std.specs.Prelude.{Some, Result, Ok, Err, true}
use Rattle.std.specs.Io.KnownBytes.{Appends}
use Rattle.slab.specs.Slab.{Slab, Updates, get}
use Rattle.script_rules.specs.declared.action.Flow.{Flow}
use Rattle.script_rules.specs.{RuleView}
use Rattle.wire_serve.specs.declared.cause.CloseCause.TheVariants as close_causes
use Rattle.wire_serve.specs.{IsGated, IsTurned, SlotSeen, Tells, new_slot}
use Rattle.wire_serve.specs.declared.turned.Leave.{Leave}
use Rattle.wire_serve.specs.declared.turned.Leave.TheVariants as leaves
use Rattle.wire_serve.specs.declared.turned.Turned.{Turned}
use Rattle.wire_serve.specs.declared.turned.Turned.TheVariants as turns
use Rattle.wire_serve.specs.declared.gated_link.Gate.{Gate}
use Rattle.wire_serve.specs.declared.gated_link.Gate.TheVariants as gates
use Rattle.wire_peer.specs.{Does, Stops, log_of}
use Rattle.wire_peer.specs.declared.log.Logged.{Logged}
use Rattle.wire_peer.specs.declared.server_state.ServerCause.TheVariants as causes
use Rattle.server_core.specs.declared.serving.Serving.{Serving}
use Rattle.server_core.specs.declared.stop.Stop.{Stop}
use Rattle.server_core.specs.declared.stop.Stop.TheVariants as stopped
use Rattle.server_core.specs.Replies.{gate_for, last_flow, rules_after}
use Rattle.server_core.specs.Transcript.{end_text, new_text, told_text}

-- the server stops after a connection that ran out of memory, and after no other
abbrev pub settled : Leave → Result (Unit {0}) Stop
settled leaves.OutOfMemory = Err stopped.OutOfMemory
settled (leaves.Closed close_causes.NoMemory) = Err stopped.OutOfMemory
settled (leaves.Closed (close_causes.Server causes.NoMemory)) = Err stopped.OutOfMemory
settled leave = Ok tt

-- ---- what becomes of replies

-- with rules, a turn is a single step
abbrev pub IsStepped : List RuleView → (steps : ℕ) → Type 0
IsStepped [] steps = Unit {0}
IsStepped (r ∷ rs) steps = steps ≡ 1

-- the gate of a link once a reply waits that goes so: what was cut stays cut
abbrev pub gate_after : Flow → Gate → Gate
gate_after flow (gates.Cut left) = gates.Cut left
gate_after flow gates.Open = gate_for flow
gate_after flow gates.Swallowed = gate_for flow

-- what becomes of the reply that waits: none does where the request asked for none
abbrev pub output_flow : (output : List ℕ) → Option Flow → Option Flow
output_flow [] flow = None
output_flow (byte ∷ bytes) flow = flow

-- what becomes of the reply that waits at this slot, where it is the one that was put out last
abbrev pub reply_flow : {L : Type 0} → Option (SlotSeen L) → Option Flow → Option Flow
reply_flow None flow = None
reply_flow (Some slot) flow = output_flow slot.conn.output flow

-- What becomes of the link of this connection before its next turn, by the flow of the reply that
-- it put out last: it moves no byte, and has that gate. If it put out none, nothing is done.
abbrev pub IsSteered : {L : Type 0} → Tells L → (L → Gate) → Option Flow → (key : ℕ)
    → Slab (SlotSeen L) → Slab (SlotSeen L) → Type 0
IsSteered t gate None key old new = new ≡ old
IsSteered {L} t gate (Some flow) key old new =
    (s : SlotSeen L) × (get old key ≡ Some s)
    × IsGated t gate key (gate_after flow (gate s.link)) true old new

-- ---- turns

-- the log is empty, and the handler is the one of this log
abbrev pub IsForgotten : {H : Type 0} → Logged H → Logged H → Type 0
IsForgotten old new = (log_of new.entries.items ≡ []) × (new.handler ≡ old.handler)

-- What is done with the connection after a turn that came to this, and the line of that: one that
-- is over is forgotten, and its end is told, while the link of another one is steered by its reply.
abbrev pub EndsTurn : {L : Type 0} → Tells L → (L → Gate) → (key : ℕ) → Turned → Option Flow
    → Slab (SlotSeen L) → Slab (SlotSeen L) → (line : List ℕ) → Type 0
EndsTurn {L} t gate key (turns.Over leave) flow old new line =
    (slot : SlotSeen L) × (get old key ≡ Some slot) × Updates old new key None
    × (line ≡ end_text slot.conn.server.connection leave)
EndsTurn t gate key turned flow old new line =
    IsSteered t gate (reply_flow (get old key) flow) key old new × (line ≡ [])

-- The connection of this key took a turn, which came to this, between these connections, handlers
-- and rules, and this is told of it. With rules the turn was a single step. The entries that it
-- made are told and forgotten, and their requests move the rules on, one after another.
pub record IsTurnTaken {H L : Type 0} (does : Does H) (stops : Stops H) (t : Tells L)
    (gate : L → Gate) (key : ℕ) (how : Turned) (old : Slab (SlotSeen L)) (from : Logged H)
    (rules : List RuleView) (new : Slab (SlotSeen L)) (to : Logged H) (after : List RuleView)
    (told : List ℕ) : Type 0 where
  pub steps : ℕ
  pub few : IsStepped rules steps
  pub mid : Slab (SlotSeen L)
  pub made : Logged H
  pub turned : IsTurned does stops t key steps (Some how) old from mid made
  pub forgotten : IsForgotten made to
  pub line : List ℕ
  pub ends : EndsTurn t gate key how (last_flow None rules (log_of made.entries.items)) mid new line
  pub moved : after ≡ rules_after (log_of made.entries.items) rules
  pub text : told ≡ flat_map told_text (log_of made.entries.items) ++ line

-- how many connections ended, after a turn that came to this
abbrev pub ended_after : Turned → ℕ → ℕ
ended_after (turns.Over leave) ended = suc ended
ended_after turned ended = ended

-- the same as it is counted, up to 2^64 - 1
abbrev pub counted_after : Turned → ℕ → ℕ
counted_after (turns.Over leave) count = min (count + 1) 18446744073709551615
counted_after turned count = count

-- The connection of this key took a turn, which came to this, and what is told of it was written.
pub record TakesTurn {H L : Type 0} (does : Does H) (stops : Stops H) (t : Tells L)
    (gate : L → Gate) (key : ℕ) (how : Turned) (old new : Serving L H)
    (before after : Option (List ℕ)) : Type 0 where
  pub told : List ℕ
  pub turn : IsTurnTaken does stops t gate key how old.conns.slots old.conns.logged
      old.replies.script.rules.items new.conns.slots new.conns.logged
      new.replies.script.rules.items told
  pub next : new.conns.next ≡ old.conns.next
  pub ended : new.ended ≡ counted_after how old.ended
  pub written : Appends before after told

-- ---- many connections

-- The server came to these connections, this handler and log, this next number, and these rules;
-- so many connections ended, and this was written. It began with none, with number 1, and the rules
-- of a script. Then connections were opened, over links whose gates were open, and took turns. The
-- gate that a reply is to go through stands before its connection takes another turn.
pub data Serves {H L : Type 0} (does : Does H) (stops : Stops H) (t : Tells L) (gate : L → Gate)
    (first : H) (script : List RuleView) : (ended : ℕ) → Slab (SlotSeen L) → Logged H
    → (next : ℕ) → (rules : List RuleView) → (text : List ℕ) → Type 0 where
  begun : {slots : Slab (SlotSeen L)} {logged : Logged H} → ((key : ℕ) → get slots key ≡ None)
      → log_of logged.entries.items ≡ [] → logged.handler ≡ first
      → Serves does stops t gate first script 0 slots logged 1 script []
  opened : {ended next : ℕ} {old new : Slab (SlotSeen L)} {logged : Logged H}
      {rules : List RuleView} {text : List ℕ} (key : ℕ) (link : L)
      → Serves does stops t gate first script ended old logged next rules text
      → gate link ≡ gates.Open → get old key ≡ None
      → Updates old new key (Some (new_slot next link))
      → Serves does stops t gate first script ended new logged (suc next) rules
      (text ++ new_text next)
  took : {ended next : ℕ} {old new : Slab (SlotSeen L)} {from to : Logged H}
      {rules after : List RuleView} {text told : List ℕ} (key : ℕ) (how : Turned)
      → Serves does stops t gate first script ended old from next rules text
      → IsTurnTaken does stops t gate key how old from rules new to after told
      → Serves does stops t gate first script (ended_after how ended) new to next after
      (text ++ told)

-- The server stands so: this many connections ended, which it counts up to 2^64 - 1, and this was
-- written.
pub record IsServing {H L : Type 0} (does : Does H) (stops : Stops H) (t : Tells L)
    (gate : L → Gate) (first : H) (script : List RuleView) (s : Serving L H) (ended : ℕ)
    (text : List ℕ) : Type 0 where
  pub serves : Serves does stops t gate first script ended s.conns.slots s.conns.logged s.conns.next
      s.replies.script.rules.items text
  pub counts : s.ended ≡ min ended 18446744073709551615

-- The server served on between these two moments, and wrote what it did.
abbrev pub ServesOn : {H L : Type 0} → Does H → Stops H → Tells L → (L → Gate) → Serving L H
    → Serving L H → Option (List ℕ) → Option (List ℕ) → Type 0
ServesOn {H} does stops t gate old new before after =
    (first : H) (script : List RuleView) (ended : ℕ) (text : List ℕ)
    → IsServing does stops t gate first script old ended text
    → (more : ℕ) × (told : List ℕ)
    × IsServing does stops t gate first script new more (text ++ told)
    × Appends before after told
