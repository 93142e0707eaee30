-- The machine goes on as one connection does.
use Rattle.std.proofs.Common.{◌≡◌, ℕ, List, refl, ◌∙◌}
use Rattle.wire_peer.specs.{Does, LogEntry, Stops}
use Rattle.wire_model.specs.Conns.{Conn, Record}
use Rattle.wire_model.specs.Machines.{Machine, Steps, stay, go}
use Rattle.wire_model.specs.Shown.{shown_calls}
use Rattle.wire_model.proofs.Agreeing.{Here}
use Rattle.wire_model.proofs.Frames.{same_there, same_then}
use Rattle.wire_model.proofs.Kept.{SameAt}

module _ (H : Type 0) (does : Does H) (stops : Stops H) where
  pub steps_then : (m n o : Machine H) → Steps H does stops m n → Steps H does stops n o → Steps H does stops m o
  steps_then m n o a stay = a
  steps_then m n o a (go {n = mid} ss s) = go (steps_then m n mid a ss) s

  -- the machine goes on to a state that shows these calls, this log and this handler, and that has the connection as it is
  pub record Reaches (limit c : ℕ) (k : Conn) (m : Machine H) (calls : List Record) (log : List LogEntry) (handler : H) (taken given : List ℕ) : Type 0 where
    pub next : Machine H
    pub steps : Steps H does stops m next
    pub here : Here limit c k next taken given
    pub others : (d : ℕ) → (d ≡ c → ⊥) → SameAt d m next
    pub calls_are : shown_calls next.calls ≡ calls
    pub log_is : next.log ≡ log
    pub handler_is : next.handler ≡ handler

  -- where it already is
  pub still : (limit c : ℕ) (k : Conn) (m : Machine H) (taken given : List ℕ) → Here limit c k m taken given → Reaches limit c k m (shown_calls m.calls) m.log m.handler taken given
  still limit c k m taken given h = record { next = m; steps = stay; here = h; others = λ d n. same_there d m; calls_are = refl; log_is = refl; handler_is = refl }

  -- one after the other
  pub reaches_then : (limit c : ℕ) (k k' : Conn) (m : Machine H) (calls calls' : List Record) (taken taken' given given' : List ℕ) (one : Reaches limit c k m calls m.log m.handler taken given)
      → Reaches limit c k' one.next calls' one.next.log one.next.handler taken' given' → Reaches limit c k' m calls' m.log m.handler taken' given'
  reaches_then limit c k k' m calls calls' taken taken' given given' one more = record {
    next = more.next;
    steps = steps_then m one.next more.next one.steps more.steps;
    here = more.here;
    others = λ d n. same_then d m one.next more.next (one.others d n) (more.others d n);
    calls_are = more.calls_are;
    log_is = more.log_is ∙ one.log_is;
    handler_is = more.handler_is ∙ one.handler_is;
  }
