-- Acts at a slot, one after another.
use Rattle.std.proofs.Common.{◌≡◌, ℕ, ◌+◌, ◌<◌, ◌≤◌, List, [], ◌∷◌, ◌++◌, Err, inl, inr, length, ap, arith, refl, sym, subst, ◌∙◌, append_assoc, length-append}
use Rattle.wire_peer.specs.{Does, Stops}
use Rattle.wire_peer.specs.declared.server_state.AnswerRefusal.TheVariants as refusals
use Rattle.wire_peer.specs.declared.log.Logged.{Logged}
use Rattle.wire_serve.specs.declared.turned.Leave.TheVariants as leaves
use Rattle.wire_serve.specs.declared.turned.Turned.{Turned}
use Rattle.wire_serve.specs.declared.turned.Turned.TheVariants as turns
use Rattle.wire_serve.specs.Slots.{AllProceed, Answers, Ends, Fails, MovesAs, Receives, Sends, SetsGate, SlotAct, SlotDoes, SlotMoves, SlotRun, SlotSeen, Takes, Tells, TurnedAs, Turns, Waits}

module _ {H L : Type 0} (does : Does H) (stops : Stops H) (t : Tells L) where
  pub run_on : (acts more : List SlotAct) (old mid new : SlotSeen L) (from then to : Logged H)
      → SlotRun does stops t old from acts mid then → SlotRun does stops t mid then more new to
      → SlotRun does stops t old from (acts ++ more) new to
  run_on [] more old mid new from then to (s, l) r =
      subst (λ (x : SlotSeen L). SlotRun does stops t x from more new to) s
      (subst (λ (x : Logged H). SlotRun does stops t mid x more new to) l r)
  run_on (act ∷ acts) more old mid new from then to (after, last, done, rest) r =
      (after, last, done, run_on acts more after mid new last then to rest r)

  pub one_act : (act : SlotAct) (old new : SlotSeen L) (from to : Logged H) → SlotDoes does stops t act old from new to
      → SlotRun does stops t old from (act ∷ []) new to
  one_act act old new from to done = (new, to, done, (refl, refl))

  -- an act that asks nothing
  moves_do : (act : SlotAct) (old new : SlotSeen L) (from : Logged H) → SlotMoves t act old new
      → SlotDoes does stops t act old from new from
  moves_do (Receives bytes) old new from m = (m, refl)
  moves_do (Takes bytes) old new from m = (m, refl)
  moves_do (Answers result made) old new from m = absurd m
  moves_do (Sends bytes) old new from m = (m, refl)
  moves_do Ends old new from m = (m, refl)
  moves_do Waits old new from m = (m, refl)
  moves_do Fails old new from m = (m, refl)
  moves_do SetsGate old new from m = (m, refl)

  moves_run : (act : SlotAct) (old new : SlotSeen L) (from : Logged H) → SlotMoves t act old new
      → SlotRun does stops t old from (act ∷ []) new from
  moves_run act old new from m = one_act act old new from from (moves_do act old new from m)

  -- a step that asks nothing is a turn of one step
  pub moves_turn : (turned : Turned) (old new : SlotSeen L) (from : Logged H) → MovesAs t turned old new
      → Turns does stops t 1 turned old from new from
  moves_turn turns.Again old new from (act, m, proceeds) =
      record { acts = act ∷ []; run = moves_run act old new from m; few = omega arith; comes_to = (refl, (proceeds, tt)) }
  moves_turn turns.Waits old new from m =
      record { acts = Waits ∷ []; run = moves_run Waits old new from m; few = omega arith; comes_to = ([], refl, tt) }
  moves_turn (turns.Over (leaves.Link fault)) old new from m =
      record { acts = Fails ∷ []; run = moves_run Fails old new from m; few = omega arith; comes_to = ([], refl, tt) }
  moves_turn (turns.Over (leaves.Closed cause)) old new from (act, m, proceeds, closed) =
      record { acts = act ∷ []; run = moves_run act old new from m; few = omega arith; comes_to = (closed, (proceeds, tt)) }
  moves_turn (turns.Over leaves.OutOfMemory) old new from (ready, some, same) =
      record { acts = []; run = (same, refl); few = omega arith; comes_to = inl (tt, omega arith, rw same ready, rw same some) }

  all_on : (acts more : List SlotAct) → AllProceed acts → AllProceed more → AllProceed (acts ++ more)
  all_on [] more none each = each
  all_on (act ∷ acts) more (first, rest) each = (first, all_on acts more rest each)

  -- The run of a turn so far: in each step something was done.
  pub record SoFar (steps : ℕ) (old : SlotSeen L) (from : Logged H) (new : SlotSeen L) (to : Logged H) : Type 0 where
    pub acts : List SlotAct
    pub run : SlotRun does stops t old from acts new to
    pub all : length acts ≡ steps
    pub each : AllProceed acts

  pub none_yet : (old : SlotSeen L) (from : Logged H) → SoFar 0 old from old from
  none_yet old from = record { acts = []; run = (refl, refl); all = refl; each = tt }

  pub one_more : (i : ℕ) (old mid new : SlotSeen L) (from then to : Logged H) → SoFar i old from mid then
      → Turns does stops t 1 turns.Again mid then new to → SoFar (i + 1) old from new to
  one_more i old mid new from then to s one = record {
    acts = s.acts ++ one.acts;
    run = run_on s.acts one.acts old mid new from then to s.run one.run;
    all = omega (arith, length-append s.acts one.acts, s.all, one.comes_to.0);
    each = all_on s.acts one.acts s.each one.comes_to.1;
  }

  -- the last step of a turn
  comes_to : (turned : Turned) (i steps : ℕ) (before acts : List SlotAct) (s : SlotSeen L) → (turned ≡ turns.Again → ⊥)
      → length before ≡ i → i < steps → AllProceed before → TurnedAs turned 1 acts s → TurnedAs turned steps (before ++ acts) s
  comes_to turns.Again i steps before acts s differs long lt all c = absurd (differs refl)
  comes_to turns.Waits i steps before acts s differs long lt all (first, is, each) =
      (before ++ first, ap (λ (x : List SlotAct). before ++ x) is ∙ sym (append_assoc before first (Waits ∷ [])), all_on before first all each)
  comes_to (turns.Over (leaves.Link fault)) i steps before acts s differs long lt all (first, is, each) =
      (before ++ first, ap (λ (x : List SlotAct). before ++ x) is ∙ sym (append_assoc before first (Fails ∷ [])), all_on before first all each)
  comes_to (turns.Over (leaves.Closed cause)) i steps before acts s differs long lt all (c, each) = (c, all_on before acts all each)
  comes_to (turns.Over leaves.OutOfMemory) i steps before acts s differs long lt all (inl (each, none, ready, some)) =
      inl (all_on before acts all each, omega (arith, length-append before acts, long, lt, none), ready, some)
  comes_to (turns.Over leaves.OutOfMemory) i steps before acts s differs long lt all (inr (first, made, is, each)) =
      inr (
        before ++ first,
        made,
        ap (λ (x : List SlotAct). before ++ x) is ∙ sym (append_assoc before first (Answers (Err refusals.OutOfMemory) made ∷ [])),
        all_on before first all each,
      )

  pub last_step : (turned : Turned) (i steps : ℕ) (old mid new : SlotSeen L) (from then to : Logged H) → SoFar i old from mid then
      → i < steps → (turned ≡ turns.Again → ⊥) → Turns does stops t 1 turned mid then new to
      → Turns does stops t steps turned old from new to
  last_step turned i steps old mid new from then to s lt differs one = record {
    acts = s.acts ++ one.acts;
    run = run_on s.acts one.acts old mid new from then to s.run one.run;
    few = omega (arith, length-append s.acts one.acts, s.all, one.few, lt);
    comes_to = comes_to turned i steps s.acts one.acts new differs s.all lt s.each one.comes_to;
  }

  pub all_steps : (i steps : ℕ) (old new : SlotSeen L) (from to : Logged H) → SoFar i old from new to → i ≤ steps → steps ≤ i
      → Turns does stops t steps turns.Again old from new to
  all_steps i steps old new from to s most least =
      record { acts = s.acts; run = s.run; few = omega (arith, s.all, most); comes_to = (omega (arith, s.all, most, least), s.each) }
