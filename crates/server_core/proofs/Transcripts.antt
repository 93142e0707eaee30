-- What a server wrote is the transcript of what it did.
use Rattle.std.proofs.Common.{◌≡◌, ◌+◌, ◌++◌, ℕ, suc, List, [], ◌∷◌, Option, None, Some, refl, sym, ap, subst, ◌∙◌, append-nil, arith}
use Rattle.std.specs.Prelude.{flat_map}
use Rattle.slab.specs.Slab.{Slab}
use Rattle.wire_peer.specs.{Does, LogEntry, ServerView, Stops, log_of}
use Rattle.wire_peer.specs.declared.log.Logged.{Logged}
use Rattle.wire_serve.specs.{AreNewConns, ConnView, ConnsAct, ConnsRun, ConnsSeen, IsTurned, SlotAct, SlotRun, SlotSeen, Tells, conns_seen, state_of}
use Rattle.wire_serve.specs.Connections as conns
use Rattle.wire_serve.specs.Slots.{Answers, Ends, Fails, Receives, Sends, SetsGate, SlotDoes, Takes, Waits}
use Rattle.wire_serve.specs.declared.gated_link.Gate.{Gate}
use Rattle.wire_serve.specs.declared.turned.Turned.{Turned}
use Rattle.wire_serve.specs.declared.turned.Turned.TheVariants as turns
use Rattle.wire_serve.proofs.Lemmas.{answer_number, ended_same, put_server, takes_same}
use Rattle.script_rules.specs.{RuleView}
use Rattle.script_rules.specs.declared.action.Flow.{Flow}
use Rattle.server_core.specs.Replies.{last_flow}
use Rattle.server_core.specs.Serving.{EndsTurn, IsForgotten, IsSteered, IsTurnTaken, Serves, begun, opened, took}
use Rattle.server_core.specs.Transcript.{end_text, told_text}
use Rattle.server_core.specs.Written.{Writes, a_gate, a_last_turn, a_new_one, a_turn, nothing}

abbrev number_of : {L : Type 0} → SlotSeen L → ℕ
number_of s = s.conn.server.connection

module _ {H L : Type 0} (does : Does H) (stops : Stops H) (t : Tells L) where
  -- ---- the number of a connection stays

  number_stays : (act : SlotAct) (old new : SlotSeen L) (from to : Logged H) → SlotDoes does stops t act old from new to → number_of new ≡ number_of old
  number_stays (Receives bytes) old new from to (r, l) = ap (λ (f : ConnView). f.server.connection) r.conn
  number_stays (Takes bytes) old new from to (r, l) = (takes_same bytes old.conn new.conn r.takes).number
  number_stays (Answers result made) old new from to r =
      ap (λ (z : ServerView). z.connection) (put_server old.conn.queried result old.conn new.conn r.answers.server r.answers.out)
      ∙ answer_number does stops result old.conn.server r.answers.server from.handler to.handler _ _ r.answers.step
  number_stays (Sends bytes) old new from to (r, l) = ap (λ (f : ConnView). f.server.connection) r.conn
  number_stays Ends old new from to (r, l) =
      ap (λ (f : ConnView). f.server.connection) r.conn ∙ (ended_same (state_of old.conn) old.conn.part old.conn).number
  number_stays Waits old new from to ((r, rose), l) = ap (λ (f : ConnView). f.server.connection) r.conn
  number_stays Fails old new from to ((r, rose), l) = ap (λ (f : ConnView). f.server.connection) r.conn
  number_stays SetsGate old new from to (r, l) = ap (λ (f : ConnView). f.server.connection) r.conn

  numbers_stay : (acts : List SlotAct) (old new : SlotSeen L) (from to : Logged H) → SlotRun does stops t old from acts new to → number_of new ≡ number_of old
  numbers_stay [] old new from to (is, l) = ap number_of is
  numbers_stay (act ∷ acts) old new from to (mid, then_, d, rest) =
      numbers_stay acts mid new then_ to rest ∙ number_stays act old mid from then_ d

  -- ---- runs

  run_then : (acts more : List (ConnsAct L)) (a b e : ConnsSeen H L) → ConnsRun does stops t a acts b → ConnsRun does stops t b more e → ConnsRun does stops t a (acts ++ more) e
  run_then [] more a b e is run = subst (λ (x : ConnsSeen H L). ConnsRun does stops t x more e) is run
  run_then (act ∷ acts) more a b e (mid, d, rest) run = (mid, d, run_then acts more mid b e rest run)

  -- ---- transcripts

  -- the acts of a transcript
  pub record Part (first : H) (now : ConnsSeen H L) (text : List ℕ) : Type 0 where
    pub begun : ConnsSeen H L
    pub fresh : AreNewConns first begun
    pub acts : List (ConnsAct L)
    pub run : ConnsRun does stops t begun acts now
    pub writes : Writes now.next acts text

  -- a turn, and that its entries are forgotten
  turn_run : (key steps next : ℕ) (how : Turned) (old mid : Slab (SlotSeen L)) (from made to : Logged H) (x : IsTurned does stops t key steps (Some how) old from mid made)
      → IsForgotten made to
      → ConnsRun does stops t (conns_seen old from next) (conns.Acts key (number_of x.0) x.4.acts ∷ conns.Forgets (log_of made.entries.items) ∷ []) (conns_seen mid to next)
  turn_run key steps next how old mid from made to (s, s', at, updates, turned) (none, handler) = (
    conns_seen mid made next,
    record { slot = s; at = at; number = refl; after = s'; slots = updates; run = turned.run; next = refl },
    (
      conns_seen mid to next,
      record {
        entries = sym (append-nil (log_of made.entries.items)) ∙ ap (λ (x : List LogEntry). log_of made.entries.items ++ x) (sym none);
        handler = handler;
        slots = refl;
        next = refl;
      },
      refl,
    ),
  )

  -- a part, and a turn behind it
  and_turn : (first : H) (key steps next : ℕ) (how : Turned) (old mid : Slab (SlotSeen L)) (from made to : Logged H) (text : List ℕ)
      → IsTurned does stops t key steps (Some how) old from mid made → IsForgotten made to
      → Part first (conns_seen old from next) text → Part first (conns_seen mid to next) (text ++ flat_map told_text (log_of made.entries.items))
  and_turn first key steps next how old mid from made to text x gone b = record {
    begun = b.begun;
    fresh = b.fresh;
    acts = b.acts ++ conns.Acts key (number_of x.0) x.4.acts ∷ conns.Forgets (log_of made.entries.items) ∷ [];
    run = run_then b.acts _ b.begun _ _ b.run (turn_run key steps next how old mid from made to x gone);
    writes = a_turn key (number_of x.0) x.4.acts (log_of made.entries.items) b.writes;
  }

  -- a part, and a last turn behind it
  and_end : (first : H) (key steps next : ℕ) (how : Turned) (old mid new : Slab (SlotSeen L)) (from made to : Logged H) (text line : List ℕ) (gate : L → Gate) (flow : Option Flow)
      → IsTurned does stops t key steps (Some how) old from mid made → IsForgotten made to
      → (leave : _) → EndsTurn t gate key (turns.Over leave) flow mid new line
      → Part first (conns_seen old from next) text → Part first (conns_seen new to next) (text ++ (flat_map told_text (log_of made.entries.items) ++ line))
  and_end first key steps next how old mid new from made to text line gate flow x gone leave (slot, at, updates, is) b =
      let same : slot ≡ x.1 = cc (at, x.3.changed) in
      let number : number_of slot ≡ number_of x.0 = ap number_of same ∙ numbers_stay x.4.acts x.0 x.1 from made x.4.run in
      let m = log_of made.entries.items in
      record {
        begun = b.begun;
        fresh = b.fresh;
        acts = b.acts ++ conns.Acts key (number_of x.0) x.4.acts ∷ conns.Forgets m ∷ conns.Closes key ∷ [];
        run = run_then b.acts _ b.begun _ _ b.run
            (run_then (conns.Acts key (number_of x.0) x.4.acts ∷ conns.Forgets m ∷ []) (conns.Closes key ∷ []) _ _ _ (turn_run key steps next how old mid from made to x gone)
            (conns_seen new to next, record { slots = updates; logged = refl; next = refl }, refl));
        writes = subst (λ (y : List ℕ). Writes {L = L} next (b.acts ++ conns.Acts key (number_of x.0) x.4.acts ∷ conns.Forgets m ∷ conns.Closes key ∷ []) (text ++ (flat_map told_text m ++ y)))
            (ap (λ (n : ℕ). end_text n leave) (sym number) ∙ sym is)
            (a_last_turn key (number_of x.0) x.4.acts m leave b.writes);
      }

  -- a part, and what becomes of replies behind it
  and_steered : (first : H) (key next : ℕ) (gate : L → Gate) (flow : Option Flow) (old new : Slab (SlotSeen L)) (to : Logged H) (text : List ℕ)
      → IsSteered t gate flow key old new → Part first (conns_seen old to next) text → Part first (conns_seen new to next) text
  and_steered first key next gate None old new to text is b = subst (λ (x : Slab (SlotSeen L)). Part first (conns_seen x to next) text) (sym is) b
  and_steered first key next gate (Some flow) old new to text (s, here, (s1, s2, at, updates, moves, is)) b = record {
    begun = b.begun;
    fresh = b.fresh;
    acts = b.acts ++ conns.Acts key (number_of s1) (SetsGate ∷ []) ∷ [];
    run = run_then b.acts _ b.begun _ _ b.run (
      conns_seen new to next,
      record { slot = s1; at = at; number = refl; after = s2; slots = updates; run = (s2, to, (moves, refl), (refl, refl)); next = refl },
      refl,
    );
    writes = a_gate key (number_of s1) b.writes;
  }

  -- a part, and a turn that goes on
  and_on : (first : H) (key steps next : ℕ) (how : Turned) (old mid new : Slab (SlotSeen L)) (from made to : Logged H) (text line : List ℕ) (gate : L → Gate) (flow : Option Flow)
      → IsTurned does stops t key steps (Some how) old from mid made → IsForgotten made to
      → IsSteered t gate flow key mid new → line ≡ []
      → Part first (conns_seen old from next) text → Part first (conns_seen new to next) (text ++ (flat_map told_text (log_of made.entries.items) ++ line))
  and_on first key steps next how old mid new from made to text line gate flow x gone steered none b =
      subst (λ (y : List ℕ). Part first (conns_seen new to next) (text ++ y))
      (sym (append-nil (flat_map told_text (log_of made.entries.items))) ∙ ap (λ (y : List ℕ). flat_map told_text (log_of made.entries.items) ++ y) (sym none))
      (and_steered first key next gate flow mid new to _ steered (and_turn first key steps next how old mid from made to text x gone b))

  and_took : (first : H) (how : Turned) (key next : ℕ) (gate : L → Gate) (old new : Slab (SlotSeen L)) (from to : Logged H) (rules after : List RuleView) (text told : List ℕ)
      → IsTurnTaken does stops t gate key how old from rules new to after told
      → Part first (conns_seen old from next) text → Part first (conns_seen new to next) (text ++ told)
  and_took first (turns.Over leave) key next gate old new from to rules after text told x b =
      subst (λ (y : List ℕ). Part first (conns_seen new to next) (text ++ y)) (sym x.text)
      (and_end first key x.steps next (turns.Over leave) old x.mid new from x.made to text x.line gate (last_flow None rules (log_of x.made.entries.items)) x.turned x.forgotten leave x.ends b)
  and_took first turns.Again key next gate old new from to rules after text told x b =
      subst (λ (y : List ℕ). Part first (conns_seen new to next) (text ++ y)) (sym x.text)
      (and_on first key x.steps next turns.Again old x.mid new from x.made to text x.line gate _ x.turned x.forgotten x.ends.0 x.ends.1 b)
  and_took first turns.Waits key next gate old new from to rules after text told x b =
      subst (λ (y : List ℕ). Part first (conns_seen new to next) (text ++ y)) (sym x.text)
      (and_on first key x.steps next turns.Waits old x.mid new from x.made to text x.line gate _ x.turned x.forgotten x.ends.0 x.ends.1 b)

  one_more : (n : ℕ) → suc n ≡ n + 1
  one_more n = grind arith

  pub transcript_of : (gate : L → Gate) {first : H} {script : List RuleView} {ended : ℕ} {slots : Slab (SlotSeen L)} {logged : Logged H} {next : ℕ} {rules : List RuleView} {text : List ℕ}
      → Serves does stops t gate first script ended slots logged next rules text → Part first (conns_seen slots logged next) text
  transcript_of gate (begun {slots} {logged} free empty handler) = record {
    begun = conns_seen slots logged 1;
    fresh = record { slots = free; handler = handler; empty = empty; next = refl };
    acts = [];
    run = refl;
    writes = nothing;
  }
  transcript_of gate (opened {ended} {next} {old} {new} {logged} key link before is_open free updates) =
      let b = transcript_of gate before in record {
        begun = b.begun;
        fresh = b.fresh;
        acts = b.acts ++ conns.Opens key link ∷ [];
        run = run_then b.acts _ b.begun _ _ b.run
            (conns_seen new logged (suc next), record { free = free; slots = updates; logged = refl; next = one_more next }, refl);
        writes = a_new_one key link b.writes;
      }
  transcript_of gate (took {ended} {next} {old} {new} {from} {to} {rules} {after} {text} {told} key how before turn) =
      and_took _ how key next gate old new from to rules after text told turn (transcript_of gate before)
