-- How serving goes on from message to message, and what it says at its end.
use Rattle.std.proofs.Common.{◌≡◌, ◌≢◌, ℕ, ◌+◌, ◌<◌, ◌≤◌, ◌⊎◌, inl, inr, List, [], ◌∷◌, ◌++◌, length, None, Result, Ok, Err, refl, ap, sym, subst, ◌∙◌, arith, append_assoc, append-nil, length-append}
use Rattle.std.specs.Io.KnownBytes.{Appends, Keeps}
use Rattle.std.proofs.KnownBytes.{Appends-nil, Appends-trans, Appends-kept}
use Rattle.wire_msg.specs.{AreSpelled, IsWhole, Message, SpellsMsg}
use Rattle.wire_msg.proofs.Lemmas.{least_length, spelled-append, spelled_alone, whole_read}
use Rattle.wire_stream.specs.{AddsTurns, Rose, Turn}
use Rattle.wire_stream.proofs.Lemmas.{AddsTurns-nil, AddsTurns-trans}
use Rattle.wire_peer.specs.{Does, LogEntry, LogStep, RunOf, Stops, asked_by, written}
use Rattle.wire_peer.proofs.Lemmas.{run_push}
use Rattle.wire_end.specs.Answering.{AnswersAs, CountsLater, GotEntry}
use Rattle.wire_end.specs.NextRequests.{HasGoodHeader}
use Rattle.wire_end.specs.Turns.{AreBetween}
use Rattle.wire_end.specs.Serving.{AllSent, AreAnswered, AreInTurn, AreOf, EndsAs, LastSent, Seen, Served, WantedMemory, id_behind, last_id, replies_to, requests_of, serve_out}
use Rattle.wire_end.specs.declared.serving.ServeEnd.{ServeEnd}
use Rattle.wire_end.specs.declared.serving.ServeEnd.TheVariants as end
use Rattle.wire_end.proofs.InTurn.{between_in_turn, in_turn_append, in_turn_more}
use Rattle.wire_end.proofs.SplitFronts.{first_of_split}

pub rose_from : (o a f : ℕ) → a ≡ o → Rose a f → Rose o f
rose_from o a f e r = subst (λ n. Rose n f) e r

of_push : (c : ℕ) (es : List LogEntry) (e : LogEntry) → AreOf c es → e.connection ≡ c → AreOf c (es ++ e ∷ [])
of_push c [] e a is = (is, tt)
of_push c (x ∷ es) e a is = (a.0, of_push c es e a.1 is)

answered_push : (es : List LogEntry) (e : LogEntry) → AreAnswered es → e.answers ≢ None → AreAnswered (es ++ e ∷ [])
answered_push [] e a some = (some, tt)
answered_push (x ∷ es) e a some = (a.0, answered_push es e a.1 some)

requests_push : (ms : List Message) (m : Message) → requests_of (ms ++ m ∷ []) ≡ requests_of ms ++ asked_by m ∷ []
requests_push [] m = refl
requests_push (n ∷ ms) m = ap (λ q. asked_by n ∷ q) (requests_push ms m)

-- a message and what stands behind it begin with a good header
whole_header : (limit : ℕ) (m : Message) (front piece : List ℕ) → SpellsMsg m front → length front ≤ limit → HasGoodHeader limit (front ++ piece)
whole_header limit m front piece spells within =
    let whole : IsWhole limit (front ++ piece) m piece = record { front = front; parts = refl; spelled = spells; within = within } in
    let read = whole_read limit (front ++ piece) piece m whole in
    let least = least_length m front spells in
    (omega (arith, least, length-append front piece), read.good)

module _ {H : Type 0} (does : Does H) (stops : Stops H) where
  requests_run : (from h to : H) (ms : List Message) (es : List LogEntry) (m : Message) (e : LogEntry) → RunOf does stops from (requests_of ms) es h
      → e.payload ≡ m.content → LogStep does stops h (asked_by m) e.answers to → RunOf does stops from (requests_of (ms ++ m ∷ [])) (es ++ e ∷ []) to
  requests_run from h to ms es m e run payload step =
      subst (λ q. RunOf does stops from q (es ++ e ∷ []) to) (sym (requests_push ms m)) (run_push does stops from h to (requests_of ms) es (asked_by m) e run payload step)

  out_push : (from h : H) (id : ℕ) (ms : List Message) (es : List LogEntry) (m : Message) (e : LogEntry) → RunOf does stops from (requests_of ms) es h
      → serve_out id (ms ++ m ∷ []) (es ++ e ∷ []) ≡ serve_out id ms es ++ written (replies_to (last_id id ms es) m e.answers)
  out_push from h id [] [] m e run = append-nil _
  out_push from h id [] (x ∷ es) m e run = absurd run
  out_push from h id (n ∷ ms) [] m e run = absurd run
  out_push from h id (n ∷ ms) (x ∷ es) m e run =
      ap (λ q. written (replies_to id n x.answers) ++ q) (out_push run.0 h (id_behind id n x.answers) ms es m e run.3) ∙ sym (append_assoc (written (replies_to id n x.answers)) _ _)

  id_push : (from h : H) (id : ℕ) (ms : List Message) (es : List LogEntry) (m : Message) (e : LogEntry) → RunOf does stops from (requests_of ms) es h
      → last_id id (ms ++ m ∷ []) (es ++ e ∷ []) ≡ id_behind (last_id id ms es) m e.answers
  id_push from h id [] [] m e run = refl
  id_push from h id [] (x ∷ es) m e run = absurd run
  id_push from h id (n ∷ ms) [] m e run = absurd run
  id_push from h id (n ∷ ms) (x ∷ es) m e run = id_push run.0 h (id_behind id n x.answers) ms es m e run.3

  -- Between two messages: those that came were answered, all their replies were sent, and the bytes behind them are held.
  pub record Progress (connection limit : ℕ) (old new : Seen H) (count id : ℕ) (held : List ℕ) : Type 0 where
    pub ms : List Message
    pub made : List LogEntry
    pub joined : List ℕ
    pub gave : List ℕ
    pub received : Appends old.received new.received (joined ++ held)
    pub put_out : Appends old.sent new.sent gave
    pub logged : new.log ≡ old.log ++ made
    pub spelled : AreSpelled limit ms joined
    pub run : RunOf does stops old.handler (requests_of ms) made new.handler
    pub connected : AreOf connection made
    pub counted : length made ≡ count
    pub next : id ≡ last_id 1 ms made
    pub sent : gave ≡ serve_out 1 ms made
    pub answered : AreAnswered made
    pub turns : (ts : List Turn) × AddsTurns old.turns new.turns ts × AreInTurn limit old.received old.sent ms made ts

  pub progress_start : (c limit : ℕ) (old : Seen H) → Progress c limit old old 0 1 []
  progress_start c limit old = record {
    ms = [];
    made = [];
    joined = [];
    gave = [];
    received = Appends-nil old.received;
    put_out = Appends-nil old.sent;
    logged = sym (append-nil old.log);
    spelled = refl;
    run = refl;
    connected = tt;
    counted = refl;
    next = refl;
    sent = refl;
    answered = tt;
    turns = ([], AddsTurns-nil old.turns, tt);
  }

  -- more bytes came
  pub progress_came : (c limit n : ℕ) (old a b : Seen H) (k id : ℕ) (held held' more : List ℕ) → Progress c limit old a k id held
      → Appends a.received b.received more → held' ≡ held ++ more → Keeps a.sent b.sent → n ≡ limit
      → ((ts : List Turn) × AddsTurns a.turns b.turns ts × AreBetween n a.received a.sent held ts) → b.log ≡ a.log → b.handler ≡ a.handler → Progress c limit old b k id held'
  progress_came c limit n old a b k id held held' more p r e keeps same turns log handler = record {
    ms = p.ms;
    made = p.made;
    joined = p.joined;
    gave = p.gave;
    received = subst (Appends old.received b.received) (append_assoc p.joined held more ∙ ap (λ q. p.joined ++ q) (sym e)) (Appends-trans old.received a.received b.received (p.joined ++ held) more p.received r);
    put_out = Appends-kept old.sent a.sent b.sent p.gave p.put_out keeps;
    logged = log ∙ p.logged;
    spelled = p.spelled;
    run = rw handler p.run;
    connected = p.connected;
    counted = p.counted;
    next = p.next;
    sent = p.sent;
    answered = p.answered;
    turns = (
      p.turns.0 ++ turns.0,
      AddsTurns-trans old.turns a.turns b.turns p.turns.0 turns.0 p.turns.1 turns.1,
      in_turn_append limit old.received old.sent p.ms p.made p.turns.0 turns.0 p.turns.2
          (between_in_turn limit old.received a.received old.sent a.sent p.ms p.made p.joined held p.gave turns.0 p.received p.put_out p.spelled (record { sent = p.sent; answered = p.answered })
          (subst (λ (x : ℕ). AreBetween x a.received a.sent held turns.0) same turns.2)),
    );
  }

  -- no turn came
  turns_stay : (limit : ℕ) (old a b : Seen H) (ms : List Message) (made : List LogEntry) → ((ts : List Turn) × AddsTurns old.turns a.turns ts × AreInTurn limit old.received old.sent ms made ts) → AddsTurns a.turns b.turns []
      → (ts : List Turn) × AddsTurns old.turns b.turns ts × AreInTurn limit old.received old.sent ms made ts
  turns_stay limit old a b ms made t none =
      (t.0, subst (AddsTurns old.turns b.turns) (append-nil t.0) (AddsTurns-trans old.turns a.turns b.turns t.0 [] t.1 none), t.2)

  turns_more : (limit : ℕ) (old a b : Seen H) (ms : List Message) (made : List LogEntry) (m : Message) (e : LogEntry) → ((ts : List Turn) × AddsTurns old.turns a.turns ts × AreInTurn limit old.received old.sent ms made ts) → AddsTurns a.turns b.turns []
      → (ts : List Turn) × AddsTurns old.turns b.turns ts × AreInTurn limit old.received old.sent (ms ++ m ∷ []) (made ++ e ∷ []) ts
  turns_more limit old a b ms made m e t none =
      let u = turns_stay limit old a b ms made t none in (u.0, u.1, in_turn_more limit old.received old.sent ms made m e u.0 u.2)

  -- the bytes of messages, and of one more
  received_one : (old new : _) (joined front piece : List ℕ) → Appends old new (joined ++ (front ++ piece)) → Appends old new ((joined ++ front) ++ piece)
  received_one old new joined front piece r = subst (Appends old new) (sym (append_assoc joined front piece)) r

  -- a message was answered, and all its replies were sent
  pub progress_sent : (c limit : ℕ) (old a b : Seen H) (k id id' : ℕ) (m : Message) (front piece : List ℕ) → Progress c limit old a k id (front ++ piece)
      → SpellsMsg m front → length front ≤ limit → Keeps a.received b.received → AddsTurns a.turns b.turns [] → AnswersAs does stops c limit m (Ok tt) id id' a b → Progress c limit old b (k + 1) id' piece
  progress_sent c limit old a b k id id' m front piece p spells within keeps none x =
      let g = x.1 in
      record {
        ms = p.ms ++ m ∷ [];
        made = p.made ++ g.entry ∷ [];
        joined = p.joined ++ front;
        gave = p.gave ++ written (replies_to id m g.entry.answers);
        received = received_one _ _ p.joined front piece (Appends-kept old.received a.received b.received _ p.received keeps);
        put_out = Appends-trans old.sent a.sent b.sent p.gave _ p.put_out x.3;
        logged = g.logged ∙ ap (λ q. q ++ g.entry ∷ []) p.logged ∙ append_assoc old.log p.made (g.entry ∷ []);
        spelled = spelled-append limit p.ms (m ∷ []) p.joined front p.spelled (spelled_alone limit m front spells within);
        run = requests_run old.handler a.handler b.handler p.ms p.made m g.entry p.run g.payload g.step;
        connected = of_push c p.made g.entry p.connected g.connected;
        counted = length-append p.made (g.entry ∷ []) ∙ ap (λ q. q + 1) p.counted;
        next = x.4 ∙ ap (λ q. id_behind q m g.entry.answers) p.next ∙ sym (id_push old.handler a.handler 1 p.ms p.made m g.entry p.run);
        sent = ap (λ q. q ++ written (replies_to id m g.entry.answers)) p.sent ∙ ap (λ q. serve_out 1 p.ms p.made ++ written (replies_to q m g.entry.answers)) p.next
            ∙ sym (out_push old.handler a.handler 1 p.ms p.made m g.entry p.run);
        answered = answered_push p.made g.entry p.answered x.2;
        turns = turns_more limit old a b p.ms p.made m g.entry p.turns none;
      }

  -- ---- the ends between two messages

  -- all messages that came were answered
  abbrev pub all_sent : (c limit : ℕ) (old new : Seen H) (k id : ℕ) (rest : List ℕ) → (p : Progress c limit old new k id rest) → AllSent p.ms p.made p.gave
  all_sent c limit old new k id rest p = record { sent = p.sent; answered = p.answered }

  pub served_by : (c limit budget : ℕ) (e : ServeEnd) (old new : Seen H) (k id : ℕ) (rest : List ℕ) → (p : Progress c limit old new k id rest) → k ≤ budget
      → EndsAs does stops limit budget e old new p.ms p.made (p.joined ++ rest) p.gave rest → Served does stops c limit budget e old new
  served_by c limit budget e old new k id rest p le ends = record {
    ms = p.ms;
    made = p.made;
    joined = p.joined;
    rest = rest;
    gave = p.gave;
    received = p.received;
    sent = p.put_out;
    logged = p.logged;
    spelled = p.spelled;
    first = λ all left s. first_of_split limit p.ms all p.joined rest left p.spelled s;
    run = p.run;
    connected = p.connected;
    within = (let q = p.counted in omega arith);
    in_turn = p.turns;
    ends = ends;
  }

  pub ends_budget : (c limit budget : ℕ) (old new : Seen H) (k id : ℕ) (rest : List ℕ) → Progress c limit old new k id rest
      → k ≡ budget → new.failures ≡ old.failures → new.ends ≡ old.ends → Served does stops c limit budget end.Budget old new
  ends_budget c limit budget old new k id rest p e works told =
      served_by c limit budget end.Budget old new k id rest p (omega arith) (works, told, p.counted ∙ e, all_sent c limit old new k id rest p)

  -- memory was wanting for the next message, of which a good header came
  pub ends_memory : (c limit budget : ℕ) (old new : Seen H) (k id : ℕ) (rest : List ℕ) → Progress c limit old new k id rest
      → k < budget → new.failures ≡ old.failures → new.ends ≡ old.ends → HasGoodHeader limit rest → Served does stops c limit budget end.OutOfMemory old new
  ends_memory c limit budget old new k id rest p lt works told header =
      let count : length p.made < budget = (let n = p.counted in omega arith) in
      served_by c limit budget end.OutOfMemory old new k id rest p (omega arith) (works, told, inl (all_sent c limit old new k id rest p, count, header))

  -- by equal numbers
  pub answers_as : (c c' limit limit' id id0 id' : ℕ) (m : Message) (r : Result (Unit {0}) ServeEnd) (old new : Seen H) → c ≡ c' → limit ≡ limit' → id ≡ id0
      → AnswersAs does stops c limit m r id id' old new → AnswersAs does stops c' limit' m r id0 id' old new
  answers_as c c' limit limit' id id0 id' m r old new same_c same_limit same_id x =
      subst (λ (n : ℕ). AnswersAs does stops n limit' m r id0 id' old new) same_c
      (subst (λ (n : ℕ). AnswersAs does stops c n m r id0 id' old new) same_limit
      (subst (λ (n : ℕ). AnswersAs does stops c limit m r n id' old new) same_id x))

  -- ---- the ends at a message

  -- the last message, its entry, and the part of its replies that went out
  abbrev last_of : (c limit : ℕ) (old a b : Seen H) (k id : ℕ) (m : Message) (rest part : List ℕ) → (p : Progress c limit old a k id rest) → (g : GotEntry does stops c m a b)
      → LastSent does stops old.handler b.handler (p.ms ++ m ∷ []) (p.made ++ g.entry ∷ []) (p.gave ++ part) part
  last_of c limit old a b k id m rest part p g = record {
    early = p.ms;
    message = m;
    past = p.made;
    entry = g.entry;
    mid = a.handler;
    messages = refl;
    entries = refl;
    run = p.run;
    step = g.step;
    sent = ap (λ q. q ++ part) p.sent;
    answered = p.answered;
  }

  served_with : (c limit budget : ℕ) (e : ServeEnd) (old a b : Seen H) (k id : ℕ) (m : Message) (front piece part : List ℕ) → (p : Progress c limit old a k id (front ++ piece))
      → SpellsMsg m front → length front ≤ limit → Keeps a.received b.received → AddsTurns a.turns b.turns [] → k < budget → (g : GotEntry does stops c m a b) → Appends a.sent b.sent part
      → EndsAs does stops limit budget e old b (p.ms ++ m ∷ []) (p.made ++ g.entry ∷ []) ((p.joined ++ front) ++ piece) (p.gave ++ part) piece
      → Served does stops c limit budget e old b
  served_with c limit budget e old a b k id m front piece part p spells within keeps none lt g sent ends =
      let spelled = spelled-append limit p.ms (m ∷ []) p.joined front p.spelled (spelled_alone limit m front spells within) in
      record {
        ms = p.ms ++ m ∷ [];
        made = p.made ++ g.entry ∷ [];
        joined = p.joined ++ front;
        rest = piece;
        gave = p.gave ++ part;
        received = received_one _ _ p.joined front piece (Appends-kept old.received a.received b.received _ p.received keeps);
        sent = Appends-trans old.sent a.sent b.sent p.gave part p.put_out sent;
        logged = g.logged ∙ ap (λ q. q ++ g.entry ∷ []) p.logged ∙ append_assoc old.log p.made (g.entry ∷ []);
        spelled = spelled;
        first = λ all left s. first_of_split limit (p.ms ++ m ∷ []) all (p.joined ++ front) piece left spelled s;
        run = requests_run old.handler a.handler b.handler p.ms p.made m g.entry p.run g.payload g.step;
        connected = of_push c p.made g.entry p.connected g.connected;
        within = (let q = p.counted in let l = length-append p.made (g.entry ∷ []) in omega arith);
        in_turn = turns_more limit old a b p.ms p.made m g.entry p.turns none;
        ends = ends;
      }

  ends_by_answer : (c limit budget : ℕ) (e : ServeEnd) (old a b : Seen H) (k id id' : ℕ) (m : Message) (front piece : List ℕ) → Progress c limit old a k id (front ++ piece)
      → SpellsMsg m front → length front ≤ limit → Keeps a.received b.received → AddsTurns a.turns b.turns [] → k < budget → a.failures ≡ old.failures → b.ends ≡ old.ends
      → a.waits ≡ old.waits → CountsLater (Err e) a.waits b.waits → AnswersAs does stops c limit m (Err e) id id' a b → Served does stops c limit budget e old b
  ends_by_answer c limit budget end.Link old a b k id id' m front piece p spells within keeps none lt works told idle l x =
      served_with c limit budget end.Link old a b k id m front piece x.1.2 p spells within keeps none lt x.1.0 x.1.4 (
        rose_from old.failures a.failures b.failures works x.0,
        told,
        (answered_push p.made x.1.0.entry p.answered x.1.1, inr (x.1.2, x.1.3, last_of c limit old a b k id m (front ++ piece) x.1.2 p x.1.0, rw (sym p.next) x.1.5)),
      )
  ends_by_answer c limit budget end.Later old a b k id id' m front piece p spells within keeps none lt works told idle l x =
      served_with c limit budget end.Later old a b k id m front piece x.1.2 p spells within keeps none lt x.1.0 x.1.4 (
        x.0 ∙ works,
        told,
        rose_from old.waits a.waits b.waits idle l,
        (answered_push p.made x.1.0.entry p.answered x.1.1, inr (x.1.2, x.1.3, last_of c limit old a b k id m (front ++ piece) x.1.2 p x.1.0, rw (sym p.next) x.1.5)),
      )
  ends_by_answer c limit budget end.ReplyTooLarge old a b k id id' m front piece p spells within keeps none lt works told idle l x =
      served_with c limit budget end.ReplyTooLarge old a b k id m front piece [] p spells within keeps none lt x.2 x.1
      (x.0 ∙ works, told, last_of c limit old a b k id m (front ++ piece) [] p x.2, rw (sym p.next) x.3)
  ends_by_answer c limit budget end.HandlerFailed old a b k id id' m front piece p spells within keeps none lt works told idle l x =
      served_with c limit budget end.HandlerFailed old a b k id m front piece [] p spells within keeps none lt x.2 x.1
      (x.0 ∙ works, told, last_of c limit old a b k id m (front ++ piece) [] p x.2, x.3, x.4)
  ends_by_answer c limit budget end.OutOfMemory old a b k id id' m front piece p spells within keeps none lt works told idle l x =
      memory c limit budget old a b k id m front piece p spells within keeps none lt (x.0 ∙ works) told x.1 x.2
    where
      memory : (c limit budget : ℕ) (old a b : Seen H) (k id : ℕ) (m : Message) (front piece : List ℕ) → Progress c limit old a k id (front ++ piece)
          → SpellsMsg m front → length front ≤ limit → Keeps a.received b.received → AddsTurns a.turns b.turns [] → k < budget → b.failures ≡ old.failures → b.ends ≡ old.ends → Appends a.sent b.sent []
          → ((b.handler ≡ a.handler) × (b.log ≡ a.log)) ⊎ ((g : GotEntry does stops c m a b) × WantedMemory stops limit a.handler m (replies_to id m g.entry.answers) g.entry.answers b.handler)
          → Served does stops c limit budget end.OutOfMemory old b
      memory c limit budget old a b k id m front piece p spells within keeps none lt works told sent (inl x) =
          let q : Progress c limit old b k id (front ++ piece) = record {
            ms = p.ms;
            made = p.made;
            joined = p.joined;
            gave = p.gave;
            received = Appends-kept old.received a.received b.received _ p.received keeps;
            put_out = subst (Appends old.sent b.sent) (append-nil p.gave) (Appends-trans old.sent a.sent b.sent p.gave [] p.put_out sent);
            logged = x.1 ∙ p.logged;
            spelled = p.spelled;
            run = rw x.0 p.run;
            connected = p.connected;
            counted = p.counted;
            next = p.next;
            sent = p.sent;
            answered = p.answered;
            turns = turns_stay limit old a b p.ms p.made p.turns none;
          } in
          ends_memory c limit budget old b k id (front ++ piece) q lt works told (whole_header limit m front piece spells within)
      memory c limit budget old a b k id m front piece p spells within keeps none lt works told sent (inr x) =
          served_with c limit budget end.OutOfMemory old a b k id m front piece [] p spells within keeps none lt x.0 sent
          (works, told, inr (last_of c limit old a b k id m (front ++ piece) [] p x.0, rw (sym p.next) x.1))
  ends_by_answer c limit budget end.Ended old a b k id id' m front piece p spells within keeps none lt works told idle l x = absurd x
  ends_by_answer c limit budget end.EndedInside old a b k id id' m front piece p spells within keeps none lt works told idle l x = absurd x
  ends_by_answer c limit budget (end.Fault f) old a b k id id' m front piece p spells within keeps none lt works told idle l x = absurd x
  ends_by_answer c limit budget end.Budget old a b k id id' m front piece p spells within keeps none lt works told idle l x = absurd x

  -- a message was not answered, or not all its replies were sent
  pub ends_answer : (c limit budget : ℕ) (e : ServeEnd) (old a b : Seen H) (k id id' : ℕ) (m : Message) (front piece : List ℕ) → Progress c limit old a k id (front ++ piece)
      → SpellsMsg m front → length front ≤ limit → Keeps a.received b.received → AddsTurns a.turns b.turns [] → k < budget → a.failures ≡ old.failures → b.ends ≡ old.ends
      → a.waits ≡ old.waits → CountsLater (Err e) a.waits b.waits → AnswersAs does stops c limit m (Err e) id id' a b → Served does stops c limit budget e old b
  ends_answer c limit budget e old a b k id id' m front piece p spells within keeps none lt works told idle l x =
      ends_by_answer c limit budget e old a b k id id' m front piece p spells within keeps none lt works told idle l x
