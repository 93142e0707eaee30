-- What holds of servers, whoever asks them: deed after deed.
use Rattle.std.proofs.Common.{◌≡◌, ℕ, ◌<◌, Bool, true, false, List, [], ◌∷◌, ◌++◌, length, drop, ◌≤◌, refl, sym, ◌∙◌, ap, subst, append_assoc, arith, Some, ◌⊎◌, inl, inr}
use Rattle.std.specs.Prelude.{◌==◌, if◌then◌else◌, remove, slice_get}
use Rattle.std.proofs.Math.Seq.{drop-append_seam, take-length}
use Rattle.std.proofs.lemmas.List.{append-nil}
use Rattle.std.proofs.lemmas.Option.{same_Some}
use Rattle.bson_elem.specs.{IsBytes}
use Rattle.bson_elem.proofs.Lemmas.{IsBytes-drop}
use Rattle.wire_msg.specs.{AreSpelled, IsBad, IsOpen, Message, SpellsMsg, Split}
use Rattle.wire_msg.specs.Standing.{in_header}
use Rattle.wire_msg.specs.declared.fault.MsgFault.{MsgFault}
use Rattle.wire_msg.proofs.Lemmas.{bad_ends, one_split, open_ends, spelled-append}
use Rattle.wire_stream.specs.{StandsAt}
use Rattle.wire_stream.specs.declared.reader_state.ReaderState.{ReaderState}
use Rattle.wire_stream.specs.declared.reader_state.ReaderState.TheVariants.{Need, Ready, Bad}
use Rattle.wire_peer.specs.{Does, LogEntry, ServerView, Stops, asked_by, closed_for, entered}
use Rattle.wire_peer.specs.Servers as server_steps
use Rattle.wire_peer.specs.declared.server_state.ServerState.{ServerState}
use Rattle.wire_peer.specs.declared.server_state.ServerState.TheVariants as servers
use Rattle.wire_model.specs.Hostile.{entries_of}
use Rattle.wire_model.proofs.Lists.{get-push_new, get-push_old, same_or_not}
use Rattle.wire_model.proofs.ConnCalls.{is_elsewhere, is_here}
use Rattle.wire_model.proofs.Places.{length-push}
use Rattle.wire_model.proofs.Wires.{same_request}
use Rattle.wire_model.specs.Owners.{Answers, EndsUp, Made, SendsDown, ServerAct, ServerDoes, ServerEnds, ServersDo, TakesUp, bytes_taken_up, first_servers_of, server_at, server_set, taken_up_by}
use Rattle.wire_model.specs.Deeds.{AtClient, AtServer, Deed, ServersRun, server_acts_at}
use Rattle.wire_model.specs.Strangers.{OwnEntries}
use Rattle.wire_model.proofs.Asking.{WasAsked, asking, fed_connection}
use Rattle.wire_model.proofs.Fits.{server_set-other, server_set-same}
use Rattle.wire_model.proofs.Numbers.{Each}
use Rattle.wire_model.proofs.Once.{Along, Distinct, NotIn, along_at, along_last, along_map, along_remove, differs, distinct_last, distinct_remove, each_at, each_last, each_map, each_remove, each_two, once_there}
use Rattle.wire_model.proofs.Starts.{first_is}

-- ---- the entries of a connection

pub entries_push : (c : ℕ) (log : List LogEntry) (en : LogEntry) → en.connection ≡ c
    → entries_of c (log ++ en ∷ []) ≡ entries_of c log ++ en ∷ []
entries_push c [] en is = ap (λ b. if b then en ∷ [] else []) (is_here c en.connection is)
entries_push c (x ∷ log) en is = by (x.connection == c) (entries_push c log en is)
  where
    by : (b : Bool) → entries_of c (log ++ en ∷ []) ≡ entries_of c log ++ en ∷ []
        → (if b then x ∷ entries_of c (log ++ en ∷ []) else entries_of c (log ++ en ∷ []))
        ≡ (if b then x ∷ entries_of c log else entries_of c log) ++ en ∷ []
    by true e = ap (λ z. x ∷ z) e
    by false e = e

pub entries_skip : (c : ℕ) (log : List LogEntry) (en : LogEntry) → (en.connection ≡ c → ⊥)
    → entries_of c (log ++ en ∷ []) ≡ entries_of c log
entries_skip c [] en n = ap (λ b. if b then en ∷ [] else []) (is_elsewhere c en.connection n)
entries_skip c (x ∷ log) en n =
    ap (λ z. if x.connection == c then x ∷ z else z) (entries_skip c log en n)

-- ---- what is kept

abbrev Spells : List Message → ℕ → List ℕ → Type 0
Spells ms n bytes = (m : Message) × (slice_get ms n ≡ Some m) × SpellsMsg m bytes

abbrev Answers_ : List Message → ℕ → LogEntry → Type 0
Answers_ ms n en = (m : Message) × (slice_get ms n ≡ Some m) × (en.payload ≡ m.content)

-- what the server of connection c took are these messages and a rest
record Took (limit : ℕ) (taken : List ℕ) (messages : List Message) (rest : List ℕ) : Type 0 where
  joined : List ℕ
  spelled : AreSpelled limit messages joined
  parts : taken ≡ joined ++ rest
  stands : IsOpen limit rest ⊎ ((f : MsgFault) × IsBad limit rest f)

-- the messages that wait, and those that have entries, are apart
record Apart (messages : List Message) (waiting indexes : List ℕ) : Type 0 where
  low : Each (λ n. n < length messages) indexes
  low_waiting : Each (λ n. n < length messages) waiting
  once : Distinct indexes
  once_waiting : Distinct waiting
  apart : Each (λ n. NotIn n indexes) waiting

-- how the server of the connection fits these
record Stands (limit : ℕ) (s : ServerView) (messages : List Message) (rest : List ℕ)
    (waiting : List ℕ) : Type 0 where
  limit_is : s.limit ≡ limit
  held : s.state ≡ servers.Open → s.held ≡ rest
  waits : Along (Spells messages) waiting s.waiting

record Keeps {H : Type 0} (limit c : ℕ) (ss : ServerEnds H) (taken : List ℕ) : Type 0 where
  conns : (d : ℕ) (s : ServerView) → server_at ss.servers d ≡ Some s → s.connection ≡ d
  messages : List Message
  rest : List ℕ
  took : Took limit taken messages rest
  waiting : List ℕ
  indexes : List ℕ
  stands : (s : ServerView) → server_at ss.servers c ≡ Some s
      → Stands limit s messages rest waiting
  are : Along (Answers_ messages) indexes (entries_of c ss.log)
  apart : Apart messages waiting indexes

-- ---- bytes are taken

module _ (limit : ℕ) (taken : List ℕ) (messages : List Message) (rest : List ℕ)
    (waiting indexes : List ℕ) (t : Took limit taken messages rest)
    (a : Apart messages waiting indexes) where
  took_rest : (bytes : List ℕ) → IsOpen limit (rest ++ bytes)
      ⊎ ((f : MsgFault) × IsBad limit (rest ++ bytes) f)
      → Took limit (taken ++ bytes) messages (rest ++ bytes)
  took_rest bytes stands = record {
    joined = t.joined;
    spelled = t.spelled;
    parts = ap (λ z. z ++ bytes) t.parts ∙ append_assoc t.joined rest bytes;
    stands = stands;
  }

  took_whole : (bytes : List ℕ) (m : Message) → SpellsMsg m (rest ++ bytes)
      → length (rest ++ bytes) ≤ limit
      → Took limit (taken ++ bytes) (messages ++ m ∷ []) []
  took_whole bytes m s le = record {
    joined = t.joined ++ (rest ++ bytes);
    spelled = spelled-append limit messages (m ∷ []) t.joined (rest ++ bytes) t.spelled
        (rest ++ bytes, [], (s, le), refl, sym (append-nil (rest ++ bytes)));
    parts = ap (λ z. z ++ bytes) t.parts ∙ append_assoc t.joined rest bytes
        ∙ sym (append-nil (t.joined ++ (rest ++ bytes)));
    stands = inl (in_header (omega arith));
  }

  one_message_more : (m : Message)
      → Apart (messages ++ m ∷ []) (waiting ++ length messages ∷ []) indexes
  one_message_more m = record {
    low = each_map (λ n. n < length messages) (λ n. n < length (messages ++ m ∷ [])) indexes
        (λ n lt. more n lt) a.low;
    low_waiting = each_last (λ n. n < length (messages ++ m ∷ [])) waiting (length messages)
        (each_map (λ n. n < length messages) (λ n. n < length (messages ++ m ∷ [])) waiting
        (λ n lt. more n lt) a.low_waiting) (let e = length-push messages m in omega (arith, e));
    once = a.once;
    once_waiting = distinct_last waiting (length messages) a.once_waiting
        (each_map (λ n. n < length messages) (λ n. n ≡ length messages → ⊥) waiting
        (λ n lt e. omega (arith, lt, e)) a.low_waiting);
    apart = each_last (λ n. NotIn n indexes) waiting (length messages) a.apart
        (each_map (λ n. n < length messages) (λ n. n ≡ length messages → ⊥) indexes
        (λ n lt e. omega (arith, lt, e)) a.low);
  }
    where
      more : (n : ℕ) → n < length messages → n < length (messages ++ m ∷ [])
      more n lt = let e = length-push messages m in omega (arith, e, lt)

  -- a request that waited has an entry
  has_entry : (i n : ℕ) → slice_get waiting i ≡ Some n
      → Apart messages (remove waiting i) (indexes ++ n ∷ [])
  has_entry i n at = record {
    low = each_last (λ x. x < length messages) indexes n a.low
        (each_at (λ x. x < length messages) waiting i n a.low_waiting at);
    low_waiting = each_remove (λ x. x < length messages) waiting i a.low_waiting;
    once = distinct_last indexes n a.once (each_at (λ x. NotIn x indexes) waiting i n a.apart at);
    once_waiting = distinct_remove waiting i a.once_waiting;
    apart = each_map (λ x. NotIn x indexes × (n ≡ x → ⊥)) (λ x. NotIn x (indexes ++ n ∷ []))
        (remove waiting i)
        (λ x both. each_last (λ y. y ≡ x → ⊥) indexes n both.0 both.1)
        (each_two (λ x. NotIn x indexes) (λ x. n ≡ x → ⊥) (remove waiting i)
        (each_remove (λ x. NotIn x indexes) waiting i a.apart)
        (differs waiting i n a.once_waiting at));
  }

-- one more message leaves the others at their indexes
still_spells : (ms : List Message) (m : Message) (ns : List ℕ) (bs : List (List ℕ))
    → Along (Spells ms) ns bs → Along (Spells (ms ++ m ∷ [])) ns bs
still_spells ms m ns bs a =
    along_map (Spells ms) (Spells (ms ++ m ∷ [])) ns bs
    (λ n b w. (w.0, get-push_old ms n w.0 m w.1, w.2)) a

still_answers : (ms : List Message) (m : Message) (ns : List ℕ) (log : List LogEntry)
    → Along (Answers_ ms) ns log → Along (Answers_ (ms ++ m ∷ [])) ns log
still_answers ms m ns log a =
    along_map (Answers_ ms) (Answers_ (ms ++ m ∷ [])) ns log
    (λ n en w. (w.0, get-push_old ms n w.0 m w.1, w.2)) a

ended_not_open : (s : ServerState) (cause : _) → closed_for cause s ≡ servers.Open → ⊥
ended_not_open servers.Open cause e = cc
ended_not_open (servers.Closed first) cause e = cc

-- ---- deed after deed

module _ (H : Type 0) (does : Does H) (stops : Stops H) (limit c : ℕ) where
  conns_on : (old mid : ServerEnds H) (d : ℕ) (s s' : ServerView)
      → ((e : ℕ) (o : ServerView) → server_at old.servers e ≡ Some o → o.connection ≡ e)
      → server_at old.servers d ≡ Some s → s'.connection ≡ s.connection
      → mid.servers ≡ server_set old.servers d s' → (e : ℕ) (o : ServerView)
      → server_at mid.servers e ≡ Some o → o.connection ≡ e
  conns_on old mid d s s' conns at same after e o is = elim (same_or_not e d) [
    | inl q ↦
        let here : s' ≡ o = same_Some s' o (sym (server_set-same old.servers d s s' at)
        ∙ ap (server_at (server_set old.servers d s')) (sym q)
        ∙ sym (ap (λ ss. server_at ss e) after) ∙ is) in
        ap (λ (z : ServerView). z.connection) (sym here) ∙ same ∙ conns d s at ∙ sym q
    | inr n ↦ conns e o (sym (ap (λ ss. server_at ss e) after
        ∙ server_set-other old.servers d e s' n) ∙ is)
  ]

  -- the server of the connection is this one now
  here_now : (old mid : ServerEnds H) (s s' : ServerView) (P : ServerView → Type 0)
      → server_at old.servers c ≡ Some s → mid.servers ≡ server_set old.servers c s' → P s'
      → (o : ServerView) → server_at mid.servers c ≡ Some o → P o
  here_now old mid s s' P at after p o is =
      subst P (same_Some s' o (sym (ap (λ ss. server_at ss c) after
      ∙ server_set-same old.servers c s s' at) ∙ is)) p

  -- ---- a deed at another server

  elsewhere : (d : ℕ) (act : ServerAct) (old mid : ServerEnds H) (taken : List ℕ)
      → (d ≡ c → ⊥) → ServersDo does stops d act old mid → Keeps limit c old taken
      → Keeps limit c mid taken
  elsewhere d act old mid taken n a k = by act a.does_
    where
      so : a.s'.connection ≡ a.s.connection → entries_of c mid.log ≡ entries_of c old.log
          → Keeps limit c mid taken
      so conn log = record {
        conns = conns_on old mid d a.s a.s' k.conns a.at conn a.after;
        messages = k.messages;
        rest = k.rest;
        took = k.took;
        waiting = k.waiting;
        indexes = k.indexes;
        stands = λ s at. k.stands s (sym (ap (λ ss. server_at ss c) a.after
            ∙ server_set-other old.servers d c a.s' (λ e. n (sym e))) ∙ at);
        are = subst (Along (Answers_ k.messages) k.indexes) (sym log) k.are;
        apart = k.apart;
      }

      by : (act : ServerAct)
          → ServerDoes does stops act a.s old.log old.handler a.s' mid.log mid.handler
          → Keeps limit c mid taken
      by (TakesUp bytes) x =
          so (ap (λ (z : ServerView). z.connection) x.0.takes.is
          ∙ fed_connection a.s x.0.takes.bytes x.0.takes.found) (ap (entries_of c) x.1)
      by (Answers i result) x =
          elim (asking does stops i result a.s a.s' old.handler mid.handler old.log mid.log x.0) [
            | inl same ↦ so (ap (λ (z : ServerView). z.connection) same.server)
                (ap (entries_of c) same.entries)
            | inr was ↦ so was.connection (ap (entries_of c) was.entry
                ∙ entries_skip c old.log (entered a.s.connection (asked_by was.m) was.answers)
                (λ e. n (sym (k.conns d a.s a.at) ∙ e)))
          ]
      by (SendsDown bytes) x =
          so (ap (λ (z : ServerView). z.connection) x.0.2) (ap (entries_of c) x.1)
      by EndsUp x = so (ap (λ (z : ServerView). z.connection) x.0) (ap (entries_of c) x.1)

  -- ---- a deed at this one

  module _ (old mid : ServerEnds H) (taken : List ℕ) (k : Keeps limit c old taken)
      (s s' : ServerView) (at : server_at old.servers c ≡ Some s)
      (after : mid.servers ≡ server_set old.servers c s') where
    z : Stands limit s k.messages k.rest k.waiting
    z = k.stands s at

    -- nothing is taken, and no entry is made
    rests : s'.connection ≡ s.connection → s'.limit ≡ s.limit → s'.held ≡ s.held
        → s'.waiting ≡ s.waiting → (s'.state ≡ servers.Open → s.state ≡ servers.Open)
        → mid.log ≡ old.log → Keeps limit c mid (taken ++ [])
    rests conn lim held waiting live log = record {
      conns = conns_on old mid c s s' k.conns at conn after;
      messages = k.messages;
      rest = k.rest;
      took = subst (λ b. Took limit b k.messages k.rest) (sym (append-nil taken)) k.took;
      waiting = k.waiting;
      indexes = k.indexes;
      stands = here_now old mid s s' (λ o. Stands limit o k.messages k.rest k.waiting) at after
          (record {
            limit_is = lim ∙ z.limit_is;
            held = λ l. held ∙ z.held (live l);
            waits = subst (Along (Spells k.messages) k.waiting) (sym waiting) z.waits;
          });
      are = subst (Along (Answers_ k.messages) k.indexes) (sym (ap (entries_of c) log)) k.are;
      apart = k.apart;
    }

    -- an entry is made
    enters : (i : ℕ) → WasAsked does stops i s s' old.handler mid.handler old.log mid.log
        → Keeps limit c mid (taken ++ [])
    enters i was = record {
      conns = conns_on old mid c s s' k.conns at was.connection after;
      messages = k.messages;
      rest = k.rest;
      took = subst (λ b. Took limit b k.messages k.rest) (sym (append-nil taken)) k.took;
      waiting = remove k.waiting i;
      indexes = k.indexes ++ w.0 ∷ [];
      stands = here_now old mid s s' (λ o. Stands limit o k.messages k.rest (remove k.waiting i))
          at after (record {
            limit_is = was.limit ∙ z.limit_is;
            held = λ l. was.held ∙ z.held was.was_open;
            waits = subst (Along (Spells k.messages) (remove k.waiting i)) (sym was.waiting)
                (along_remove (Spells k.messages) k.waiting s.waiting i z.waits);
          });
      are = subst (Along (Answers_ k.messages) (k.indexes ++ w.0 ∷ []))
          (sym (ap (entries_of c) was.entry
          ∙ entries_push c old.log (entered s.connection (asked_by was.m) was.answers)
          (k.conns c s at)))
          (along_last (Answers_ k.messages) k.indexes (entries_of c old.log) w.0
          (entered s.connection (asked_by was.m) was.answers) k.are (
            w.2.0,
            w.2.1,
            ap (λ (m : Message). m.content)
                (same_request was.m w.2.0 was.waits.bytes was.waits.spelled w.2.2),
          ));
      apart = has_entry limit taken k.messages k.rest k.waiting k.indexes k.took k.apart i w.0 w.1;
    }
      where
        w : (n : ℕ) × (slice_get k.waiting i ≡ Some n) × Spells k.messages n was.waits.bytes
        w = along_at (Spells k.messages) k.waiting s.waiting i was.waits.bytes z.waits was.waits.at

    -- bytes are taken
    takes : (bytes : List ℕ) → s.state ≡ servers.Open → (b : List ℕ) (found : ReaderState)
        → b ≡ s.held ++ bytes → StandsAt s.limit b found
        → s' ≡ server_steps.holding s b found → mid.log ≡ old.log
        → Keeps limit c mid (taken ++ bytes)
    takes bytes live b found is stands same log = by found at_limit same
      where
        b_is : b ≡ k.rest ++ bytes
        b_is = is ∙ ap (λ x. x ++ bytes) (z.held live)

        at_limit : StandsAt limit (k.rest ++ bytes) found
        at_limit = subst (λ x. StandsAt limit x found) b_is
            (subst (λ n. StandsAt n b found) z.limit_is stands)

        conn : s'.connection ≡ s.connection
        conn = ap (λ (o : ServerView). o.connection) same ∙ fed_connection s b found

        are : Along (Answers_ k.messages) k.indexes (entries_of c mid.log)
        are = subst (Along (Answers_ k.messages) k.indexes) (sym (ap (entries_of c) log)) k.are

        so : Took limit (taken ++ bytes) k.messages (k.rest ++ bytes) → s'.limit ≡ s.limit
            → s'.held ≡ b → s'.waiting ≡ s.waiting → Keeps limit c mid (taken ++ bytes)
        so took lim held waiting = record {
          conns = conns_on old mid c s s' k.conns at conn after;
          messages = k.messages;
          rest = k.rest ++ bytes;
          took = took;
          waiting = k.waiting;
          indexes = k.indexes;
          stands = here_now old mid s s'
              (λ o. Stands limit o k.messages (k.rest ++ bytes) k.waiting) at after (record {
                limit_is = lim ∙ z.limit_is;
                held = λ l. held ∙ b_is;
                waits = subst (Along (Spells k.messages) k.waiting) (sym waiting) z.waits;
              });
          are = are;
          apart = k.apart;
        }

        by : (found : ReaderState) → StandsAt limit (k.rest ++ bytes) found
            → s' ≡ server_steps.holding s b found → Keeps limit c mid (taken ++ bytes)
        by Need o e =
            so (took_rest limit taken k.messages k.rest k.waiting k.indexes k.took k.apart bytes
            (inl o)) (ap (λ (o : ServerView). o.limit) e) (ap (λ (o : ServerView). o.held) e)
            (ap (λ (o : ServerView). o.waiting) e)
        by (Bad f) bad e =
            so (took_rest limit taken k.messages k.rest k.waiting k.indexes k.took k.apart bytes
            (inr (f, bad))) (ap (λ (o : ServerView). o.limit) e)
            (ap (λ (o : ServerView). o.held) e) (ap (λ (o : ServerView). o.waiting) e)
        by Ready (le, (m, spells)) e = record {
          conns = conns_on old mid c s s' k.conns at conn after;
          messages = k.messages ++ m ∷ [];
          rest = [];
          took = took_whole limit taken k.messages k.rest k.waiting k.indexes k.took k.apart bytes m
              spells le;
          waiting = k.waiting ++ length k.messages ∷ [];
          indexes = k.indexes;
          stands = here_now old mid s s' (λ o. Stands limit o (k.messages ++ m ∷ []) []
              (k.waiting ++ length k.messages ∷ [])) at after (record {
                limit_is = ap (λ (o : ServerView). o.limit) e ∙ z.limit_is;
                held = λ l. ap (λ (o : ServerView). o.held) e;
                waits = subst (Along (Spells (k.messages ++ m ∷ []))
                    (k.waiting ++ length k.messages ∷ [])) (sym (ap (λ (o : ServerView). o.waiting)
                    e)) (along_last (Spells (k.messages ++ m ∷ [])) k.waiting s.waiting
                    (length k.messages) b
                    (still_spells k.messages m k.waiting s.waiting z.waits)
                    (m, get-push_new k.messages m, subst (SpellsMsg m) (sym b_is) spells));
              });
          are = still_answers k.messages m k.indexes (entries_of c mid.log) are;
          apart = one_message_more limit taken k.messages k.rest k.waiting k.indexes k.took k.apart
              m;
        }

  here : (act : ServerAct) (old mid : ServerEnds H) (taken : List ℕ)
      → ServersDo does stops c act old mid → Keeps limit c old taken
      → Keeps limit c mid (taken ++ taken_up_by act)
  here (TakesUp bytes) old mid taken a k =
      let t = a.does_.0.takes in
      takes old mid taken k a.s a.s' a.at a.after bytes a.does_.0.is_open t.bytes t.found
      (t.fed.held ∙ ap (λ x. a.s.held ++ x) (take-length bytes)) t.fed.state t.is a.does_.1
  here (Answers i result) old mid taken a k =
      elim (asking does stops i result a.s a.s' old.handler mid.handler old.log mid.log a.does_.0) [
        | inl same ↦
            rests old mid taken k a.s a.s' a.at a.after
            (ap (λ (o : ServerView). o.connection) same.server)
            (ap (λ (o : ServerView). o.limit) same.server)
            (ap (λ (o : ServerView). o.held) same.server)
            (ap (λ (o : ServerView). o.waiting) same.server)
            (λ l. ap (λ (o : ServerView). o.state) (sym same.server) ∙ l) same.entries
        | inr was ↦ enters old mid taken k a.s a.s' a.at a.after i was
      ]
  here (SendsDown bytes) old mid taken a k =
      let e = a.does_.0.2 in
      rests old mid taken k a.s a.s' a.at a.after (ap (λ (o : ServerView). o.connection) e)
      (ap (λ (o : ServerView). o.limit) e) (ap (λ (o : ServerView). o.held) e)
      (ap (λ (o : ServerView). o.waiting) e) (λ l. ap (λ (o : ServerView). o.state) (sym e) ∙ l)
      a.does_.1
  here EndsUp old mid taken a k =
      let e = a.does_.0 in
      rests old mid taken k a.s a.s' a.at a.after (ap (λ (o : ServerView). o.connection) e)
      (ap (λ (o : ServerView). o.limit) e) (ap (λ (o : ServerView). o.held) e)
      (ap (λ (o : ServerView). o.waiting) e)
      (λ l. absurd (ended_not_open a.s.state _ (ap (λ (o : ServerView). o.state) (sym e) ∙ l)))
      a.does_.1

  keeps : (deeds : List Deed) (old new : ServerEnds H) (taken : List ℕ) → Keeps limit c old taken
      → ServersRun does stops old deeds new
      → Keeps limit c new (taken ++ bytes_taken_up (server_acts_at c deeds))
  keeps [] old new taken k same = rw same (subst (Keeps limit c old) (sym (append-nil taken)) k)
  keeps (AtClient d act ∷ deeds) old new taken k run = keeps deeds old new taken k run
  keeps (AtServer d act ∷ deeds) old new taken k (mid, a, run) = elim (same_or_not d c) [
    | inl e ↦
        subst (λ b. Keeps limit c new (taken ++ bytes_taken_up
        (if b then act ∷ server_acts_at c deeds else server_acts_at c deeds)))
        (sym (is_here c d e))
        (subst (Keeps limit c new) (append_assoc taken (taken_up_by act)
        (bytes_taken_up (server_acts_at c deeds)))
        (keeps deeds mid new (taken ++ taken_up_by act)
        (here act old mid taken (subst (λ x. ServersDo does stops x act old mid) e a) k) run))
    | inr n ↦
        subst (λ b. Keeps limit c new (taken ++ bytes_taken_up
        (if b then act ∷ server_acts_at c deeds else server_acts_at c deeds)))
        (sym (is_elsewhere c d n))
        (keeps deeds mid new taken (elsewhere d act old mid taken n a k) run)
  ]

  -- ---- from the first deed on

  splits : (taken : List ℕ) (messages : List Message) (rest : List ℕ) → IsBytes taken
      → Took limit taken messages rest → Split limit taken messages rest
  splits taken messages rest are t =
      subst (λ x. Split limit x messages rest) (sym t.parts) (by t.stands)
    where
      behind : IsBytes rest
      behind = subst IsBytes (ap (drop (length t.joined)) t.parts
          ∙ drop-append_seam t.joined rest) (IsBytes-drop (length t.joined) taken are)

      by : IsOpen limit rest ⊎ ((f : MsgFault) × IsBad limit rest f)
          → Split limit (t.joined ++ rest) messages rest
      by (inl o) = open_ends limit messages t.joined rest t.spelled o
      by (inr bad) = bad_ends limit messages t.joined rest bad.0 behind t.spelled bad.1

  pub own_entries : (k : ℕ) (first : H) (made : ℕ → Made) (deeds : List Deed)
      (new : ServerEnds H)
      → ServersRun does stops (first_servers_of limit made k first) deeds new
      → IsBytes (bytes_taken_up (server_acts_at c deeds))
      → OwnEntries limit c (bytes_taken_up (server_acts_at c deeds)) new.log
  own_entries k first made deeds new run are = record {
    messages = r.messages;
    rest = r.rest;
    split = split;
    only = λ others after s. one_split limit taken r.messages others r.rest after are split s;
    indexes = r.indexes;
    are = λ i en at.
        let w = along_at (Answers_ r.messages) r.indexes (entries_of c new.log) i en r.are at in
        (w.0, w.2.0, w.1, w.2.1, w.2.2);
    once = λ i j n at at'. once_there r.indexes i j n r.apart.once at at';
  }
    where
      taken : List ℕ
      taken = bytes_taken_up (server_acts_at c deeds)

      start : Keeps limit c (first_servers_of limit made k first) []
      start = record {
        conns = λ d s at. ap (λ (o : ServerView). o.connection)
            (first_is H does stops limit made k d s at);
        messages = [];
        rest = [];
        took = record {
          joined = [];
          spelled = refl;
          parts = refl;
          stands = inl (in_header (omega arith));
        };
        waiting = [];
        indexes = [];
        stands = λ s at. let e = first_is H does stops limit made k c s at in record {
          limit_is = ap (λ (o : ServerView). o.limit) e;
          held = λ l. ap (λ (o : ServerView). o.held) e;
          waits = subst (Along (Spells []) []) (sym (ap (λ (o : ServerView). o.waiting) e)) tt;
        };
        are = tt;
        apart = record { low = tt; low_waiting = tt; once = tt; once_waiting = tt; apart = tt };
      }

      r : Keeps limit c new taken
      r = keeps deeds (first_servers_of limit made k first) new [] start run

      split : Split limit taken r.messages r.rest
      split = splits taken r.messages r.rest are r.took
