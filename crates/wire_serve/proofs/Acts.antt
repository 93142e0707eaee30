-- What the owner of a server does for the acts at a slot.
use Rattle.std.proofs.Common.{◌≡◌, ℕ, ◌≤◌, Bool, true, false, List, [], ◌∷◌, ◌++◌, length, Result, Ok, Err, ap, refl, sym, subst, ◌∙◌, append_assoc, append-nil}
use Rattle.wire_peer.specs.{AnswerStep, Does, LogEntry, ServerView, Stops, log_of}
use Rattle.wire_peer.specs.declared.log.Logged.{Logged}
use Rattle.wire_peer.specs.declared.server_state.AnswerRefusal.{AnswerRefusal}
use Rattle.wire_peer.specs.declared.server_state.AnswerRefusal.TheVariants as refusals
use Rattle.wire_serve.specs.ServerConnections.{ConnTakes, ConnView, IsReady, PutsOut, ended_by, ended_conn, refused, respelled, state_of, with_server}
use Rattle.wire_serve.specs.Slots.{Answers, Ends, Fails, IsAnswered, Receives, Sends, SetsGate, SlotAct, SlotDoes, SlotRun, SlotSeen, Takes, Tells, Waits}
use Rattle.wire_serve.specs.Serving.{made_by, of_acts, sent_by, taken_by}
use Rattle.wire_serve.specs.declared.cause.ConnState.{ConnState}
use Rattle.wire_serve.specs.declared.cause.ConnState.TheVariants as conn_states
use Rattle.wire_model.specs.{AreContents, ServerAct, ServerEnd, ServerMovesOn, ServerRun, bytes_sent_down, bytes_taken_up}
use Rattle.wire_model.proofs.Lemmas.{log_contents, moves_run, sent_down_on, server_on, taken_up_on}
use Rattle.wire_model.specs.Owners as owners
use Rattle.wire_serve.specs.Owning.{IsFed, IsGiven}
use Rattle.wire_serve.proofs.Fed.{takes, takes_keep}
use Rattle.wire_serve.proofs.Given.{gives, goes, keeps_out, left}
use Rattle.wire_serve.proofs.Made.{Adds, adds_none, adds_then, answer_adds}
use Rattle.wire_serve.proofs.Told.{among_all, answer_behind, contents_behind}
use Rattle.wire_msg.specs.declared.header.TheConstants.{MAX_MESSAGE_LEN}

-- Server connection c: these bytes came and went at it, and these were fed to its server and given by it.
pub record Fits (c : ℕ) (came went fed given : List ℕ) (f : ConnView) : Type 0 where
  pub number : f.server.connection ≡ c
  pub limit : f.server.limit ≡ MAX_MESSAGE_LEN
  pub taken_over : f.server.output ≡ []
  pub one : length f.server.waiting ≤ 1
  pub is_fed : IsFed came fed f
  pub is_given : IsGiven given (went ++ f.output) f

pub same_fits : (c : ℕ) (came went fed given came' went' fed' given' : List ℕ) (f f' : ConnView) → came' ≡ came → went' ≡ went → fed' ≡ fed
    → given' ≡ given → f' ≡ f → Fits c came went fed given f → Fits c came' went' fed' given' f'
same_fits c came went fed given came' went' fed' given' f f' a b d e is p = rw (a, b, d, e, is) p

-- the server of an answering server connection, without what it put out
pub server_after : (queried : Bool) (result : Result ℕ AnswerRefusal) (f new : ConnView) (s : ServerView) → PutsOut queried result (with_server f s) new
    → new.server ≡ record s { output = [] }
server_after false result f new s is = ap (λ (z : ConnView). z.server) is
server_after true (Err refusal) f new s is = ap (λ (z : ConnView). z.server) is
server_after true (Ok n) f new s (respelled reply as_reply is) = ap (λ (z : ConnView). z.server) is
server_after true (Ok n) f new s (refused cause why is) = ap (λ (z : ConnView). z.server) is

-- what an answer keeps of a server, and what the server connection holds
record Answered (s s' : ServerView) : Type 0 where
  number : s'.connection ≡ s.connection
  limit : s'.limit ≡ s.limit
  held : s'.held ≡ s.held

by_same : (s s' : ServerView) → s' ≡ s → Answered s s'
by_same s s' is = rw is (record { number = refl; limit = refl; held = refl })

answered_keeps : {H : Type 0} (does : Does H) (stops : Stops H) (result : Result ℕ AnswerRefusal) (s s' : ServerView) (h h' : H) (log log' : List LogEntry)
    → AnswerStep does stops 0 result s h log s' h' log' → Answered s s'
answered_keeps does stops (Ok n) s s' h h' log log' (opens, count, (m, waits, (r, step, is))) = rw is (record { number = refl; limit = refl; held = refl })
answered_keeps does stops (Err (refusals.NowClosed cause)) s s' h h' log log' (opens, is, found) = rw is (record { number = refl; limit = refl; held = refl })
answered_keeps does stops (Err refusals.Closed) s s' h h' log log' (opens, is, h_is, log_is) = by_same s s' is
answered_keeps does stops (Err refusals.NoSuchRequest) s s' h h' log log' (opens, few, is, h_is, log_is) = by_same s s' is
answered_keeps does stops (Err refusals.OutOfMemory) s s' h h' log log' (opens, few, is, h_is, log_is) = by_same s s' is

-- the part that a server connection gathered stays when it answers
part_after : (queried : Bool) (result : Result ℕ AnswerRefusal) (f new : ConnView) (s : ServerView) → PutsOut queried result (with_server f s) new
    → new.part ≡ f.part
part_after false result f new s is = ap (λ (z : ConnView). z.part) is
part_after true (Err refusal) f new s is = ap (λ (z : ConnView). z.part) is
part_after true (Ok n) f new s (respelled reply as_reply is) = ap (λ (z : ConnView). z.part) is
part_after true (Ok n) f new s (refused cause why is) = ap (λ (z : ConnView). z.part) is

-- the same bytes are gathered and held
same_fed : (came fed : List ℕ) (old new : ConnView) → new.part ≡ old.part → new.server.held ≡ old.server.held → IsFed came fed old → IsFed came fed new
same_fed came fed old new part held d = record {
  came_whole = d.came_whole;
  fed_whole = d.fed_whole;
  requests = d.requests;
  came_is = d.came_is ∙ ap (λ (p : List ℕ). d.came_whole ++ (p ++ old.server.held)) (sym part) ∙ ap (λ (h : List ℕ). d.came_whole ++ (new.part ++ h)) (sym held);
  fed_is = d.fed_is ∙ ap (λ (h : List ℕ). d.fed_whole ++ h) (sym held);
}

-- ---- the end

record Ended (old new : ConnView) : Type 0 where
  acts : List ServerAct
  moves : ServerMovesOn old.server acts new.server
  none_sent : bytes_sent_down acts ≡ []
  none_taken : bytes_taken_up acts ≡ []
  number : new.server.connection ≡ old.server.connection
  limit : new.server.limit ≡ old.server.limit
  taken_over : new.server.output ≡ old.server.output
  waits : new.server.waiting ≡ old.server.waiting
  held : new.server.held ≡ old.server.held
  part : new.part ≡ old.part
  output : new.output ≡ old.output

ends : (state : ConnState) (part : List ℕ) (f : ConnView) → Ended f (ended_by state part f)
ends (conn_states.Closed cause) part f = record {
  acts = [];
  moves = refl;
  none_sent = refl;
  none_taken = refl;
  number = refl;
  limit = refl;
  taken_over = refl;
  waits = refl;
  held = refl;
  part = refl;
  output = refl;
}
ends conn_states.Open [] f = record {
  acts = owners.EndsUp ∷ [];
  moves = (_, refl, refl);
  none_sent = refl;
  none_taken = refl;
  number = refl;
  limit = refl;
  taken_over = refl;
  waits = refl;
  held = refl;
  part = refl;
  output = refl;
}
ends conn_states.Open (b ∷ bytes) f = record {
  acts = [];
  moves = refl;
  none_sent = refl;
  none_taken = refl;
  number = refl;
  limit = refl;
  taken_over = refl;
  waits = refl;
  held = refl;
  part = refl;
  output = refl;
}

-- ---- one act, and then many

module _ {H L : Type 0} (does : Does H) (stops : Stops H) (t : Tells L) (told : List LogEntry) (known : AreContents told) where
  abbrev pub end_of : ServerView → Logged H → ServerEnd H
  end_of s logged = record { server = s; log = told ++ log_of logged.entries.items; handler = logged.handler }

  -- What the owner of a server does meanwhile at a slot of connection c takes bytes, has some sent, and makes entries. The log is theirs, behind the
  -- entries that were told.
  pub record Owned (c : ℕ) (came went fed given took sent : List ℕ) (made : List LogEntry) (old : ConnView) (from : Logged H) (new : ConnView)
      (to : Logged H) : Type 0 where
    pub acts : List ServerAct
    pub run : ServerRun does stops (end_of old.server from) acts (end_of new.server to)
    pub fits : Fits c (came ++ took) (went ++ sent) (fed ++ bytes_taken_up acts) (given ++ bytes_sent_down acts) new
    pub adds : Adds does stops c from.handler made to.handler
    pub logged : log_of to.entries.items ≡ log_of from.entries.items ++ made

  module _ (c : ℕ) (came went fed given : List ℕ) where
    -- nothing is done with the server
    idle : (f f' : ConnView) (from to : Logged H) → f' ≡ f → to ≡ from → Fits c came went fed given f
        → Owned c came went fed given [] [] [] f from f' to
    idle f f' from to is l p = rw (is, l) (record {
      acts = [];
      run = refl;
      fits = same_fits c came went fed given (came ++ []) (went ++ []) (fed ++ []) (given ++ []) f f (append-nil came) (append-nil went)
          (append-nil fed) (append-nil given) refl p;
      adds = adds_none does stops c from.handler from.handler refl;
      logged = sym (append-nil (log_of from.entries.items));
    })

    taken_act : (bytes : List ℕ) (f f' : ConnView) (from to : Logged H) (r : IsReady f) → ConnTakes f bytes f' → to ≡ from
        → Fits c came went fed given f → Owned c came went fed given bytes [] [] f from f' to
    taken_act bytes f f' from to r tk l p =
        let d = takes came fed bytes f f' p.limit r tk p.is_fed in
        let k = takes_keep bytes f f' r tk in
        rw l (record {
          acts = d.acts;
          run = moves_run does stops d.acts f.server f'.server (told ++ log_of from.entries.items) from.handler d.moves;
          fits = record {
            number = k.connection ∙ p.number;
            limit = k.limit ∙ p.limit;
            taken_over = k.server_output ∙ p.taken_over;
            one = k.one;
            is_fed = d.is;
            is_given = subst (λ (g : List ℕ). IsGiven g ((went ++ []) ++ f'.output) f') (sym (ap (λ (x : List ℕ). given ++ x) d.quiet ∙ append-nil given))
                (keeps_out given ((went ++ []) ++ f'.output) f f' r.own
                (subst (λ (o : List ℕ). IsGiven given o f) (sym (ap (λ (x : List ℕ). x ++ f'.output) (append-nil went) ∙ ap (λ (x : List ℕ). went ++ x) k.output)) p.is_given));
          };
          adds = adds_none does stops c from.handler from.handler refl;
          logged = sym (append-nil (log_of from.entries.items));
        })

    sent_act : (bytes rest : List ℕ) (f f' : ConnView) (from to : Logged H) → f.output ≡ bytes ++ rest → f' ≡ record f { output = rest } → to ≡ from
        → Fits c came went fed given f → Owned c came went fed given [] bytes [] f from f' to
    sent_act bytes rest f f' from to first is l p = rw (is, l) (record {
      acts = [];
      run = refl;
      fits = record {
        number = p.number;
        limit = p.limit;
        taken_over = p.taken_over;
        one = p.one;
        is_fed = subst (λ (x : List ℕ). IsFed x (fed ++ []) (record f { output = rest })) (sym (append-nil came))
            (subst (λ (x : List ℕ). IsFed came x (record f { output = rest })) (sym (append-nil fed))
            (same_fed came fed f (record f { output = rest }) refl refl p.is_fed));
        is_given = subst (λ (x : List ℕ). IsGiven x ((went ++ bytes) ++ rest) (record f { output = rest })) (sym (append-nil given))
            (goes given went bytes rest f first p.is_given);
      };
      adds = adds_none does stops c from.handler from.handler refl;
      logged = sym (append-nil (log_of from.entries.items));
    })

    ended_act : (f f' : ConnView) (from to : Logged H) → IsReady f → f' ≡ ended_conn f → to ≡ from → Fits c came went fed given f
        → Owned c came went fed given [] [] [] f from f' to
    ended_act f f' from to r is l p =
        let e = ends (state_of f) f.part f in rw (is, l) (record {
          acts = e.acts;
          run = moves_run does stops e.acts f.server (ended_conn f).server (told ++ log_of from.entries.items) from.handler e.moves;
          fits = same_fits c came went fed given (came ++ []) (went ++ []) (fed ++ bytes_taken_up e.acts) (given ++ bytes_sent_down e.acts) (ended_conn f)
              (ended_conn f) (append-nil came) (append-nil went) (ap (λ (x : List ℕ). fed ++ x) e.none_taken ∙ append-nil fed)
              (ap (λ (x : List ℕ). given ++ x) e.none_sent ∙ append-nil given) refl (record {
                number = e.number ∙ p.number;
                limit = e.limit ∙ p.limit;
                taken_over = e.taken_over ∙ p.taken_over;
                one = subst (λ (w : List (List ℕ)). length w ≤ 1) (sym e.waits) p.one;
                is_fed = same_fed came fed f (ended_conn f) e.part e.held p.is_fed;
                is_given = keeps_out given (went ++ (ended_conn f).output) f (ended_conn f) r.own
                    (subst (λ (o : List ℕ). IsGiven given (went ++ o) f) (sym e.output) p.is_given);
              });
          adds = adds_none does stops c from.handler from.handler refl;
          logged = sym (append-nil (log_of from.entries.items));
        })

    answered_act : (result : Result ℕ AnswerRefusal) (made : List LogEntry) (old new : SlotSeen L) (from to : Logged H)
        → IsAnswered does stops result made old from new to → Fits c came went fed given old.conn
        → Owned c came went fed given [] [] made old.conn from new.conn to
    answered_act result made old new from to r p =
        let f = old.conn in
        let a = r.answers in
        let server : new.conn.server ≡ record a.server { output = [] } = server_after f.queried result f new.conn a.server a.out in
        let k = answered_keeps does stops result f.server a.server from.handler to.handler _ _ a.step in
        let waits = left does stops result f.server a.server from.handler to.handler _ _ p.one a.step in record {
          acts = owners.Answers 0 (among_all (length told) result) ∷ owners.SendsDown a.server.output ∷ [];
          run = (
            end_of a.server to,
            (
              answer_behind does stops told result f.server a.server from.handler to.handler _ _ a.step,
              contents_behind told (log_of to.entries.items) known (log_contents to.entries.items),
            ),
            (
              end_of new.conn.server to,
              (([], sym (append-nil a.server.output), server), refl, refl),
              refl,
            ),
          );
          fits = record {
            number = ap (λ (z : ServerView). z.connection) server ∙ k.number ∙ p.number;
            limit = ap (λ (z : ServerView). z.limit) server ∙ k.limit ∙ p.limit;
            taken_over = ap (λ (z : ServerView). z.output) server;
            one = subst (λ (w : List (List ℕ)). length w ≤ 1) (sym (ap (λ (z : ServerView). z.waiting) server)) waits.0;
            is_fed = subst (λ (x : List ℕ). IsFed x (fed ++ []) new.conn) (sym (append-nil came))
                (subst (λ (x : List ℕ). IsFed came x new.conn) (sym (append-nil fed))
                (same_fed came fed f new.conn (part_after f.queried result f new.conn a.server a.out) (ap (λ (z : ServerView). z.held) server ∙ k.held) p.is_fed));
            is_given = subst (λ (x : List ℕ). IsGiven (given ++ x) ((went ++ []) ++ new.conn.output) new.conn) (sym (append-nil a.server.output))
                (subst (λ (x : List ℕ). IsGiven (given ++ a.server.output) (x ++ new.conn.output) new.conn) (sym (append-nil went))
                (gives does stops result given went f new.conn a.server from.handler to.handler _ _ p.taken_over r.all_sent p.one a.step a.out p.is_given));
          };
          adds = answer_adds does stops result c f.server a.server from.handler to.handler _ _ made p.number r.logged a.step;
          logged = r.logged;
        }

    one_act : (act : SlotAct) (old new : SlotSeen L) (from to : Logged H) → SlotDoes does stops t act old from new to
        → Fits c came went fed given old.conn
        → Owned c came went fed given (taken_by act) (sent_by act) (made_by act) old.conn from new.conn to
    one_act (Receives bytes) old new from to (r, l) p = idle old.conn new.conn from to r.conn l p
    one_act (Takes bytes) old new from to (r, l) p = taken_act bytes old.conn new.conn from to r.ready r.takes l p
    one_act (Answers result made) old new from to r p = answered_act result made old new from to r p
    one_act (Sends bytes) old new from to (r, l) p = sent_act bytes r.rest old.conn new.conn from to r.first r.conn l p
    one_act Ends old new from to (r, l) p = ended_act old.conn new.conn from to r.ready r.conn l p
    one_act Waits old new from to ((i, rose), l) p = idle old.conn new.conn from to i.conn l p
    one_act Fails old new from to ((i, rose), l) p = idle old.conn new.conn from to i.conn l p
    one_act SetsGate old new from to (i, l) p = idle old.conn new.conn from to i.conn l p

  -- two after another
  owned_then : (c : ℕ) (came went fed given a b x y : List ℕ) (made more : List LogEntry) (old mid new : ConnView) (from then to : Logged H)
      → (p : Owned c came went fed given a b made old from mid then)
      → Owned c (came ++ a) (went ++ b) (fed ++ bytes_taken_up p.acts) (given ++ bytes_sent_down p.acts) x y more mid then new to
      → Owned c came went fed given (a ++ x) (b ++ y) (made ++ more) old from new to
  owned_then c came went fed given a b x y made more old mid new from then to p q = record {
    acts = p.acts ++ q.acts;
    run = server_on does stops p.acts q.acts (end_of old.server from) (end_of mid.server then) (end_of new.server to) p.run q.run;
    fits = same_fits c _ _ _ _ _ _ _ _ new new (sym (append_assoc came a x)) (sym (append_assoc went b y))
        (ap (λ (z : List ℕ). fed ++ z) (taken_up_on p.acts q.acts) ∙ sym (append_assoc fed (bytes_taken_up p.acts) (bytes_taken_up q.acts)))
        (ap (λ (z : List ℕ). given ++ z) (sent_down_on p.acts q.acts) ∙ sym (append_assoc given (bytes_sent_down p.acts) (bytes_sent_down q.acts)))
        refl q.fits;
    adds = adds_then does stops c from.handler then.handler to.handler made more p.adds q.adds;
    logged = q.logged ∙ ap (λ (es : List LogEntry). es ++ more) p.logged ∙ append_assoc (log_of from.entries.items) made more;
  }

  pub acts_owned : (acts : List SlotAct) (c : ℕ) (came went fed given : List ℕ) (old new : SlotSeen L) (from to : Logged H)
      → SlotRun does stops t old from acts new to → Fits c came went fed given old.conn
      → Owned c came went fed given (of_acts taken_by acts) (of_acts sent_by acts) (of_acts made_by acts) old.conn from new.conn to
  acts_owned [] c came went fed given old new from to (is, l) p =
      idle c came went fed given old.conn new.conn from to (ap (λ (s : SlotSeen L). s.conn) is) l p
  acts_owned (act ∷ acts) c came went fed given old new from to (mid, then, done, rest) p =
      let one = one_act c came went fed given act old mid from then done p in
      owned_then c came went fed given (taken_by act) (sent_by act) (of_acts taken_by acts) (of_acts sent_by acts) (made_by act) (of_acts made_by acts)
      old.conn mid.conn new.conn from then to one
      (acts_owned acts c (came ++ taken_by act) (went ++ sent_by act) (fed ++ bytes_taken_up one.acts) (given ++ bytes_sent_down one.acts) mid new then to
      rest one.fits)
