-- What is served of a connection goes on by each act at its slot.
use Rattle.std.proofs.Common.{◌≡◌, ◌≢◌, ℕ, ℤ, List, [], ◌∷◌, ◌++◌, length, take, Option, Some, None, Bool, true, false, Result, Ok, Err, ap, refl, sym, subst, ◌∙◌, append_assoc, append-nil}
use Rattle.std.proofs.Math.Seq.{take-length}
use Rattle.std.proofs.lemmas.List.{append_cancel_left}
use Rattle.std.proofs.KnownBytes.{Appends-nil, Appends-trans}
use Rattle.std.specs.Prelude.{remove}
use Rattle.wire_msg.specs.{Content, Message, SpellsMsg, canonical}
use Rattle.wire_msg.proofs.Lemmas.{msg_are_bytes, one_message}
use Rattle.wire_stream.specs.{StandsAt}
use Rattle.wire_stream.specs.declared.reader_state.ReaderState.{ReaderState}
use Rattle.wire_stream.specs.declared.reader_state.ReaderState.TheVariants.{Bad, Need, Ready}
use Rattle.wire_peer.specs.{AnswerStep, Does, LogEntry, ReplyStep, ServerView, Stops, TakesBytes, asked_by, entered, next_id, replies, written}
use Rattle.wire_peer.specs.Servers.{holding}
use Rattle.wire_peer.specs.ServerAnswers.{WaitsAt, answered, cause_of, closed_at, replies_of}
use Rattle.wire_peer.specs.Chains.{ReplyState}
use Rattle.wire_peer.specs.declared.log.Logged.{Logged}
use Rattle.wire_peer.specs.declared.log.NoReplies.{NoReplies}
use Rattle.wire_peer.specs.declared.log.NoReplies.TheVariants.{NotAsked, Stopped, TooLarge, NoMemory}
use Rattle.wire_peer.specs.declared.server_state.AnswerRefusal.{AnswerRefusal}
use Rattle.wire_peer.specs.declared.server_state.AnswerRefusal.TheVariants as refusals
use Rattle.wire_peer.specs.declared.server_state.ServerCause.{ServerCause}
use Rattle.wire_peer.specs.declared.server_state.ServerState.{ServerState}
use Rattle.wire_peer.specs.declared.server_state.ServerState.TheVariants as servers
use Rattle.wire_query.specs.{message_of}
use Rattle.wire_query.proofs.Lemmas.{message_spelled}
use Rattle.wire_serve.specs.ServerConnections.{ConnTakes, ConnView, IsReady, PutsOut, asks, begins, ended_by, ended_conn, gathers, goes_on, refused, refuses, respelled, state_by, state_of, with_server}
use Rattle.wire_serve.specs.Respelling.{Respells}
use Rattle.wire_serve.specs.declared.cause.CloseCause.{CloseCause}
use Rattle.wire_serve.specs.declared.cause.ConnState.{ConnState}
use Rattle.wire_serve.specs.declared.cause.ConnState.TheVariants as conn_states
use Rattle.wire_serve.specs.Slots.{Answers, Ends, Fails, GoesOver, Receives, Sends, SetsGate, SlotAct, SlotDoes, SlotRun, SlotSeen, SlotTurns, Takes, Tells, Waits, new_slot}
use Rattle.wire_serve.specs.Serving.{IsPutOut, IsServed, Serves, SlotServed, SpellsRequest, all_answered, and_then, made_by, nothing, of_acts, of_turns, one_lost, one_waits, received_by, sent_by}

-- ---- a server connection that takes bytes is open, and all its requests were answered

ready_open : (f : ConnView) → IsReady f → state_of f ≡ conn_states.Open
ready_open f r = ap (λ (c : Option CloseCause). state_by c f.server.state) r.own ∙ ap (λ (s : ServerState). state_by None s) r.is_open

record Done (c : ℕ) (came : List ℕ) (made : List LogEntry) (sent : List ℕ) (f : ConnView) : Type 0 where
  done : List ℕ
  out : List ℕ
  serves : Serves c done made out f.server.next_id
  parts : came ≡ done ++ (f.part ++ f.server.held)
  put : out ≡ sent ++ f.output

done_by : (c : ℕ) (came : List ℕ) (made : List LogEntry) (sent : List ℕ) (f : ConnView) → IsReady f → IsServed c came made sent f
    → Done c came made sent f
done_by c came made sent f r (all_answered {done} {out} s none parts put) = record { done = done; out = out; serves = s; parts = parts; put = put }
done_by c came made sent f r (one_waits m bytes request s one spelled whole parts none put) = absurd (cc (one, r.none_waits))
done_by c came made sent f r (one_lost queried m bytes answers s spelled parts entry none closed put) = absurd (closed (ready_open f r))

-- ---- bytes

-- a server holds these bytes, which come behind those of the answered requests
held_as : (found : ReaderState) (c : ℕ) (came done out sent bytes : List ℕ) (made : List LogEntry) (f : ConnView)
    → Serves c done made out f.server.next_id → f.server.waiting ≡ [] → came ≡ done ++ bytes → out ≡ sent ++ f.output
    → StandsAt f.server.limit bytes found
    → IsServed c came made sent (record f { server = holding f.server bytes found; part = []; queried = false })
held_as Need c came done out sent bytes made f s none parts put stands = all_answered s none parts put
held_as Ready c came done out sent bytes made f s none parts put stands =
    one_waits stands.1.0 bytes bytes s (ap (λ (w : List (List ℕ)). w ++ bytes ∷ []) none) stands.1.1 stands.1.1 parts refl put
held_as (Bad fault) c came done out sent bytes made f s none parts put stands = all_answered s none parts put

-- the same of a server that took a piece
took : (c : ℕ) (came done out sent piece bytes : List ℕ) (n : ℕ) (made : List LogEntry) (f : ConnView) (s : ServerView)
    → Serves c done made out f.server.next_id → f.server.waiting ≡ [] → f.server.held ++ take n piece ≡ bytes
    → came ≡ done ++ bytes → out ≡ sent ++ f.output → TakesBytes f.server piece n s
    → IsServed c came made sent (record f { server = s; part = []; queried = false })
took c came done out sent piece bytes n made f s serves none whole parts put t =
    subst (λ (z : ServerView). IsServed c came made sent (record f { server = z; part = []; queried = false })) (sym t.is)
    (held_as t.found c came done out sent t.bytes made f serves none
    (parts ∙ ap (λ (b : List ℕ). done ++ b) (sym (t.fed.held ∙ whole))) put t.fed.state)

-- more bytes behind those that were gathered, where none are held
behind : (done part held bytes came : List ℕ) → held ≡ [] → came ≡ done ++ (part ++ held) → came ++ bytes ≡ done ++ (part ++ bytes)
behind done part held bytes came none parts =
    ap (λ (x : List ℕ). x ++ bytes) (parts ∙ ap (λ (h : List ℕ). done ++ (part ++ h)) none ∙ ap (λ (x : List ℕ). done ++ x) (append-nil part))
    ∙ append_assoc done part bytes

gathered : (c : ℕ) (came done out sent bytes : List ℕ) (made : List LogEntry) (f : ConnView) (cause : Option CloseCause)
    → Serves c done made out f.server.next_id → f.server.waiting ≡ [] → f.server.held ≡ [] → came ≡ done ++ (f.part ++ f.server.held)
    → out ≡ sent ++ f.output → IsServed c (came ++ bytes) made sent (record f { part = f.part ++ bytes; cause = cause })
gathered c came done out sent bytes made f cause s none between parts put =
    all_answered s none
    (behind done f.part f.server.held bytes came between parts ∙ ap (λ (x : List ℕ). done ++ x) (sym (ap (λ (h : List ℕ). (f.part ++ bytes) ++ h) between ∙ append-nil (f.part ++ bytes))))
    put

pub takes : (c : ℕ) (came sent bytes : List ℕ) (made : List LogEntry) (old new : ConnView) → IsReady old → ConnTakes old bytes new
    → IsServed c came made sent old → IsServed c (came ++ bytes) made sent new
takes c came sent bytes made old new r (goes_on s some empty t is) served =
    let d = done_by c came made sent old r served in
    let alone : came ≡ d.done ++ old.server.held = d.parts ∙ ap (λ (p : List ℕ). d.done ++ (p ++ old.server.held)) empty in
    subst (λ (z : ConnView). IsServed c (came ++ bytes) made sent z)
    (sym (is ∙ ap (λ (p : List ℕ). record old { server = s; part = p; queried = false }) empty))
    (took c (came ++ bytes) d.done d.out sent bytes (old.server.held ++ bytes) (length bytes) made old s d.serves r.none_waits
    (ap (λ (x : List ℕ). old.server.held ++ x) (take-length bytes))
    (ap (λ (x : List ℕ). x ++ bytes) alone ∙ append_assoc d.done old.server.held bytes) d.put t)
takes c came sent bytes made old new r (gathers between part is) served =
    let d = done_by c came made sent old r served in
    subst (λ (z : ConnView). IsServed c (came ++ bytes) made sent z) (sym is)
    (gathered c came d.done d.out sent bytes made old old.cause d.serves r.none_waits between d.parts d.put)
takes c came sent bytes made old new r (begins s between other t is) served =
    let d = done_by c came made sent old r served in
    let all : List ℕ = old.part ++ bytes in
    subst (λ (z : ConnView). IsServed c (came ++ bytes) made sent z) (sym is)
    (took c (came ++ bytes) d.done d.out sent all all 16 made old s d.serves r.none_waits
    (ap (λ (h : List ℕ). h ++ take 16 all) between ∙ ap (λ (k : ℕ). take k all) (sym other.whole) ∙ take-length all)
    (behind d.done old.part old.server.held bytes came between d.parts) d.put t)
takes c came sent bytes made old new r (asks q between whole spelled is) served =
    let d = done_by c came made sent old r served in
    let all : List ℕ = old.part ++ bytes in
    subst (λ (z : ConnView). IsServed c (came ++ bytes) made sent z) (sym is)
    (one_waits (message_of q) all (canonical (message_of q)) d.serves refl (q, spelled, refl) (message_spelled q all spelled).0
    (behind d.done old.part old.server.held bytes came between d.parts) between d.put)
takes c came sent bytes made old new r (refuses f between whole fault is) served =
    let d = done_by c came made sent old r served in
    subst (λ (z : ConnView). IsServed c (came ++ bytes) made sent z) (sym is)
    (gathered c came d.done d.out sent bytes made old _ d.serves r.none_waits between d.parts d.put)

-- the number of the connection stays, and no output is left at the server
pub record SameServer (old new : ConnView) : Type 0 where
  pub number : new.server.connection ≡ old.server.connection
  pub output : new.server.output ≡ old.server.output

holding_same : (found : ReaderState) (s : ServerView) (bytes : List ℕ)
    → ((holding s bytes found).connection ≡ s.connection) × ((holding s bytes found).output ≡ s.output)
holding_same Need s bytes = (refl, refl)
holding_same Ready s bytes = (refl, refl)
holding_same (Bad f) s bytes = (refl, refl)

same_taken : (old new : ConnView) (piece : List ℕ) (n : ℕ) (s : ServerView) → TakesBytes old.server piece n s → new.server ≡ s → SameServer old new
same_taken old new piece n s t is = rw (is, t.is) (record {
  number = (holding_same t.found old.server t.bytes).0;
  output = (holding_same t.found old.server t.bytes).1;
})

pub takes_same : (bytes : List ℕ) (old new : ConnView) → ConnTakes old bytes new → SameServer old new
takes_same bytes old new (goes_on s some empty t is) = same_taken old new bytes (length bytes) s t (ap (λ (z : ConnView). z.server) is)
takes_same bytes old new (gathers between part is) = rw is (record { number = refl; output = refl })
takes_same bytes old new (begins s between other t is) = same_taken old new (old.part ++ bytes) 16 s t (ap (λ (z : ConnView). z.server) is)
takes_same bytes old new (asks q between whole spelled is) = rw is (record { number = refl; output = refl })
takes_same bytes old new (refuses f between whole fault is) = rw is (record { number = refl; output = refl })

-- ---- answers

not_open : (own : Option CloseCause) (cause : ServerCause) → state_by own (servers.Closed cause) ≢ conn_states.Open
not_open None cause is = absurd (cc)
not_open (Some first) cause is = absurd (cc)

-- the only request that waits
one_at : (s : ServerView) (m : Message) (request : List ℕ) → s.waiting ≡ request ∷ [] → (w : WaitsAt s 0 m) → w.bytes ≡ request
one_at s m request one w = cc (one, w.at)

none_at : (s : ServerView) (m : Message) → s.waiting ≡ [] → WaitsAt s 0 m → ⊥
none_at s m none w = absurd (cc (none, w.at))

-- the message that was asked is that of the request
same_message : (s : ServerView) (m n : Message) (request : List ℕ) → s.waiting ≡ request ∷ [] → SpellsMsg n request → WaitsAt s 0 m → m ≡ n
same_message s m n request one spelled w =
    one_message m n request (msg_are_bytes n request spelled) (subst (SpellsMsg m) (one_at s m request one w) w.spelled) spelled

-- the entries that were made are these
made_is : (log log' made more : List LogEntry) → log' ≡ log ++ made → log' ≡ log ++ more → made ≡ more
made_is log log' made more a b = append_cancel_left log made more (sym a ∙ b)

made_none : (log log' made : List LogEntry) → log' ≡ log ++ made → log' ≡ log → made ≡ []
made_none log log' made a b = append_cancel_left log made [] (sym a ∙ b ∙ sym (append-nil log))

module _ {H : Type 0} (does : Does H) (stops : Stops H) where
  -- an entry was made where no replies are, unless the handler wasn't asked
  lost_entry : (connection : ℕ) (id : ℤ) (m : Message) (why : NoReplies) (h h' : H) (log log' : List LogEntry) (r : ReplyState)
      → (cause_of why ≡ None → ⊥) → ReplyStep does stops connection id (asked_by m) (Err why) h log r h' log' r
      → (answers : Option (List Content)) × (log' ≡ log ++ entered connection (asked_by m) answers ∷ [])
  lost_entry connection id m NotAsked h h' log log' r closes x = absurd (closes refl)
  lost_entry connection id m (Stopped stop) h h' log log' r closes x = (None, x.1)
  lost_entry connection id m TooLarge h h' log log' r closes x = (Some x.0, x.1.entry)
  lost_entry connection id m NoMemory h h' log log' r closes x = (Some x.0, x.1.entry)

-- one request waits at a server connection
record One (c : ℕ) (came : List ℕ) (made : List LogEntry) (sent : List ℕ) (f : ConnView) : Type 0 where
  done : List ℕ
  out : List ℕ
  m : Message
  bytes : List ℕ
  request : List ℕ
  serves : Serves c done made out f.server.next_id
  one : f.server.waiting ≡ request ∷ []
  spelled : SpellsRequest f.queried m bytes
  whole : SpellsMsg m request
  parts : came ≡ done ++ bytes
  empty : f.part ++ f.server.held ≡ []
  put : out ≡ sent ++ f.output

one_by : (c : ℕ) (came : List ℕ) (made : List LogEntry) (sent : List ℕ) (f : ConnView) (n : Message) → WaitsAt f.server 0 n
    → IsServed c came made sent f → One c came made sent f
one_by c came made sent f n w (all_answered s none parts put) = absurd (none_at f.server n none w)
one_by c came made sent f n w (one_waits {done} {out} m bytes request s one spelled whole parts empty put) =
    record { done = done; out = out; m = m; bytes = bytes; request = request; serves = s; one = one; spelled = spelled; whole = whole; parts = parts; empty = empty; put = put }
one_by c came made sent f n w (one_lost queried m bytes answers s spelled parts entry none closed put) = absurd (none_at f.server n none w)

-- the server connection after its answer, with these bytes put out
abbrev answered_conn : ConnView → ReplyState → List ℕ → ConnView
answered_conn f r reply = record f { server = record (f.server) { waiting = remove (f.server.waiting) 0; output = []; next_id = r.next }; output = reply }

served_ok : (c : ℕ) (came sent reply : List ℕ) (made : List LogEntry) (f : ConnView) (r : ReplyState) (answers : List Content)
    (o : One c came made sent f) → f.output ≡ [] → r.next ≡ next_id f.server.next_id (asked_by o.m) answers
    → IsPutOut f.queried f.server.next_id o.m answers reply
    → IsServed c came (made ++ entered c (asked_by o.m) (Some answers) ∷ []) sent (answered_conn f r reply)
served_ok c came sent reply made f r answers o all next puts =
    all_answered {done = o.done ++ o.bytes} {out = o.out ++ reply}
    (subst (λ (n : ℕ). Serves c (o.done ++ o.bytes) (made ++ entered c (asked_by o.m) (Some answers) ∷ []) (o.out ++ reply) n) (sym next)
    (and_then f.queried o.m o.bytes reply answers o.serves o.spelled puts))
    (ap (λ (w : List (List ℕ)). remove w 0) o.one)
    (o.parts ∙ sym (append-nil (o.done ++ o.bytes)) ∙ ap (λ (x : List ℕ). (o.done ++ o.bytes) ++ x) (sym o.empty))
    (ap (λ (x : List ℕ). x ++ reply) (o.put ∙ ap (λ (x : List ℕ). sent ++ x) all ∙ append-nil sent))

served_lost : (c : ℕ) (came sent : List ℕ) (made : List LogEntry) (f new : ConnView) (answers : Option (List Content))
    (o : One c came made sent f) → new.server.waiting ≡ [] → state_of new ≢ conn_states.Open → o.out ≡ sent ++ new.output
    → IsServed c came (made ++ entered c (asked_by o.m) answers ∷ []) sent new
served_lost c came sent made f new answers o none closed put =
    one_lost f.queried o.m o.bytes answers o.serves o.spelled o.parts refl none closed put

closed_own : (f : ConnView) (cause : CloseCause) → state_of (record f { output = []; cause = Some cause }) ≢ conn_states.Open
closed_own f cause is = absurd (cc)

-- what a server connection puts out that answered
puts_ok : (c : ℕ) (came sent : List ℕ) (made : List LogEntry) (queried : Bool) (n : ℕ) (f new : ConnView) (s : ServerView) (r : ReplyState)
    (answers : List Content) (o : One c came made sent f) → f.queried ≡ queried → f.output ≡ [] → s ≡ answered f.server 0 r
    → r.next ≡ next_id f.server.next_id (asked_by o.m) answers
    → r.output ≡ written (replies f.server.next_id o.m.id (asked_by o.m) answers)
    → PutsOut queried (Ok n) (with_server f s) new
    → IsServed c came (made ++ entered c (asked_by o.m) (Some answers) ∷ []) sent new
puts_ok c came sent made false n f new s r answers o q all is next out new_is =
    subst (λ (z : ConnView). IsServed c came (made ++ entered c (asked_by o.m) (Some answers) ∷ []) sent z)
    (sym (new_is ∙ ap (λ (z : ServerView). with_server f z) is))
    (served_ok c came sent r.output made f r answers o all next
    (subst (λ (b : Bool). IsPutOut b f.server.next_id o.m answers r.output) (sym q) out))
puts_ok c came sent made true n f new s r answers o q all is next out (respelled reply as_reply new_is) =
    subst (λ (z : ConnView). IsServed c came (made ++ entered c (asked_by o.m) (Some answers) ∷ []) sent z)
    (sym (new_is ∙ ap (λ (z : ServerView). record (with_server f z) { output = reply }) is))
    (served_ok c came sent reply made f r answers o all next
    (subst (λ (b : Bool). IsPutOut b f.server.next_id o.m answers reply) (sym q)
    (subst (λ (x : List ℕ). Respells x reply) (ap (λ (z : ServerView). z.output) is ∙ out) as_reply)))
puts_ok c came sent made true n f new s r answers o q all is next out (refused cause why new_is) =
    served_lost c came sent made f new (Some answers) o
    (ap (λ (z : ConnView). z.server.waiting) new_is ∙ ap (λ (z : ServerView). z.waiting) is ∙ ap (λ (w : List (List ℕ)). remove w 0) o.one)
    (λ now. closed_own (with_server f s) cause (sym (ap (λ (z : ConnView). state_of z) new_is) ∙ now))
    (o.put ∙ ap (λ (x : List ℕ). sent ++ x) (all ∙ sym (ap (λ (z : ConnView). z.output) new_is)))

-- a server connection whose server refused to answer
puts_refused : (queried : Bool) (refusal : AnswerRefusal) (f new : ConnView) → PutsOut queried (Err refusal) f new → new ≡ f
puts_refused true refusal f new is = is
puts_refused false refusal f new is = is

same_conn : (f : ConnView) (s : ServerView) → f.server.output ≡ [] → f.output ≡ [] → s ≡ f.server → with_server f s ≡ f
same_conn f s none all is =
    ap (λ (z : ServerView). with_server f z) is
    ∙ ap (λ (x : List ℕ). record f { server = record (f.server) { output = [] }; output = x }) (none ∙ sym all)
    ∙ ap (λ (x : List ℕ). record f { server = record (f.server) { output = x } }) (sym none)

module _ {H : Type 0} (does : Does H) (stops : Stops H) where
  -- the same server connection, and no entry
  refuses_answer : (c : ℕ) (came sent : List ℕ) (made more : List LogEntry) (refusal : AnswerRefusal) (f new : ConnView) (s : ServerView)
      (log log' : List LogEntry) → f.server.output ≡ [] → f.output ≡ [] → s ≡ f.server → log' ≡ log → log' ≡ log ++ more
      → PutsOut f.queried (Err refusal) (with_server f s) new → IsServed c came made sent f → IsServed c came (made ++ more) sent new
  refuses_answer c came sent made more refusal f new s log log' none all is same logged out served =
      subst (λ (z : ConnView). IsServed c came (made ++ more) sent z)
      (sym (puts_refused f.queried refusal (with_server f s) new out ∙ same_conn f s none all is))
      (subst (λ (x : List LogEntry). IsServed c came x sent f)
      (sym (ap (λ (x : List LogEntry). made ++ x) (made_none log log' more logged same) ∙ append-nil made)) served)

  -- the entry is that of the request that waits
  entry_is : (c : ℕ) (made more : List LogEntry) (f : ConnView) (n m : Message) (answers : Option (List Content)) (log log' : List LogEntry)
      → f.server.connection ≡ c → n ≡ m → log' ≡ log ++ entered f.server.connection (asked_by n) answers ∷ [] → log' ≡ log ++ more
      → made ++ entered c (asked_by m) answers ∷ [] ≡ made ++ more
  entry_is c made more f n m answers log log' number same entry logged =
      ap (λ (e : LogEntry). made ++ e ∷ []) (sym (ap (λ (k : ℕ). entered k (asked_by n) answers) number ∙ ap (λ (x : Message). entered c (asked_by x) answers) same))
      ∙ ap (λ (x : List LogEntry). made ++ x) (sym (made_is log log' more (entered f.server.connection (asked_by n) answers ∷ []) logged entry))

  pub answers : (result : Result ℕ AnswerRefusal) (c : ℕ) (came sent : List ℕ) (made more : List LogEntry) (f new : ConnView) (s : ServerView)
      (h h' : H) (log log' : List LogEntry) → f.server.connection ≡ c → f.server.output ≡ [] → f.output ≡ []
      → AnswerStep does stops 0 result f.server h log s h' log' → PutsOut f.queried result (with_server f s) new
      → log' ≡ log ++ more → IsServed c came made sent f → IsServed c came (made ++ more) sent new
  answers (Ok n) c came sent made more f new s h h' log log' number none all (opens, count, (n_m, waits, (r, (given, got, short, r_is), s_is))) out logged served =
      let o = one_by c came made sent f n_m waits served in
      let same : n_m ≡ o.m = same_message f.server n_m o.m o.request o.one o.whole waits in
      subst (λ (x : List LogEntry). IsServed c came x sent new)
      (entry_is c made more f n_m o.m (Some given) log log' number same got.entry logged)
      (puts_ok c came sent made f.queried n f new s r given o refl all s_is
      (ap (λ (z : ReplyState). z.next) r_is ∙ ap (λ (x : Message). next_id f.server.next_id (asked_by x) given) same)
      (ap (λ (z : ReplyState). z.output) r_is ∙ ap (λ (x : List ℕ). x ++ written (replies f.server.next_id n_m.id (asked_by n_m) given)) none
      ∙ ap (λ (x : Message). written (replies f.server.next_id x.id (asked_by x) given)) same) out)
  answers (Err (refusals.NowClosed cause)) c came sent made more f new s h h' log log' number none all (opens, s_is, (n_m, waits, (why, closes, step))) out logged served =
      let o = one_by c came made sent f n_m waits served in
      let same : n_m ≡ o.m = same_message f.server n_m o.m o.request o.one o.whole waits in
      let entry = lost_entry does stops f.server.connection n_m.id n_m why h h' log log' (replies_of f.server) (λ e. absurd (cc (e, closes))) step in
      let new_is : new ≡ with_server f (closed_at f.server 0 cause) = puts_refused f.queried (refusals.NowClosed cause) (with_server f s) new out ∙ ap (λ (z : ServerView). with_server f z) s_is in
      subst (λ (x : List LogEntry). IsServed c came x sent new)
      (entry_is c made more f n_m o.m entry.0 log log' number same entry.1 logged)
      (served_lost c came sent made f new entry.0 o
      (ap (λ (z : ConnView). z.server.waiting) new_is ∙ ap (λ (w : List (List ℕ)). remove w 0) o.one)
      (λ now. not_open f.cause cause (sym (ap (λ (z : ConnView). state_of z) new_is) ∙ now))
      (o.put ∙ ap (λ (x : List ℕ). sent ++ x) (all ∙ sym (ap (λ (z : ConnView). z.output) new_is ∙ none))))
  answers (Err refusals.Closed) c came sent made more f new s h h' log log' number none all (opens, s_is, h_is, log_is) out logged served =
      refuses_answer c came sent made more refusals.Closed f new s log log' none all s_is log_is logged out served
  answers (Err refusals.NoSuchRequest) c came sent made more f new s h h' log log' number none all (opens, few, s_is, h_is, log_is) out logged served =
      refuses_answer c came sent made more refusals.NoSuchRequest f new s log log' none all s_is log_is logged out served
  answers (Err refusals.OutOfMemory) c came sent made more f new s h h' log log' number none all (opens, few, s_is, h_is, log_is) out logged served =
      refuses_answer c came sent made more refusals.OutOfMemory f new s log log' none all s_is log_is logged out served

-- the server of a server connection after an answer, without its output
pub put_server : (queried : Bool) (result : Result ℕ AnswerRefusal) (f new : ConnView) (s : ServerView) → PutsOut queried result (with_server f s) new
    → new.server ≡ record s { output = [] }
put_server false result f new s is = ap (λ (z : ConnView). z.server) is
put_server true (Err refusal) f new s is = ap (λ (z : ConnView). z.server) is
put_server true (Ok n) f new s (respelled reply as_reply is) = ap (λ (z : ConnView). z.server) is
put_server true (Ok n) f new s (refused cause why is) = ap (λ (z : ConnView). z.server) is

pub answer_number : {H : Type 0} (does : Does H) (stops : Stops H) (result : Result ℕ AnswerRefusal) (s s' : ServerView) (h h' : H) (log log' : List LogEntry)
    → AnswerStep does stops 0 result s h log s' h' log' → s'.connection ≡ s.connection
answer_number does stops (Ok n) s s' h h' log log' x = ap (λ (z : ServerView). z.connection) x.2.2.2
answer_number does stops (Err (refusals.NowClosed cause)) s s' h h' log log' x = ap (λ (z : ServerView). z.connection) x.1
answer_number does stops (Err refusals.Closed) s s' h h' log log' x = ap (λ (z : ServerView). z.connection) x.1
answer_number does stops (Err refusals.NoSuchRequest) s s' h h' log log' x = ap (λ (z : ServerView). z.connection) x.2
answer_number does stops (Err refusals.OutOfMemory) s s' h h' log log' x = ap (λ (z : ServerView). z.connection) x.2

-- ---- bytes that go, and the end

more_gone : (out sent bytes rest : List ℕ) (output : List ℕ) → out ≡ sent ++ output → output ≡ bytes ++ rest → out ≡ (sent ++ bytes) ++ rest
more_gone out sent bytes rest output put first = put ∙ ap (λ (x : List ℕ). sent ++ x) first ∙ sym (append_assoc sent bytes rest)

pub goes : (c : ℕ) (came sent bytes rest : List ℕ) (made : List LogEntry) (f : ConnView) → f.output ≡ bytes ++ rest → IsServed c came made sent f
    → IsServed c came made (sent ++ bytes) (record f { output = rest })
goes c came sent bytes rest made f first (all_answered {done} {out} s none parts put) =
    all_answered s none parts (more_gone out sent bytes rest f.output put first)
goes c came sent bytes rest made f first (one_waits {done} {out} m some request s one spelled whole parts empty put) =
    one_waits m some request s one spelled whole parts empty (more_gone out sent bytes rest f.output put first)
goes c came sent bytes rest made f first (one_lost {done} {out} queried m some answers s spelled parts entry none closed put) =
    one_lost queried m some answers s spelled parts entry none closed (more_gone out sent bytes rest f.output put first)

-- the end, by the server connection's state and by what it gathered
ended_served : (state : ConnState) (part : List ℕ) (c : ℕ) (came sent : List ℕ) (made : List LogEntry) (f : ConnView) (d : Done c came made sent f)
    → f.server.waiting ≡ [] → IsServed c came made sent (ended_by state part f)
ended_served (conn_states.Closed cause) part c came sent made f d none = all_answered d.serves none d.parts d.put
ended_served conn_states.Open [] c came sent made f d none = all_answered d.serves none d.parts d.put
ended_served conn_states.Open (b ∷ bytes) c came sent made f d none = all_answered d.serves none d.parts d.put

pub ended_same : (state : ConnState) (part : List ℕ) (f : ConnView) → SameServer f (ended_by state part f)
ended_same (conn_states.Closed cause) part f = record { number = refl; output = refl }
ended_same conn_states.Open [] f = record { number = refl; output = refl }
ended_same conn_states.Open (b ∷ bytes) f = record { number = refl; output = refl }

-- ---- acts

-- nothing was made and nothing went
still : (c : ℕ) (came sent : List ℕ) (made : List LogEntry) (f : ConnView) → IsServed c came made sent f → IsServed c came (made ++ []) (sent ++ []) f
still c came sent made f served =
    subst (λ (x : List LogEntry). IsServed c came x (sent ++ []) f) (sym (append-nil made))
    (subst (λ (x : List ℕ). IsServed c came made x f) (sym (append-nil sent)) served)

module _ {L : Type 0} (t : Tells L) where
  none_over : (l : L) → GoesOver t [] [] l l
  none_over l = record { received = Appends-nil (t.received l); sent = Appends-nil (t.sent l) }

  over_on : (a b x y : List ℕ) (first mid last : L) → GoesOver t a b first mid → GoesOver t x y mid last → GoesOver t (a ++ x) (b ++ y) first last
  over_on a b x y first mid last p q = record {
    received = Appends-trans (t.received first) (t.received mid) (t.received last) a x p.received q.received;
    sent = Appends-trans (t.sent first) (t.sent mid) (t.sent last) b y p.sent q.sent;
  }

  -- an act by which the server connection stays
  idle : (c : ℕ) (first : L) (came went : List ℕ) (made : List LogEntry) (old new : SlotSeen L) → GoesOver t [] [] old.link new.link
      → new.conn ≡ old.conn → new.inlet ≡ old.inlet → SlotServed t c first came made went old
      → SlotServed t c first (came ++ []) (made ++ []) (went ++ []) new
  idle c first came went made old new over conn inlet s = record {
    number = ap (λ (f : ConnView). f.server.connection) conn ∙ s.number;
    taken_over = ap (λ (f : ConnView). f.server.output) conn ∙ s.taken_over;
    over = over_on came went [] [] first old.link new.link s.over over;
    taken = s.taken;
    parts = append-nil came ∙ s.parts ∙ ap (λ (x : List ℕ). s.taken ++ x) (sym inlet);
    served = subst (λ (f : ConnView). IsServed c s.taken (made ++ []) (went ++ []) f) (sym conn) (still c s.taken went made old.conn s.served);
  }

  -- joined in one order or in the other
  joined : (c : ℕ) (first : L) (came went : List ℕ) (made : List LogEntry) (a b : List ℕ) (d : List LogEntry) (x y : List ℕ) (z : List LogEntry)
      (s : SlotSeen L) → SlotServed t c first ((came ++ a) ++ x) ((made ++ d) ++ z) ((went ++ b) ++ y) s
      → SlotServed t c first (came ++ (a ++ x)) (made ++ (d ++ z)) (went ++ (b ++ y)) s
  joined c first came went made a b d x y z s served =
      subst (λ (i : List ℕ). SlotServed t c first i (made ++ (d ++ z)) (went ++ (b ++ y)) s) (append_assoc came a x)
      (subst (λ (i : List LogEntry). SlotServed t c first ((came ++ a) ++ x) i (went ++ (b ++ y)) s) (append_assoc made d z)
      (subst (λ (i : List ℕ). SlotServed t c first ((came ++ a) ++ x) ((made ++ d) ++ z) i s) (append_assoc went b y) served))

  module _ {H : Type 0} (does : Does H) (stops : Stops H) where
    one_act : (act : SlotAct) (c : ℕ) (first : L) (came went : List ℕ) (made : List LogEntry) (old new : SlotSeen L) (from to : Logged H)
        → SlotDoes does stops t act old from new to → SlotServed t c first came made went old
        → SlotServed t c first (came ++ received_by act) (made ++ made_by act) (went ++ sent_by act) new
    one_act (Receives bytes) c first came went made old new from to (r, l) s = record {
      number = ap (λ (f : ConnView). f.server.connection) r.conn ∙ s.number;
      taken_over = ap (λ (f : ConnView). f.server.output) r.conn ∙ s.taken_over;
      over = over_on came went bytes [] first old.link new.link s.over r.over;
      taken = s.taken;
      parts = ap (λ (x : List ℕ). x ++ bytes) (s.parts ∙ ap (λ (x : List ℕ). s.taken ++ x) r.none_left ∙ append-nil s.taken)
          ∙ ap (λ (x : List ℕ). s.taken ++ x) (sym r.inlet);
      served = subst (λ (f : ConnView). IsServed c s.taken (made ++ []) (went ++ []) f) (sym r.conn) (still c s.taken went made old.conn s.served);
    }
    one_act (Takes bytes) c first came went made old new from to (r, l) s =
        let same = takes_same bytes old.conn new.conn r.takes in record {
          number = same.number ∙ s.number;
          taken_over = same.output ∙ s.taken_over;
          over = over_on came went [] [] first old.link new.link s.over (subst (λ (x : L). GoesOver t [] [] old.link x) (sym r.link) (none_over old.link));
          taken = s.taken ++ bytes;
          parts = append-nil came ∙ s.parts ∙ ap (λ (x : List ℕ). s.taken ++ x) r.first ∙ sym (append_assoc s.taken bytes new.inlet);
          served = still c (s.taken ++ bytes) went made new.conn (takes c s.taken went bytes made old.conn new.conn r.ready r.takes s.served);
        }
    one_act (Answers result more) c first came went made old new from to r s =
        let f = old.conn in
        let a = r.answers in
        let server = put_server f.queried result f new.conn a.server a.out in record {
          number = ap (λ (z : ServerView). z.connection) server ∙ answer_number does stops result f.server a.server from.handler to.handler _ _ a.step ∙ s.number;
          taken_over = ap (λ (z : ServerView). z.output) server;
          over = over_on came went [] [] first old.link new.link s.over (subst (λ (x : L). GoesOver t [] [] old.link x) (sym r.link) (none_over old.link));
          taken = s.taken;
          parts = append-nil came ∙ s.parts ∙ ap (λ (x : List ℕ). s.taken ++ x) (sym r.inlet);
          served = subst (λ (x : List ℕ). IsServed c s.taken (made ++ more) x new.conn) (sym (append-nil went))
              (answers does stops result c s.taken went made more f new.conn a.server from.handler to.handler _ _ s.number s.taken_over r.all_sent a.step a.out r.logged s.served);
        }
    one_act (Sends bytes) c first came went made old new from to (r, l) s = record {
      number = ap (λ (f : ConnView). f.server.connection) r.conn ∙ s.number;
      taken_over = ap (λ (f : ConnView). f.server.output) r.conn ∙ s.taken_over;
      over = over_on came went [] bytes first old.link new.link s.over r.over;
      taken = s.taken;
      parts = append-nil came ∙ s.parts ∙ ap (λ (x : List ℕ). s.taken ++ x) (sym r.inlet);
      served = subst (λ (x : List LogEntry). IsServed c s.taken x (went ++ bytes) new.conn) (sym (append-nil made))
          (subst (λ (f : ConnView). IsServed c s.taken made (went ++ bytes) f) (sym r.conn) (goes c s.taken went bytes r.rest made old.conn r.first s.served));
    }
    one_act Ends c first came went made old new from to (r, l) s =
        let f = old.conn in
        let same = ended_same (state_of f) f.part f in record {
          number = ap (λ (z : ConnView). z.server.connection) r.conn ∙ same.number ∙ s.number;
          taken_over = ap (λ (z : ConnView). z.server.output) r.conn ∙ same.output ∙ s.taken_over;
          over = over_on came went [] [] first old.link new.link s.over r.over;
          taken = s.taken;
          parts = append-nil came ∙ s.parts ∙ ap (λ (x : List ℕ). s.taken ++ x) (r.none_left ∙ sym r.inlet);
          served = subst (λ (z : ConnView). IsServed c s.taken (made ++ []) (went ++ []) z) (sym r.conn)
              (still c s.taken went made (ended_conn f)
              (ended_served (state_of f) f.part c s.taken went made f (done_by c s.taken made went f r.ready s.served) r.ready.none_waits));
        }
    one_act Waits c first came went made old new from to ((i, rose), l) s = idle c first came went made old new i.over i.conn i.inlet s
    one_act Fails c first came went made old new from to ((i, rose), l) s = idle c first came went made old new i.over i.conn i.inlet s
    one_act SetsGate c first came went made old new from to (i, l) s = idle c first came went made old new i.over i.conn i.inlet s

    -- the acts of a turn
    acts_serve : (acts : List SlotAct) (c : ℕ) (first : L) (came went : List ℕ) (made : List LogEntry) (old new : SlotSeen L) (from to : Logged H)
        → SlotRun does stops t old from acts new to → SlotServed t c first came made went old
        → SlotServed t c first (came ++ of_acts received_by acts) (made ++ of_acts made_by acts) (went ++ of_acts sent_by acts) new
    acts_serve [] c first came went made old new from to (is, l) s =
        subst (λ (z : SlotSeen L). SlotServed t c first (came ++ []) (made ++ []) (went ++ []) z) (sym is)
        (idle c first came went made old old (none_over old.link) refl refl s)
    acts_serve (act ∷ acts) c first came went made old new from to (mid, then, done, rest) s =
        joined c first came went made (received_by act) (sent_by act) (made_by act) (of_acts received_by acts) (of_acts sent_by acts) (of_acts made_by acts) new
        (acts_serve acts c first (came ++ received_by act) (went ++ sent_by act) (made ++ made_by act) mid new then to rest
        (one_act act c first came went made old mid from then done s))

    pub turns_serve : (turns : List (List SlotAct)) (c : ℕ) (first : L) (came went : List ℕ) (made : List LogEntry) (old new : SlotSeen L)
        → SlotTurns does stops t old turns new → SlotServed t c first came made went old
        → SlotServed t c first (came ++ of_turns received_by turns) (made ++ of_turns made_by turns) (went ++ of_turns sent_by turns) new
    turns_serve [] c first came went made old new is s =
        subst (λ (z : SlotSeen L). SlotServed t c first (came ++ []) (made ++ []) (went ++ []) z) (sym is)
        (idle c first came went made old old (none_over old.link) refl refl s)
    turns_serve (acts ∷ others) c first came went made old new (mid, from, to, run, rest) s =
        joined c first came went made (of_acts received_by acts) (of_acts sent_by acts) (of_acts made_by acts)
        (of_turns received_by others) (of_turns sent_by others) (of_turns made_by others) new
        (turns_serve others c first (came ++ of_acts received_by acts) (went ++ of_acts sent_by acts) (made ++ of_acts made_by acts) mid new rest
        (acts_serve acts c first came went made old mid from to run s))

-- a slot at which nothing was done
pub none_served : {L : Type 0} (t : Tells L) (c : ℕ) (link : L) → SlotServed t c link [] [] [] (new_slot c link)
none_served t c link = record {
  number = refl;
  taken_over = refl;
  over = none_over t link;
  taken = [];
  parts = refl;
  served = all_answered {done = []} {out = []} nothing refl refl refl;
}
