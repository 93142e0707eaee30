-- What each call at an end does to the end as it is seen.
use Rattle.std.proofs.Common.{◌≡◌, ℕ, ℤ, true, List, [], ◌++◌, length, take, drop, refl, sym, ◌∙◌, ap, subst, append_assoc, Option, Some, None, Result, Ok, Err}
use Rattle.std.proofs.lemmas.List.{take-append-drop}
use Rattle.std.proofs.lemmas.Option.{none-some}
use Rattle.wire_msg.specs.{Content, Message, SpellsMsg, canonical}
use Rattle.wire_stream.specs.declared.reader_state.ReaderState.{ReaderState}
use Rattle.wire_stream.specs.declared.reader_state.ReaderState.TheVariants.{Need, Ready, Bad}
use Rattle.wire_peer.specs.{AnswerStep, ClientSeen, Does, IsCalled, LogEntry, RequestState, ServerView, Settles, Stops, Takes, TakesBytes, allowed, called, ended, holding, owner, released, request}
use Rattle.wire_peer.specs.ClientSteps.{is_bad, is_message, is_open, received}
use Rattle.wire_peer.specs.Servers as server_steps
use Rattle.wire_peer.specs.Replying.{ReplyStep}
use Rattle.wire_peer.specs.Chains.{ReplyState, next_id, replies, written}
use Rattle.wire_peer.specs.Requests.{Asked}
use Rattle.wire_peer.specs.declared.call_table.Outstanding.{Outstanding}
use Rattle.wire_peer.specs.declared.call_table.ReadyReply.{ReadyReply}
use Rattle.wire_peer.specs.declared.calls.CallKind.{CallKind}
use Rattle.wire_peer.specs.declared.calls.CallNo.{CallNo}
use Rattle.wire_peer.specs.declared.client_state.ClientCause.{ClientCause}
use Rattle.wire_peer.specs.declared.client_state.ClientState.{ClientState}
use Rattle.wire_peer.specs.declared.log.NoReplies.{NoReplies}
use Rattle.wire_peer.specs.declared.log.NoReplies.TheVariants as reasons
use Rattle.wire_peer.specs.declared.server_state.AnswerRefusal.TheVariants as refusals
use Rattle.wire_peer.specs.declared.server_state.ServerCause.{ServerCause}
use Rattle.wire_peer.proofs.Lemmas.{client_own, server_own}
use Rattle.wire_model.specs.Cuts.{cut_down, cut_up}
use Rattle.wire_model.specs.Moves.{with_client_output, with_server_output}
use Rattle.wire_model.specs.Channels.{Pair, client_ended, client_sent, server_ended, server_sent}
use Rattle.wire_model.specs.Seen.{seen_as, seen_client}

-- a client of these parts
abbrev pub client_of : RequestState → List ℕ → Option ReadyReply → ClientState → ClientSeen
client_of requests held reply state = record {
  requests = requests;
  held = held;
  reply = reply;
  state = state;
}

-- ---- releasing a reply

-- it doesn't matter what was to be sent
shown_output : (r : RequestState) (h : List ℕ) (reply : Option ReadyReply) (s : ClientState)
    (a b : List ℕ)
    → with_client_output (released (with_client_output (client_of r h reply s) a)) b
    ≡ with_client_output (released (client_of r h reply s)) b
shown_output r h None s a b = refl
shown_output r h (Some reply) s a b = refl

pub released_output : (r : RequestState) (h : List ℕ) (reply : Option ReadyReply) (s : ClientState)
    → (released (client_of r h reply s)).requests ≡ r
released_output r h None s = refl
released_output r h (Some reply) s = refl

released_twice : (r : RequestState) (h : List ℕ) (reply : Option ReadyReply) (s : ClientState)
    → released (released (client_of r h reply s)) ≡ released (client_of r h reply s)
released_twice r h None s = refl
released_twice r h (Some reply) s = refl

pub released_reply : (r : RequestState) (h : List ℕ) (reply : Option ReadyReply) (s : ClientState)
    → (released (client_of r h reply s)).reply ≡ None
released_reply r h None s = refl
released_reply r h (Some reply) s = refl

-- ---- steps that aren't seen

pub sent_up : (p : Pair) (n : ℕ) → seen_as (client_sent p n) ≡ seen_as p
sent_up p n =
    let o : List ℕ = p.client.requests.output in
    let bytes : (p.up.bytes ++ take n o) ++ drop n o ≡ p.up.bytes ++ o = append_assoc p.up.bytes
    (take n o) (drop n o) ∙ ap (λ b. p.up.bytes ++ b) (take-append-drop n o) in
    ap (λ (k : ClientSeen). record (seen_as p) { client = k })
    (shown_output p.client.requests p.client.held p.client.reply p.client.state (drop n o)
    ((p.up.bytes ++ take n o) ++ drop n o)
    ∙ ap (with_client_output (released p.client)) bytes)

pub sent_down : (p : Pair) (n : ℕ) → seen_as (server_sent p n) ≡ seen_as p
sent_down p n =
    let o : List ℕ = p.server.output in
    let bytes : (p.down.bytes ++ take n o) ++ drop n o ≡ p.down.bytes ++ o = append_assoc
    p.down.bytes (take n o) (drop n o) ∙ ap (λ b. p.down.bytes ++ b)
    (take-append-drop n o) in
    ap (λ b. record (seen_as p) { server = with_server_output p.server b }) bytes

pub let_go : (p : Pair) → seen_as (record p { client = released p.client }) ≡ seen_as p
let_go p =
    let r = p.client.requests in
    ap (λ (k : ClientSeen). record (seen_as p) {
      client = with_client_output k
          (p.up.bytes ++ (released p.client).requests.output);
    })
    (released_twice r p.client.held p.client.reply p.client.state)
    ∙ ap (λ (z : RequestState). record (seen_as p)
    { client = with_client_output (released p.client) (p.up.bytes ++ z.output) })
    (released_output r p.client.held p.client.reply p.client.state)

-- ---- ends

ended_client : (r : RequestState) (h : List ℕ) (reply : Option ReadyReply) (s : ClientState)
    (o : List ℕ)
    → with_client_output (released (ended (client_of r h reply s))) o ≡ ended
    (with_client_output (released (client_of r h reply s)) o)
ended_client r h None s o = refl
ended_client r h (Some reply) s o = refl

pub end_down : (p : Pair) → seen_as (client_ended p) ≡ cut_down (seen_as p)
end_down p = ap (λ (k : ClientSeen). record (seen_as p) { client = k; down_cut = true })
    (ended_client p.client.requests p.client.held p.client.reply p.client.state
    (p.up.bytes ++ p.client.requests.output))

pub end_up : (p : Pair) → seen_as (server_ended p) ≡ cut_up (seen_as p)
end_up p = refl

-- ---- calls

pub still_called : (r : RequestState) (h : List ℕ) (reply : Option ReadyReply) (s : ClientState)
    (o : List ℕ) (kind : CallKind) (c : Content) (number : CallNo)
    → IsCalled (client_of r h reply s) kind c number
    → IsCalled (with_client_output (released (client_of r h reply s)) o) kind c number
still_called r h None s o kind c number is = (
  is.0,
  record {
    next = record { number = is.1.next.number; id = is.1.next.id };
    window =
        is.1.window;
    within = is.1.within;
  },
)
still_called r h (Some reply) s o kind c number is = (
  is.0,
  record {
    next = record { number = is.1.next.number; id = is.1.next.id };
    window =
        is.1.window;
    within = is.1.within;
  },
)

called_parts : (r : RequestState) (h : List ℕ) (reply : Option ReadyReply) (s : ClientState)
    (up : List ℕ) (kind : CallKind) (c : Content) (number : CallNo)
    → with_client_output (released (called (client_of r h reply s) kind c number))
    (up ++ (r.output ++ canonical (request number.id kind c)))
    ≡ called (with_client_output (released (client_of r h reply s)) (up ++ r.output)) kind c number
called_parts r h None s up kind c number =
    ap (λ b. with_client_output (called (client_of r h None s) kind c number) b)
    (sym (append_assoc up r.output (canonical (request number.id kind c))))
called_parts r h (Some reply) s up kind c number =
    ap (λ b. with_client_output (called (client_of r [] None s) kind c number) b)
    (sym (append_assoc up r.output (canonical (request number.id kind c))))

pub call_seen : (p : Pair) (indexes : List ℕ) (kind : CallKind) (c : Content) (number : CallNo)
    → seen_as (record p { client = called p.client kind c number; calls = indexes }) ≡ record
    (seen_as p) { client = called (seen_client p) kind c number; calls = indexes }
call_seen p indexes kind c number =
    ap (λ (k : ClientSeen). record (seen_as p) { client = k; calls = indexes })
    (called_parts p.client.requests p.client.held p.client.reply p.client.state p.up.bytes kind c
    number)

-- ---- a server that is fed

holding_output : (s : ServerView) (bytes : List ℕ) (found : ReaderState)
    → (server_steps.holding s bytes found).output ≡ s.output
holding_output s bytes Need = refl
holding_output s bytes Ready = refl
holding_output s bytes (Bad fault) = refl

pub fed_output : (s : ServerView) (piece : List ℕ) (n : ℕ) (new : ServerView)
    → TakesBytes s piece n new → new.output ≡ s.output
fed_output s piece n new t =
    ap (λ (z : ServerView). z.output) t.is ∙ holding_output s t.bytes t.found

holding_with : (s : ServerView) (o bytes : List ℕ) (found : ReaderState)
    → with_server_output (server_steps.holding s bytes found) o ≡ server_steps.holding
    (with_server_output s o) bytes found
holding_with s o bytes Need = refl
holding_with s o bytes Ready = refl
holding_with s o bytes (Bad fault) = refl

pub fed_with : (s : ServerView) (piece o : List ℕ) (n : ℕ) (new : ServerView)
    → TakesBytes s piece n new
    → TakesBytes (with_server_output s o) (take n piece) (length (take n piece))
    (with_server_output new o)
fed_with s piece o n new t = let u = server_own s piece n new t in record {
  bytes = u.bytes;
  found = u.found;
  fed = u.fed;
  is = ap (λ (z : ServerView). with_server_output z o) u.is ∙ holding_with s o u.bytes u.found;
}

-- ---- a client that is fed

received_with : (k : ClientSeen) (o : List ℕ) (m : Message)
    (r : Result (ℤ × Outstanding) ClientCause) → with_client_output (received k m r) o ≡ received
    (with_client_output k o) m r
received_with k o m (Ok x) = refl
received_with k o m (Err cause) = refl

received_output : (k : ClientSeen) (m : Message) (r : Result (ℤ × Outstanding) ClientCause)
    → (received k m r).requests.output ≡ k.requests.output
received_output k m (Ok x) = refl
received_output k m (Err cause) = refl

received_held : (k : ClientSeen) (m : Message) (r : Result (ℤ × Outstanding) ClientCause)
    → (received k m r).held ≡ k.held
received_held k m (Ok x) = refl
received_held k m (Err cause) = refl

settles_with : (k new : ClientSeen) (o : List ℕ) → Settles k new
    → Settles (with_client_output k o) (with_client_output new o)
settles_with k new o (is_open a e) = is_open a (ap (λ (z : ClientSeen). with_client_output z o) e)
settles_with k new o (is_message m s le e) =
    is_message m s le (ap (λ (z : ClientSeen). with_client_output z o) e
    ∙ received_with k o m (allowed m.flags.more_to_come (owner k.requests.outstanding m.response_to)))
settles_with k new o (is_bad f b e) =
    is_bad f b (ap (λ (z : ClientSeen). with_client_output z o) e)

settles_output : (k new : ClientSeen) → Settles k new → new.requests.output ≡ k.requests.output
settles_output k new (is_open a e) = ap (λ (z : ClientSeen). z.requests.output) e
settles_output k new (is_message m s le e) =
    ap (λ (z : ClientSeen). z.requests.output) e
    ∙ received_output k m (allowed m.flags.more_to_come (owner k.requests.outstanding m.response_to))
settles_output k new (is_bad f b e) = ap (λ (z : ClientSeen). z.requests.output) e

pub took_output : (k : ClientSeen) (piece : List ℕ) (n : ℕ) (new : ClientSeen)
    → Takes k piece n new → new.requests.output ≡ k.requests.output
took_output k piece n new t = settles_output (holding k (k.held ++ take n piece)) new t.settles

-- a reply that is ready is of the message that is held
settles_spelled : (k new : ClientSeen) (reply : ReadyReply) → k.reply ≡ None → Settles k new
    → new.reply ≡ Some reply → (m : Message) × SpellsMsg m new.held
settles_spelled k new reply none (is_open a e) is =
    absurd (none-some reply (sym (ap (λ (z : ClientSeen). z.reply) e ∙ none) ∙ is))
settles_spelled k new reply none (is_message m s le e) is = (
  m,
  subst (SpellsMsg m)
      (sym (ap (λ (z : ClientSeen). z.held) e ∙ received_held k m
      (allowed m.flags.more_to_come (owner k.requests.outstanding m.response_to)))) s,
)
settles_spelled k new reply none (is_bad f b e) is =
    absurd (none-some reply (sym (ap (λ (z : ClientSeen). z.reply) e ∙ none) ∙ is))

pub took_spelled : (k : ClientSeen) (piece : List ℕ) (n : ℕ) (new : ClientSeen)
    (reply : ReadyReply) → k.reply ≡ None → Takes k piece n new → new.reply ≡ Some reply
    → (m : Message) × SpellsMsg m new.held
took_spelled k piece n new reply none t is =
    settles_spelled (holding k (k.held ++ take n piece)) new reply none t.settles is

pub took_with : (k : ClientSeen) (piece o : List ℕ) (n : ℕ) (new : ClientSeen)
    → Takes k piece n new
    → Takes (with_client_output k o) (take n piece) (length (take n piece))
    (with_client_output new o)
took_with k piece o n new t = let u = client_own k piece n new t in record {
  within = u.within;
  no_more = u.no_more;
  all = u.all;
  settles =
      settles_with (holding k (k.held ++ take (length (take n piece)) (take n piece))) new o
      u.settles;
}

-- ---- a server that answers

abbrev front : ReplyState → List ℕ → ReplyState
front r o = record { output = o ++ r.output; next = r.next; limit = r.limit }

-- replies are put after whatever has to be sent before them
reply_front : {H : Type 0} (does : Does H) (stops : Stops H) (connection : ℕ) (id : ℤ) (a : Asked)
    (h h' : H) (log log' : List LogEntry) (s s' : ReplyState) (o : List ℕ)
    → ReplyStep does stops connection id a (Ok tt) h log s h' log' s'
    → ReplyStep does stops connection id a (Ok tt) h log (front s o) h' log' (front s' o)
reply_front does stops connection id a h h' log log' s s' o (answers, got, short, e) = (
  answers,
  got,
  short,
  ap (λ (z : ReplyState). front z o) e
      ∙ ap (λ b. record { output = b; next = next_id s.next a answers; limit = s.limit })
      (sym (append_assoc o s.output (written (replies s.next id a answers)))),
)

reply_none : {H : Type 0} (does : Does H) (stops : Stops H) (connection : ℕ) (id : ℤ) (a : Asked)
    (why : NoReplies) (h h' : H) (log log' : List LogEntry) (s : ReplyState) (o : List ℕ)
    → ReplyStep does stops connection id a (Err why) h log s h' log' s
    → ReplyStep does stops connection id a (Err why) h log (front s o) h' log' (front s o)
reply_none does stops connection id a reasons.NotAsked h h' log log' s o x = (x.0, x.1, refl)
reply_none does stops connection id a (reasons.Stopped stop) h h' log log' s o x = (x.0, x.1, refl)
reply_none does stops connection id a reasons.TooLarge h h' log log' s o x = (x.0, x.1, x.2, refl)
reply_none does stops connection id a reasons.NoMemory h h' log log' s o x =
    (x.0, x.1, x.2, x.3, refl)

-- the server with these bytes before what it puts out
abbrev pub behind : ServerView → List ℕ → ServerView
behind s o = with_server_output s (o ++ s.output)

pub answer_ok : {H : Type 0} (does : Does H) (stops : Stops H) (k n : ℕ) (s s' : ServerView)
    (h h' : H) (log log' : List LogEntry) (o : List ℕ)
    → AnswerStep does stops k (Ok n) s h log s' h' log'
    → AnswerStep does stops k (Ok n) (behind s o) h log (behind s' o) h' log'
answer_ok does stops k n s s' h h' log log' o (live, is, (m, waits, (r, step, e))) = (
  live,
  is,
  (
    m,
    record { bytes = waits.bytes; at = waits.at; spelled = waits.spelled },
    (
      front r o,
      reply_front does stops s.connection m.id _ h h' log log' _ r o step,
      ap
          (λ (z : ServerView). behind z o) e,
    ),
  ),
)

pub answer_closes : {H : Type 0} (does : Does H) (stops : Stops H) (k : ℕ) (cause : ServerCause)
    (s s' : ServerView) (h h' : H) (log log' : List LogEntry) (o : List ℕ)
    → AnswerStep does stops k (Err (refusals.NowClosed cause)) s h log s' h' log'
    → AnswerStep does stops k (Err (refusals.NowClosed cause)) (behind s o) h log (behind s' o) h'
    log'
answer_closes does stops k cause s s' h h' log log' o (live, e, (m, waits, (why, is, step))) = (
  live,
  ap (λ (z : ServerView). behind z o) e,
  (
    m,
    record { bytes = waits.bytes; at = waits.at; spelled = waits.spelled },
    (why, is, reply_none does stops s.connection m.id _ why h h' log log' _ o step),
  ),
)
