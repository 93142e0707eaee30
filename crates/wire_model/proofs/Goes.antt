-- What each step does, the machine can do.
use Rattle.std.proofs.Common.{◌≡◌, ℕ, suc, ◌<◌, ◌^◌, false, List, [], ◌∷◌, ◌++◌, length, map, take, drop, refl, sym, ◌∙◌, ap, subst, append_assoc, Option, Some, None, Ok, Err}
use Rattle.std.specs.Prelude.{ℤ, pos, ◌≤ℤ◌, FitsSigned}
use Rattle.std.specs.Int.{w32}
use lib.ListN.{length-map}
use Rattle.std.proofs.lemmas.List.{append-nil, take-append-drop}
use Rattle.wire_msg.specs.declared.payloads.Payload.{Payload}
use Rattle.wire_peer.specs.{AnswerStep, ClientSeen, Does, IsCalled, LogEntry, MayTake, ServerView, Stops, Takes, TakesBytes, called, content_of, released}
use Rattle.wire_peer.specs.declared.call_table.ReadyReply.{ReadyReply}
use Rattle.wire_peer.specs.declared.calls.CallKind.{CallKind}
use Rattle.wire_peer.specs.declared.calls.CallNo.{CallNo}
use Rattle.wire_peer.specs.declared.client_state.ClientState.{ClientState}
use Rattle.wire_peer.specs.declared.server_state.AnswerRefusal.TheVariants as refusals
use Rattle.wire_peer.specs.declared.server_state.ServerCause.{ServerCause}
use Rattle.wire_peer.specs.declared.server_state.ServerState.TheVariants as servers
use Rattle.wire_peer.specs.Requesting.{RequestState}
use Rattle.wire_model.specs.Happening.{AreContents}
use Rattle.wire_model.specs.Moves.{ClientTakes, ClientTakesAll, CopiesReply, joined, with_client_output, with_server_output}
use Rattle.wire_model.specs.Conns.{Conn, Record, conn_set, new_record}
use Rattle.wire_model.specs.Machines.{Machine, asked_as, client_gone, client_lost, go, lost, server_gone, server_lost, stay}
use Rattle.wire_model.specs.Cuts.{cut_down, cut_up}
use Rattle.wire_model.specs.Shown.{shown_calls}
use Rattle.wire_model.proofs.Agreeing.{Agrees, Follows, Here, down_here, up_here}
use Rattle.wire_model.proofs.Reaches.{Reaches}
use Rattle.wire_model.proofs.Readies.{ReadyTo, ready_to}
use Rattle.wire_model.proofs.Answered.{answered_reaches, closed_reaches}
use Rattle.wire_model.proofs.Return.{conn_down, released_none}
use Rattle.wire_model.proofs.Arrive.{conn_up}
use Rattle.wire_model.proofs.EachEvent.{follow, followed_calls}
use Rattle.wire_model.proofs.Lists.{map-push}
use Rattle.wire_model.proofs.Begun.{new_here, ways_opened}
use Rattle.wire_model.proofs.Ranks.{ours-lost, shows-map, shows_never}
use Rattle.wire_model.proofs.Frames.{same_client_gone, same_server_gone}
use Rattle.wire_model.proofs.MovesDown.{take_all_down}
use Rattle.wire_model.proofs.MovesUp.{take_all_up}
use Rattle.wire_model.specs.Channels.{answered, Pair, System, Taken, Way, client_ended, given_up, issued, lost_at, new_pair, pair_at, pair_set, paired, server_ended, with_pair}
use Rattle.wire_model.specs.Seen.{seen_as, seen_client, world_of}
use Rattle.wire_model.proofs.Ends.{answer_closes, answer_ok, behind, call_seen, client_of, end_down, fed_output, fed_with, still_called, took_output, took_with}
use Rattle.wire_model.proofs.Pairs.{seen_alike, seen_at, seen_set}

abbrev pub nothing : ℕ → List ℕ
nothing c = []

released_with : (r : RequestState) (h : List ℕ) (reply : Option ReadyReply) (s : ClientState)
    (o : List ℕ) → released (with_client_output (client_of r h reply s) o) ≡ with_client_output
    (released (client_of r h reply s)) o
released_with r h None s o = refl
released_with r h (Some reply) s o = refl

-- the output begins with what was taken
pub first_taken : (way way' : Way) (piece output : List ℕ) (n : ℕ) (t : Taken way piece n way')
    → way.bytes ++ output ≡ joined (take n piece ∷ []) ++ ((drop n piece ++ t.rest) ++ output)
first_taken way way' piece output n t =
    ap (λ b. b ++ output) (t.first ∙ ap (λ b. b ++ t.rest) (sym (take-append-drop n piece))
    ∙ append_assoc (take n piece) (drop n piece) t.rest)
    ∙ append_assoc (take n piece) (drop n piece ++ t.rest) output
    ∙ ap (λ b. b ++ ((drop n piece ++ t.rest) ++ output)) (sym (append-nil (take n piece)))

module _ (H : Type 0) (does : Does H) (stops : Stops H) (limit : ℕ) (short : limit < 2 ^ 31) where
  abbrev pub Stands : Machine H → System H → List Record → Type 0
  Stands m s ys = Agrees limit nothing nothing (world_of s ys) m

  abbrev pub Goes : Machine H → System H → List Record → Type 0
  Goes m s ys = Follows H does stops limit nothing nothing m (world_of s ys)

  -- one pair goes on
  go_on : (s s' : System H) (ys ys' : List Record) (m : Machine H) (c : ℕ) (p q : Pair) (k' : Conn)
      → Stands m s ys
      → pair_at s.pairs c ≡ Some p → Reaches H does stops limit c k' m ys' s'.log s'.handler [] []
      → s'.pairs ≡ pair_set s.pairs c q → seen_as q ≡ k' → Goes m s' ys'
  go_on s s' ys ys' m c p q k' a at r e is =
      follow H does stops limit short nothing nothing nothing nothing (world_of s ys)
      (world_of s' ys') m c (seen_as p) k' a
      (seen_at s.pairs c p at) (λ d o. refl) (λ d o. refl) r
      (ap (map seen_as) e ∙ seen_set s.pairs c q ∙ ap (conn_set (map seen_as s.pairs) c) is)

  -- nothing is seen
  pub unseen : (s s' : System H) (ys : List Record) (m : Machine H) (c : ℕ) (p q : Pair)
      → Stands m s ys → pair_at s.pairs c ≡ Some p → seen_as q ≡ seen_as p
      → s'.pairs ≡ pair_set s.pairs c q → s'.log ≡ s.log → s'.handler ≡ s.handler → Goes m s' ys
  unseen s s' ys m c p q a at same e log handler = record {
    next = m;
    steps = stay;
    agrees = record {
      ways = rw (ap (map seen_as) e ∙ seen_alike s.pairs c p q at same) a.ways;
      calls = a.calls;
      log = a.log ∙ sym log;
      handler = a.handler ∙ sym handler;
    };
  }

  abbrev here : (s : System H) (ys : List Record) (m : Machine H) (c : ℕ) (p : Pair)
      → Stands m s ys → pair_at s.pairs c ≡ Some p → Here limit c (seen_as p) m [] []
  here s ys m c p a at = a.ways.conns c (seen_as p) (seen_at s.pairs c p at)

  pub goes_calls : (s : System H) (ys : List Record) (m : Machine H) (c : ℕ) (p : Pair)
      (kind : CallKind) (payload : Payload) (number : CallNo) → Stands m s ys → length ys ≡ length
      s.calls → pair_at s.pairs c ≡ Some p
      → IsCalled p.client kind (content_of payload) number
      → Goes m (issued s c p kind (content_of payload) number)
      (ys ++ new_record c (asked_as kind (content_of payload)) ∷ [])
  goes_calls s ys m c p kind payload number a many at is =
      followed_calls H does stops limit short nothing nothing (world_of s ys)
      (world_of (issued s c p kind (content_of payload) number)
      (ys ++ new_record c (asked_as kind (content_of payload)) ∷ [])) m c kind payload number a
      (record {
        k = seen_as p;
        at = seen_at s.pairs c p at;
        accepted =
            still_called p.client.requests p.client.held p.client.reply p.client.state
            (p.up.bytes ++ p.client.requests.output) kind (content_of payload) number is;
        after =
            ap (λ ks. record (world_of s (ys ++ new_record c (asked_as kind (content_of payload)) ∷
            [])) { conns = ks })
            (seen_set s.pairs c (record p {
              client = called p.client kind (content_of payload)
                  number;
              calls = p.calls ++ length s.calls ∷ [];
            })
            ∙ ap (conn_set (map seen_as s.pairs) c) (call_seen p (p.calls ++ length s.calls ∷ [])
            kind (content_of payload) number
            ∙ ap (λ n. record (seen_as p) {
              client = called (seen_client p) kind
                  (content_of payload) number;
              calls = p.calls ++ n ∷ [];
            }) (sym many)));
      })

  pub goes_up : (s : System H) (ys : List Record) (m : Machine H) (c : ℕ) (p : Pair)
      (piece : List ℕ) (n : ℕ) (server : ServerView) (way : Way) → Stands m s ys → pair_at s.pairs
      c ≡ Some p
      → p.server.state ≡ servers.Open → length p.server.waiting < p.server.window
      → TakesBytes p.server piece n server → Taken p.up piece n way
      → Goes m (with_pair s c (record p { server = server; up = way })) ys
  goes_up s ys m c p piece n server way a at live room takes t =
      go_on s (with_pair s c (record p { server = server; up = way })) ys ys m c p
      (record p { server = server; up = way }) (conn_up (seen_as p) server' rest) a at
      (record {
        next = r.next;
        steps = r.steps;
        here = r.here;
        others = r.others;
        calls_are = r.calls_are ∙ a.calls;
        log_is = r.log_is ∙ a.log;
        handler_is = r.handler_is ∙ a.handler;
      }) refl (ap (λ (w : Way). record (seen_as p) {
        client = with_client_output (released p.client) (w.bytes ++ p.client.requests.output);
        server = with_server_output server (p.down.bytes ++ server.output);
      }) t.after
      ∙ ap (λ b. record (seen_as p) {
        client = with_client_output (released p.client) rest;
        server = with_server_output server (p.down.bytes ++ b);
      })
      (fed_output p.server piece n server takes))
    where
      rest : List ℕ
      rest = (drop n piece ++ t.rest) ++ p.client.requests.output

      server' : ServerView
      server' = with_server_output server (p.down.bytes ++ p.server.output)

      r : Reaches H does stops limit c (conn_up (seen_as p) server' rest) m (shown_calls m.calls)
          m.log m.handler [] []
      r =
          take_all_up H does stops limit short c (take n piece ∷ []) (seen_as p) m [] [] rest
          server' (here s ys m c p a at) refl
          (first_taken p.up way piece p.client.requests.output n t) (
            server',
            record {
              is_open = live;
              has_room = room;
              takes = fed_with p.server piece
                  (p.down.bytes ++ p.server.output) n server takes;
            },
            refl,
          )

  -- ---- the client is fed

  abbrev mid_of : Pair → ClientSeen → ClientSeen
  mid_of p client = with_client_output client (p.up.bytes ++ p.client.requests.output)

  took_seen : (p : Pair) (piece : List ℕ) (n : ℕ) (client : ClientSeen) → MayTake p.client
      → Takes p.client piece n client
      → ClientTakes (seen_client p) (take n piece) (mid_of p client)
  took_seen p piece n client may takes =
      subst (λ (z : ClientSeen). ClientTakes
      (with_client_output z (p.up.bytes ++ p.client.requests.output)) (take n piece)
      (mid_of p client)) (sym (released_none p.client may.0))
      (record {
        may = may;
        takes = took_with p.client piece
            (p.up.bytes ++ p.client.requests.output) n client takes;
      })

  pub goes_down : (s : System H) (ys ys' : List Record) (m : Machine H) (c : ℕ) (p : Pair)
      (piece : List ℕ) (n : ℕ) (client : ClientSeen) (way : Way) → Stands m s ys → pair_at s.pairs
      c ≡ Some p
      → MayTake p.client → Takes p.client piece n client → Taken p.down piece n way
      → CopiesReply p.calls client.held client.reply ys ys'
      → Goes m (with_pair s c (record p { client = client; down = way })) ys'
  goes_down s ys ys' m c p piece n client way a at may takes t copies =
      go_on s (with_pair s c (record p { client = client; down = way })) ys ys' m c p
      (record p { client = client; down = way })
      (conn_down (seen_as p) (released (mid_of p client)) rest) a at (record {
        next = r.next;
        steps = r.steps;
        here = r.here;
        others = r.others;
        calls_are = r.calls_are;
        log_is = r.log_is ∙ a.log;
        handler_is = r.handler_is ∙ a.handler;
      }) refl (ap (λ (w : Way). record (seen_as p) {
        client = with_client_output (released client)
            (p.up.bytes ++ client.requests.output);
        server = with_server_output p.server
            (w.bytes ++ p.server.output);
      }) t.after
      ∙ ap (λ (k : ClientSeen). record (seen_as p) {
        client = k;
        server = with_server_output
            p.server rest;
      })
      (ap (λ b. with_client_output (released client) (p.up.bytes ++ b))
      (took_output p.client piece n client takes)
      ∙ sym (released_with client.requests client.held client.reply client.state
      (p.up.bytes ++ p.client.requests.output))))
    where
      rest : List ℕ
      rest = (drop n piece ++ t.rest) ++ p.server.output

      r : Reaches H does stops limit c (conn_down (seen_as p) (released (mid_of p client)) rest) m
          ys' m.log m.handler [] []
      r =
          take_all_down H does stops limit short c (take n piece ∷ []) (seen_as p) m [] [] rest
          (released (mid_of p client)) ys' a.ways.ok (here s ys m c p a at) refl
          (first_taken p.down way piece p.server.output n t)
          (subst (λ z. ClientTakesAll p.calls (seen_client p) z (take n piece ∷ [])
          (released (mid_of p client)) ys') (sym a.calls)
          (mid_of p client, took_seen p piece n client may takes, (ys', copies, (refl, refl))))

  pub ready_down : (s : System H) (ys : List Record) (m : Machine H) (c : ℕ) (p : Pair)
      (piece : List ℕ) (n : ℕ) (client : ClientSeen) (way : Way) (reply : ReadyReply)
      → Stands m s ys → pair_at s.pairs c ≡ Some p
      → MayTake p.client → Takes p.client piece n client → Taken p.down piece n way
      → client.reply ≡ Some reply → ReadyTo (seen_as p) m reply
  ready_down s ys m c p piece n client way reply a at may takes t is =
      ready_to limit short c (seen_as p) m [] [] (take n piece)
      ((drop n piece ++ t.rest) ++ p.server.output) (mid_of p client) reply
      (here s ys m c p a at) refl
      (first_taken p.down way piece p.server.output n t
      ∙ ap (λ b. b ++ ((drop n piece ++ t.rest) ++ p.server.output)) (append-nil (take n piece)))
      (took_seen p piece n client may takes) is

  -- ---- answers

  pub goes_answers : (s : System H) (ys : List Record) (m : Machine H) (c : ℕ) (p : Pair) (i n : ℕ)
      (server : ServerView) (handler : H) (log : List LogEntry) → Stands m s ys → pair_at s.pairs c
      ≡ Some p
      → AnswerStep does stops i (Ok n) p.server s.handler s.log server handler log
      → AreContents log → Goes m (answered s c p server handler log) ys
  goes_answers s ys m c p i n server handler log a at step contents =
      let r =
      answered_reaches H does stops limit c i n (seen_as p) m s.handler s.log
      (behind server p.down.bytes) handler log [] [] a.ways.ok (here s ys m c p a at) a.handler
      a.log
      (answer_ok does stops i n p.server server s.handler handler s.log log p.down.bytes step)
      contents in
      go_on s (answered s c p server handler log) ys ys m c p (record p { server = server })
      (record (seen_as p) { server = behind server p.down.bytes }) a at
      (record {
        next = r.next;
        steps = r.steps;
        here = r.here;
        others = r.others;
        calls_are =
            r.calls_are ∙ a.calls;
        log_is = r.log_is;
        handler_is = r.handler_is;
      }) refl refl

  pub goes_closes : (s : System H) (ys : List Record) (m : Machine H) (c : ℕ) (p : Pair) (i : ℕ)
      (cause : ServerCause) (server : ServerView) (handler : H) (log : List LogEntry)
      → Stands m s ys → pair_at s.pairs c ≡ Some p
      → AnswerStep does stops i (Err (refusals.NowClosed cause)) p.server s.handler s.log server
      handler log → Goes m (answered s c p server handler log) ys
  goes_closes s ys m c p i cause server handler log a at step =
      let r =
      closed_reaches H does stops limit c i cause (seen_as p) m s.handler s.log
      (behind server p.down.bytes) handler log [] [] a.ways.ok (here s ys m c p a at) a.handler
      a.log
      (answer_closes does stops i cause p.server server s.handler handler s.log log p.down.bytes
      step) in
      go_on s (answered s c p server handler log) ys ys m c p (record p { server = server })
      (record (seen_as p) { server = behind server p.down.bytes }) a at
      (record {
        next = r.next;
        steps = r.steps;
        here = r.here;
        others = r.others;
        calls_are =
            r.calls_are ∙ a.calls;
        log_is = r.log_is;
        handler_is = r.handler_is;
      }) refl refl

  -- ---- ends

  pub goes_ends_up : (s : System H) (ys : List Record) (m : Machine H) (c : ℕ) (p : Pair)
      → Stands m s ys → pair_at s.pairs c ≡ Some p → Goes m (with_pair s c (server_ended p)) ys
  goes_ends_up s ys m c p a at =
      go_on s (with_pair s c (server_ended p)) ys ys m c p (server_ended p) (cut_up (seen_as p)) a
      at (record {
        next = server_gone m c;
        steps = go {o = server_gone m c} stay (server_lost c refl);
        here = up_here H does stops limit c (seen_as p) m [] [] (here s ys m c p a at);
        others = λ d o. same_server_gone d c m o;
        calls_are = shows_never c m.calls ∙ a.calls;
        log_is = a.log;
        handler_is = a.handler;
      }) refl refl

  pub goes_ends_down : (s : System H) (ys : List Record) (m : Machine H) (c : ℕ) (p : Pair)
      → Stands m s ys → pair_at s.pairs c ≡ Some p → Goes m (given_up s c p) (map (lost_at c) ys)
  goes_ends_down s ys m c p a at =
      go_on s (given_up s c p) ys (map (lost_at c) ys) m c p (client_ended p)
      (cut_down (seen_as p)) a at (record {
        next = client_gone m c;
        steps = go {o = client_gone m c} stay (client_lost c refl);
        here = down_here H does stops limit c (seen_as p) m [] [] (here s ys m c p a at);
        others = λ d o. same_client_gone d c m o;
        calls_are =
            shows-map (lost c) (lost_at c) (λ x. refl) (ours-lost c) m.calls
            ∙ ap (map (lost_at c)) a.calls;
        log_is = a.log;
        handler_is = a.handler;
      }) refl (end_down p)

  -- ---- a pair is made

  pub goes_pairs : (s : System H) (ys : List Record) (m : Machine H) (first_id : ℤ)
      (client_window server_window : ℕ) → Stands m s ys
      → ((c : ℕ) → m.raw c ≡ false) → pos 1 ≤ℤ first_id → FitsSigned w32 first_id
      → Goes m (paired s (new_pair (suc (length s.pairs)) limit first_id client_window
      server_window)) ys
  goes_pairs s ys m first_id client_window server_window a none least fits = record {
    next = m;
    steps = stay;
    agrees = record {
      ways = rw (map-push seen_as s.pairs (made (length s.pairs)))
          (ways_opened limit nothing nothing ks m a.ways (seen_as (made (length s.pairs)))
          here_made);
      calls = a.calls;
      log = a.log;
      handler = a.handler;
    };
  }
    where
      ks : List Conn
      ks = map seen_as s.pairs

      made : ℕ → Pair
      made n = new_pair (suc n) limit first_id client_window server_window

      here_made : Here limit (suc (length ks)) (seen_as (made (length s.pairs))) m [] []
      here_made =
          subst (λ n. Here limit (suc (length ks)) (seen_as (made n)) m [] [])
          (length-map s.pairs seen_as)
          (new_here limit nothing nothing ks m a.ways first_id client_window server_window least
          fits
          (sym (none (suc (length ks)))))
