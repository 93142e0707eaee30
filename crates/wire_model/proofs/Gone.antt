-- A half of a connection is lost.
use Rattle.std.proofs.Common.{◌≡◌, ℕ, Bool, true, false, eqb, refl, sym, ◌∙◌, ap, arith}
use Rattle.std.specs.Prelude.{if◌then◌else◌}
use Rattle.std.proofs.lemmas.Bool.Decides.{nat_tests}
use Rattle.wire_peer.specs.{ClientSeen, ServerView, closed_for, ended}
use Rattle.wire_peer.specs.ClientSteps.{state_after}
use Rattle.wire_peer.specs.declared.client_state.ClientCause.{ClientCause}
use Rattle.wire_peer.specs.declared.client_state.ClientState.{ClientState}
use Rattle.wire_peer.specs.declared.client_state.ClientState.TheVariants as clients
use Rattle.wire_peer.specs.declared.server_state.ServerCause.{ServerCause}
use Rattle.wire_peer.specs.declared.server_state.ServerState.{ServerState}
use Rattle.wire_peer.specs.declared.server_state.ServerState.TheVariants as servers
use Rattle.wire_model.specs.Conns.{Conn}
use Rattle.wire_model.specs.Cuts.{cut_down}
use Rattle.wire_model.specs.Machines.{Call, Place, OnWay, Waiting, Answered, Mute, Never, Machine, all_but, never_place, never, lost, client_gone, server_gone}
use Rattle.wire_model.specs.Shown.{IsOpenOrStopped}
use Rattle.wire_model.proofs.Lists.{get-map}
use Rattle.wire_model.proofs.Exacts.{exact_map}
use Rattle.wire_model.proofs.Ranks.{rank-map, ours-lost}
use Rattle.wire_model.proofs.Routes.{Route, Fits, IsMade, OnWayAt, WaitingAt, DueAt, lives, server_lives, tag_calls, due_calls}
use Rattle.wire_model.proofs.Kept.{kept_map, wait_kept, down_kept, up_kept}

pub gone_here : (f : ℕ → Bool) (c : ℕ) → all_but f c c ≡ false
gone_here f c = grind (arith, nat_tests)

pub gone_other : (f : ℕ → Bool) (c d : ℕ) → (d ≡ c → ⊥) → all_but f c d ≡ f d
gone_other f c d n = grind (arith, nat_tests)

pub client_shut : (s : ClientState) (cause : ClientCause) → lives (state_after s cause) ≡ false
client_shut clients.Open cause = refl
client_shut (clients.Closed first) cause = refl

pub server_shut : (s : ServerState) (cause : ServerCause) → server_lives (closed_for cause s) ≡ false
server_shut servers.Open cause = refl
server_shut (servers.Closed first) cause = refl

pub never_to : (c : ℕ) (x : Call) (e : ℕ) → x.place ≡ Answered e → (never c x).place ≡ Answered e
never_to c x e p = elim (eqb x.connection c) as (λ b. (if b then never_place x.place else x.place) ≡ Answered e) [ true ↦ ap never_place p | false ↦ p ]

never_place_from : (p : Place) (e : ℕ) → never_place p ≡ Answered e → p ≡ Answered e
never_place_from OnWay e q = cc
never_place_from Waiting e q = cc
never_place_from (Answered i) e q = q
never_place_from (Mute i) e q = cc
never_place_from Never e q = cc

pub never_from : (c : ℕ) (x : Call) (e : ℕ) → (never c x).place ≡ Answered e → x.place ≡ Answered e
never_from c x e p = elim (eqb x.connection c) as (λ b. (if b then never_place x.place else x.place) ≡ Answered e → x.place ≡ Answered e) [ true ↦ λ q. never_place_from x.place e q | false ↦ λ q. q ] p

-- the connection with this client, its way down cut or not
abbrev pub with_client_down : Conn → ClientSeen → Bool → Conn
with_client_down k client cut = record k { client = client; down_cut = cut }

-- the connection with this server, its way up cut or not
abbrev pub with_server_up : Conn → ServerView → Bool → Conn
with_server_up k server cut = record k { server = server; up_cut = cut }

-- the client is closed; what was on the way up stays there
pub client_shut_fits : {H : Type 0} (limit c : ℕ) (k : Conn) (m : Machine H) (r : Route) (client : ClientSeen) (cut : Bool) → client.requests ≡ k.client.requests → lives client.state ≡ false
    → (k.raw ≡ false → cut ≡ false → client.state ≡ clients.Open) → Fits limit c k m r → Fits limit c (with_client_down k client cut) (client_gone m c) r
client_shut_fits limit c k m r client cut same shut uncut f = record {
  made = record {
    limit_up = f.made.limit_up;
    limit_down = rw same f.made.limit_down;
    connection = f.made.connection;
    reply_id = f.made.reply_id;
    request_id = rw same f.made.request_id;
    numbered = rw same f.made.numbered;
  };
  raw_is = f.raw_is;
  client_is = shut ∙ sym (gone_here m.client_lives c);
  server_is = f.server_is;
  wait = λ l. wait_kept c k.server.waiting m (client_gone m c) r.waiting
      (exact_map (WaitingAt c) (lost c) m.calls (tag_calls r.waiting) (λ x q. q) (λ x q. q) (f.wait l).are)
      (kept_map m.calls (lost c) (λ x. refl) (ours-lost c)) (f.wait l);
  up = λ l raw. rw same (up_kept limit c k.server.held k.client.requests.output m (client_gone m c) r.onway
      (exact_map (OnWayAt c) (lost c) m.calls (tag_calls r.onway) (λ x q. q) (λ x q. q) (f.up l raw).are)
      (kept_map m.calls (lost c) (λ x. refl) (ours-lost c)) (f.up l raw));
  down = λ l. let no : true ≡ false = sym l ∙ gone_here m.client_lives c in cc;
  onway_ids = λ l b. let no : true ≡ false = sym l ∙ gone_here m.client_lives c in cc;
  waiting_ids = λ l b. let no : true ≡ false = sym l ∙ gone_here m.client_lives c in cc;
  up_uncut = f.up_uncut;
  down_uncut = uncut;
}

-- the way down is cut
pub client_gone_fits : {H : Type 0} (limit c : ℕ) (k : Conn) (m : Machine H) (r : Route) → Fits limit c k m r → Fits limit c (cut_down k) (client_gone m c) r
client_gone_fits limit c k m r f = client_shut_fits limit c k m r (ended k.client) true refl (client_shut k.client.state _) (λ raw e. cc) f

-- the server is closed; what was on the way down stays there
pub server_gone_fits : {H : Type 0} (limit c : ℕ) (k : Conn) (m : Machine H) (r : Route) (server : ServerView) (cut : Bool) → server.output ≡ k.server.output → server_lives server.state ≡ false
    → IsMade limit c (with_server_up k server cut) → (k.raw ≡ false → cut ≡ false → IsOpenOrStopped server.state) → Fits limit c k m r
    → Fits limit c (with_server_up k server cut) (server_gone m c) r
server_gone_fits limit c k m r server cut same shut made uncut f = record {
  made = made;
  raw_is = f.raw_is;
  client_is = f.client_is;
  server_is = shut ∙ sym (gone_here m.server_lives c);
  wait = λ l. let no : true ≡ false = sym l ∙ gone_here m.server_lives c in cc;
  up = λ l raw. let no : true ≡ false = sym l ∙ gone_here m.server_lives c in cc;
  down = λ l. rw same (down_kept limit c k.client.held k.server.output k.client.reply k.client.requests.outstanding k.calls m (server_gone m c) r.due
      (exact_map (DueAt c) (never c) m.calls (due_calls r.due) (λ x q. (q.0, q.1, (q.2.0, never_to c x q.2.0 q.2.1))) (λ x q. (q.0, q.1, (q.2.0, never_from c x q.2.0 q.2.1))) (f.down l).are)
      (λ d is. record {
        tag = record { x = never c is.tag.x; at = get-map (never c) m.calls d.tag.call is.tag.x is.tag.at; asked = is.tag.asked; index = rank-map (never c) (λ x. refl) m.calls d.tag.call ∙ is.tag.index };
        place = never_to c is.tag.x d.entry is.place;
        entry = is.entry;
        in_log = is.in_log;
        answers = is.answers;
        fair = is.fair;
      }) (f.down l));
  onway_ids = λ b l. let no : true ≡ false = sym l ∙ gone_here m.server_lives c in cc;
  waiting_ids = λ b l. let no : true ≡ false = sym l ∙ gone_here m.server_lives c in cc;
  up_uncut = uncut;
  down_uncut = f.down_uncut;
}
