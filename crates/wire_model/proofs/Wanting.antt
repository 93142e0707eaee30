-- A connection that is dropped because memory ran out.
use Rattle.std.proofs.Common.{map, ◌≡◌, ℕ, true, false, List, ◌++◌, length, refl, sym, ◌∙◌, ap, Some, Result, Ok, Err}
use Rattle.std.specs.Prelude.{take}
use Rattle.wire_peer.specs.{ClientSeen, Does, Settles, Stops, allowed, holding, owner}
use Rattle.wire_peer.specs.ClientSteps.{is_bad, is_message, is_open, received}
use Rattle.wire_msg.specs.{Message}
use Rattle.wire_peer.specs.declared.call_table.Outstanding.{Outstanding}
use Rattle.wire_peer.specs.declared.client_state.ClientCause.{ClientCause}
use Rattle.std.specs.Prelude.{ℤ}
use Rattle.wire_model.specs.Conns.{Conn, World, conn_at, conn_set, has_closed_client, settled, settled_record}
use Rattle.wire_model.specs.Cuts.{change, cut_at, cut_both, cut_up, dropped}
use Rattle.wire_model.specs.Machines.{Machine, Steps, stay, go, client_gone, client_lost, server_gone, server_lost}
use Rattle.wire_model.specs.Moves.{ClientTakes, TakesUncopied, with_server_output}
use Rattle.wire_model.proofs.Agreeing.{Agrees, Follows, Here, Ways, ways_after, ways_settled}
use Rattle.wire_model.proofs.Frames.{same_client_gone, same_server_gone, same_then}
use Rattle.wire_model.proofs.Gone.{client_shut, gone_here, server_shut}
use Rattle.wire_model.proofs.Places.{conn_set-same, conn_set-twice}
use Rattle.wire_model.proofs.Ranks.{shows_never}
use Rattle.wire_model.proofs.Routes.{Fits, made_alike}
use Rattle.wire_model.proofs.Settling.{IsShut, settled_shut}
use Rattle.wire_model.proofs.Shuts.{shut_after}

-- what taking bytes leaves of a client's requests
record KeepsRequests (old new : ClientSeen) : Type 0 where
  limit : new.requests.limit ≡ old.requests.limit
  next_id : new.requests.next_id ≡ old.requests.next_id
  next_number : new.requests.next_number ≡ old.requests.next_number

keeps_received : (k : ClientSeen) (m : Message) (r : Result (ℤ × Outstanding) ClientCause) → KeepsRequests k (received k m r)
keeps_received k m (Ok o) = record { limit = refl; next_id = refl; next_number = refl }
keeps_received k m (Err cause) = record { limit = refl; next_id = refl; next_number = refl }

keeps_takes : (k new : ClientSeen) (p : List ℕ) → ClientTakes k p new → KeepsRequests k new
keeps_takes k new p t = by t.takes.settles
  where
    held : ClientSeen
    held = holding k (k.held ++ take (length p) p)

    by : Settles held new → KeepsRequests k new
    by (is_open o e) = rw e (record { limit = refl; next_id = refl; next_number = refl })
    by (is_message m s le e) = let kept = keeps_received held m (allowed m.flags.more_to_come (owner held.requests.outstanding m.response_to)) in
        record {
          limit = ap (λ (z : ClientSeen). z.requests.limit) e ∙ kept.limit;
          next_id = ap (λ (z : ClientSeen). z.requests.next_id) e ∙ kept.next_id;
          next_number = ap (λ (z : ClientSeen). z.requests.next_number) e ∙ kept.next_number;
        }
    by (is_bad f b e) = rw e (record { limit = refl; next_id = refl; next_number = refl })

-- the connection with this client and what is left to send
abbrev left_with : Conn → ClientSeen → List ℕ → Conn
left_with k client rest = record k { client = client; server = with_server_output k.server rest }

-- both ends of a connection of ours are told the end, whatever the client held
both_here : {H : Type 0} (limit c : ℕ) (k : Conn) (m : Machine H) (t g : List ℕ) (client : ClientSeen) (rest : List ℕ) → Here limit c k m t g → k.raw ≡ false → KeepsRequests k.client client
    → Here limit c (cut_both (left_with k client rest)) (client_gone (server_gone m c) c) t g
both_here limit c k m t g client rest h raw kept = record {
  route = h.route;
  fits = record {
    made = made_alike limit c k _ refl refl refl kept.limit kept.next_id kept.next_number refl f.made;
    raw_is = f.raw_is;
    client_is = client_shut client.state _ ∙ sym (gone_here m.client_lives c);
    server_is = server_shut k.server.state _ ∙ sym (gone_here m.server_lives c);
    wait = λ l. absurd (let no : true ≡ false = sym l ∙ gone_here m.server_lives c in cc);
    up = λ l _. absurd (let no : true ≡ false = sym l ∙ gone_here m.server_lives c in cc);
    down = λ l. absurd (let no : true ≡ false = sym l ∙ gone_here m.client_lives c in cc);
    onway_ids = λ l _. absurd (let no : true ≡ false = sym l ∙ gone_here m.client_lives c in cc);
    waiting_ids = λ l _. absurd (let no : true ≡ false = sym l ∙ gone_here m.client_lives c in cc);
    up_uncut = λ _ e. absurd (let no : true ≡ false = e in cc);
    down_uncut = λ _ e. absurd (let no : true ≡ false = e in cc);
  };
  raw = λ is. absurd (let no : true ≡ false = sym is ∙ raw in cc);
}
  where
    f : Fits limit c k m h.route
    f = h.fits

-- the cut of a connection that was just changed
cut_changed : (ks : List Conn) (c : ℕ) (k k' : Conn) → conn_at ks c ≡ Some k → cut_at c (conn_set ks c k') ≡ conn_set ks c (cut_both k')
cut_changed ks c k k' at = ap (λ o. change cut_both o c (conn_set ks c k')) (conn_set-same ks c k k' at) ∙ conn_set-twice ks c k' (cut_both k')

-- the connection of this number has a closed client
both_shut : (ks : List Conn) (c : ℕ) (k k' : Conn) → conn_at ks c ≡ Some k → IsShut (conn_set ks c (cut_both k')) c
both_shut ks c k k' at = ap has_closed_client (conn_set-same ks c k (cut_both k') at) ∙ shut_after (cut_up k')

module _ (H : Type 0) (does : Does H) (stops : Stops H) (limit : ℕ) (t g : ℕ → List ℕ) where
  -- a piece made a reply ready that wasn't copied, and the connection is cut both ways
  pub followed_uncopied : (w mid n : World H) (m : Machine H) (c many : ℕ) → Agrees limit t g w m → (s : TakesUncopied w c many mid) → s.k.raw ≡ false → n ≡ dropped mid c → Follows H does stops limit t g m n
  followed_uncopied w mid n m c many a s raw e =
      let is : n ≡ settled (record w { conns = js }) = e ∙ ap (λ z. dropped z c) s.after ∙ ap (λ ks. settled (record w { conns = ks })) (cut_changed w.conns c s.k k' s.at) in
      rw is (record {
        next = next;
        steps = steps;
        agrees = record {
          ways = ways;
          calls = sym (ways_settled limit t g js next ways) ∙ settled_shut js c (server_gone m c).calls (both_shut w.conns c s.k k' s.at) ∙ ap (map (settled_record js)) (shows_never c m.calls ∙ a.calls);
          log = a.log;
          handler = a.handler;
        };
      })
    where
      k' : Conn
      k' = left_with s.k s.client s.rest

      js : List Conn
      js = conn_set w.conns c (cut_both k')

      next : Machine H
      next = client_gone (server_gone m c) c

      steps : Steps H does stops m next
      steps = go {n = server_gone m c} {o = next} (go {o = server_gone m c} stay (server_lost c refl)) (client_lost c refl)

      ways : Ways limit t g js next
      ways = ways_after H does stops limit t t g g w.conns m next c s.k (cut_both k') a.ways s.at (λ d o. refl) (λ d o. refl) steps
          (both_here limit c s.k m (t c) (g c) s.client s.rest (a.ways.conns c s.k s.at) raw (keeps_takes s.k.client s.client s.piece s.takes))
          (λ d o. same_then d m (server_gone m c) next (same_server_gone d c m o) (same_client_gone d c (server_gone m c) o))
