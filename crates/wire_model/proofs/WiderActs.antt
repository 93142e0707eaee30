-- What an owner does, done by one whose limit is greater: the same acts, and where the first one's end
-- closes over bytes that the greater limit allows, the end is told.
use Rattle.std.proofs.Common.{◌≡◌, ◌≢◌, ℕ, ◌≤◌, List, [], ◌∷◌, ◌++◌, length, take, map, refl, sym, ◌∙◌, ap, subst, Option, Some, None, ◌⊎◌, inl, inr, Result, Ok, Err}
use Rattle.wire_msg.specs.{Message}
use Rattle.wire_peer.specs.{ClientSeen, Settles, allowed, called, content_of, ended, holding, owner, released}
use Rattle.wire_peer.specs.ClientSteps as client_steps
use Rattle.wire_peer.specs.ClientSteps.{after_release, is_bad, is_message, is_open, received, state_after}
use Rattle.wire_peer.specs.declared.call_table.ReadyReply.{ReadyReply}
use Rattle.wire_peer.specs.declared.client_state.ClientCause.{ClientCause}
use Rattle.wire_peer.specs.declared.client_state.ClientState.{ClientState}
use Rattle.wire_peer.specs.declared.client_state.ClientState.TheVariants as clients
use Rattle.wire_model.specs.Moves.{ClientTakes, put_at, with_client_output}
use Rattle.wire_model.specs.Conns.{Record, lost_record, new_record}
use Rattle.wire_model.specs.Machines.{asked_as}
use Rattle.wire_model.specs.Owners.{Answers, Calls, ClientAct, ClientDoes, ClientEnd, ClientRun, Collects, EndsDown, EndsUp, SendsDown, SendsUp, ServerAct, TakesDown, TakesUp, bytes_sent, bytes_taken, sent_by, taken_by}
use Rattle.wire_model.specs.Deeds.{Arrive, AtClient, AtServer, Deed, at_one}
use Rattle.wire_model.proofs.WiderClient as wider
use Rattle.wire_model.proofs.WiderClient.{AreLike, BothOpen, both_ended, both_lost, calls, lets_go, like_last, like_lost, like_put, open_too, shut_ended, still, took}

abbrev pub Arrives : List Deed → List Deed → Type 0
Arrives ds ds' = (up down : ℕ → List ℕ) → Arrive up down ds → Arrive up down ds'

pub arrive_client : (c : ℕ) (act : ClientAct) (ds ds' : List Deed) → Arrives ds ds'
    → Arrives (AtClient c act ∷ ds) (AtClient c act ∷ ds')
arrive_client c (Calls kind payload number) ds ds' f up down a = f up down a
arrive_client c (SendsUp bytes) ds ds' f up down a = f (at_one up c (up c ++ bytes)) down a
arrive_client c (TakesDown bytes) ds ds' f up down (rest, is, a) =
    (rest, is, f up (at_one down c rest) a)
arrive_client c (Collects reply m) ds ds' f up down a = f up down a
arrive_client c EndsDown ds ds' f up down a = f up down a

pub arrive_server : (c : ℕ) (act : ServerAct) (ds ds' : List Deed) → Arrives ds ds'
    → Arrives (AtServer c act ∷ ds) (AtServer c act ∷ ds')
arrive_server c (TakesUp bytes) ds ds' f up down (rest, is, a) =
    (rest, is, f (at_one up c rest) down a)
arrive_server c (Answers i result) ds ds' f up down a = f up down a
arrive_server c (SendsDown bytes) ds ds' f up down a = f up (at_one down c (down c ++ bytes)) a
arrive_server c EndsUp ds ds' f up down a = f up down a

-- ---- the owner of a client

received_limit : (k : ClientSeen) (m : Message) (r : Result _ ClientCause)
    → (received k m r).requests.limit ≡ k.requests.limit
received_limit k m (Ok o) = refl
received_limit k m (Err cause) = refl

took_limit : (k new : ClientSeen) → Settles k new → new.requests.limit ≡ k.requests.limit
took_limit k new (is_open o e) = ap (λ (z : ClientSeen). z.requests.limit) e
took_limit k new (is_message m s le e) =
    ap (λ (z : ClientSeen). z.requests.limit) e
    ∙ received_limit k m (allowed m.flags.more_to_come (owner k.requests.outstanding m.response_to))
took_limit k new (is_bad f bad e) = ap (λ (z : ClientSeen). z.requests.limit) e

released_limit : (k : ClientSeen) → (released k).requests.limit ≡ k.requests.limit
released_limit k = by k.reply
  where
    by : (o : Option ReadyReply) → (after_release o k).requests.limit ≡ k.requests.limit
    by None = refl
    by (Some reply) = refl

module _ (wide : ℕ) where
  same_within : (k new : ClientSeen) → new.requests.limit ≡ k.requests.limit
      → wider.Within wide k → wider.Within wide new
  same_within k new e w = record {
    least = subst (λ n. 26 ≤ n) (sym e) w.least;
    most = subst (λ n. n ≤ wide) (sym e) w.most;
  }

  pub record EndLike (e e0 : ClientEnd) : Type 0 where
    pub state : ClientState
    pub client : e0.client ≡ wider.widened wide e.client state
    pub alike : BothOpen e.client.state state
    pub within : wider.Within wide e.client
    pub records : AreLike e.records e0.records

  pub record ClientGoes (c : ℕ) (act : ClientAct) (mid e0 : ClientEnd) : Type 0 where
    pub more : List ClientAct
    pub mid0 : ClientEnd
    pub run : ClientRun c e0 more mid0
    pub like : EndLike mid mid0
    pub sent : bytes_sent more ≡ sent_by act ++ []
    pub taken : bytes_taken more ≡ taken_by act ++ []
    pub arrive : (ds ds' : List Deed) → Arrives ds ds'
        → Arrives (AtClient c act ∷ ds) (map (AtClient c) more ++ ds')

  module _ (c : ℕ) (e mid : ClientEnd) (state : ClientState) (ys : List Record)
      (alike : BothOpen e.client.state state) (w : wider.Within wide e.client)
      (like : AreLike e.records ys) where
    abbrev k : ClientSeen
    k = e.client

    abbrev e0 : ClientState → ClientEnd
    e0 s = record { client = wider.widened wide k s; records = ys }

    -- one act
    one : (act : ClientAct) (mid0 : ClientEnd) → ClientDoes c act (e0 state) mid0
        → EndLike mid mid0 → ClientGoes c act mid (e0 state)
    one act mid0 does l = record {
      more = act ∷ [];
      mid0 = mid0;
      run = (mid0, does, refl);
      like = l;
      sent = refl;
      taken = refl;
      arrive = arrive_client c act;
    }

    takes : (bytes : List ℕ) (client : ClientSeen) → ClientTakes k bytes client
        → mid ≡ record { client = client; records = e.records }
        → ClientGoes c (TakesDown bytes) mid (e0 clients.Open)
    takes bytes client t is = by g.alike
      where
        g : wider.Took wide k bytes w client
        g = took wide k bytes w client t

        w' : wider.Within wide client
        w' = same_within k client (took_limit
            (holding k (k.held ++ take (length bytes) bytes)) client t.takes.settles) w

        by : BothOpen client.state g.state
            ⊎ ((client.state ≢ clients.Open) × (g.state ≡ clients.Open))
            → ClientGoes c (TakesDown bytes) mid (e0 clients.Open)
        by (inl b) = record {
          more = TakesDown bytes ∷ [];
          mid0 = record { client = wider.widened wide client g.state; records = ys };
          run = (
            record { client = wider.widened wide client g.state; records = ys },
            (wider.widened wide client g.state, g.takes, refl),
            refl,
          );
          like = rw is (record {
            state = g.state;
            client = refl;
            alike = b;
            within = w';
            records = like;
          });
          sent = refl;
          taken = refl;
          arrive = arrive_client c (TakesDown bytes);
        }
        by (inr shut) = record {
          more = TakesDown bytes ∷ EndsDown ∷ [];
          mid0 = record {
            client = ended (wider.widened wide client g.state);
            records = map lost_record ys;
          };
          run = (
            record { client = wider.widened wide client g.state; records = ys },
            (wider.widened wide client g.state, g.takes, refl),
            (
              record {
                client = ended (wider.widened wide client g.state);
                records = map lost_record ys;
              },
              refl,
              refl,
            ),
          );
          like = rw is (record {
            state = state_after g.state (client_steps.end_cause client.reply client.held);
            client = refl;
            alike = shut_ended client.state g.state
                (client_steps.end_cause client.reply client.held) shut.0;
            within = w';
            records = like_lost e.records ys like;
          });
          sent = refl;
          taken = refl;
          arrive = λ ds ds' f up down (rest, first, a). (rest, first, f up (at_one down c rest) a);
        }

    goes : (act : ClientAct) → ClientDoes c act e mid → ClientGoes c act mid (e0 state)
    goes (Calls kind payload number) (is, same) =
        one (Calls kind payload number) (record {
          client = called (wider.widened wide k state) kind (content_of payload) number;
          records = ys ++ new_record c (asked_as kind (content_of payload)) ∷ [];
        }) (calls wide k state kind (content_of payload) number w alike is, refl)
        (rw same (record {
          state = state;
          client = refl;
          alike = alike;
          within = record { least = w.least; most = w.most };
          records = like_last e.records ys _ like;
        }))
    goes (SendsUp bytes) (rest, output, same) =
        one (SendsUp bytes) (record {
          client = with_client_output (wider.widened wide k state) rest;
          records = ys;
        }) (rest, output, refl)
        (rw same (record {
          state = state;
          client = refl;
          alike = alike;
          within = record { least = w.least; most = w.most };
          records = like;
        }))
    goes (TakesDown bytes) (client, t, same) =
        subst (λ z. ClientGoes c (TakesDown bytes) mid (e0 z))
        (sym (open_too k.state state alike t.may.1)) (takes bytes client t same)
    goes (Collects reply m) (ready, spells, same) =
        one (Collects reply m) (record {
          client = released (wider.widened wide k state);
          records = put_at (Some reply.call) m.content reply.last ys;
        }) (ready, spells, refl)
        (rw same (record {
          state = state;
          client = lets_go wide k state;
          alike = subst (λ z. BothOpen z state) (sym (still wide k)) alike;
          within = same_within k (released k) (released_limit k) w;
          records = like_put e.records ys reply.call m.content reply.last like;
        }))
    goes EndsDown same =
        one EndsDown (record {
          client = ended (wider.widened wide k state);
          records = map lost_record ys;
        }) refl
        (rw same (record {
          state = state_after state (client_steps.end_cause k.reply k.held);
          client = refl;
          alike = both_ended k.state state (client_steps.end_cause k.reply k.held)
              (client_steps.end_cause k.reply k.held) alike;
          within = record { least = w.least; most = w.most };
          records = both_lost e.records ys like;
        }))

  pub client_goes : (c : ℕ) (act : ClientAct) (e e0 mid : ClientEnd) → EndLike e e0
      → ClientDoes c act e mid → ClientGoes c act mid e0
  client_goes c act e e0 mid l does =
      subst (ClientGoes c act mid)
      (sym (ap (λ z. record { client = z; records = e0.records }) l.client))
      (goes c e mid l.state e0.records l.alike l.within l.records act does)
