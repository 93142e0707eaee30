-- One act in front of others, and a whole message that is taken in one act.
use Rattle.std.proofs.Common.{◌≡◌, ℕ, ◌≤◌, ℤ, List, [], ◌∷◌, ◌++◌, length, take, refl, sym, ◌∙◌, ap, subst, arith, Option, Some, None, inr}
use Rattle.std.proofs.Math.Seq.{take-length}
use Rattle.std.proofs.lemmas.List.{append-nil}
use Rattle.wire_msg.specs.{IsOpen, Message, SpellsMsg}
use Rattle.wire_msg.specs.declared.payloads.Payload.{Payload}
use Rattle.wire_msg.proofs.Lemmas.{open_not_whole, whole_read}
use Rattle.wire_stream.specs.{HoldsNoMore}
use Rattle.wire_stream.specs.declared.reader_state.ReaderState.TheVariants.{Need, Ready}
use Rattle.wire_peer.specs.{ClientSeen, IsCalled, LogEntry, ServerView, Table, after_message, called, content_of, released}
use Rattle.wire_peer.specs.ClientSteps.{is_message}
use Rattle.wire_peer.specs.declared.call_table.ReadyReply.{ReadyReply}
use Rattle.wire_peer.specs.declared.calls.CallKind.{CallKind}
use Rattle.wire_peer.specs.declared.calls.CallNo.{CallNo}
use Rattle.wire_peer.specs.declared.client_state.ClientState.TheVariants as clients
use Rattle.wire_peer.specs.declared.server_state.ServerState.TheVariants as servers
use Rattle.wire_model.specs.Moves.{ClientTakes, ServerTakes, put_at, with_client_output}
use Rattle.wire_model.specs.Machines.{asked_as}
use Rattle.wire_model.specs.Conns.{new_record}
use Rattle.wire_model.specs.Owners.{Calls, ClientAct, ClientEnd, ClientRun, Collects, SendsUp, ServerAct, ServerDoes, ServerEnds, TakesDown, server_at, server_set}
use Rattle.wire_model.specs.Deeds.{AtServer, Deed, ServersRun}
use Rattle.wire_model.specs.Witness.{echoes, never_stops}

-- ---- acts, each before the others

module _ (c : ℕ) (acts : List ClientAct) (old new : ClientEnd) where
  pub calls_on : (kind : CallKind) (payload : Payload) (number : CallNo)
      → IsCalled old.client kind (content_of payload) number
      → ClientRun c (record {
        client = called old.client kind (content_of payload) number;
        records = old.records ++ new_record c (asked_as kind (content_of payload)) ∷ [];
      }) acts new
      → ClientRun c old (Calls kind payload number ∷ acts) new
  calls_on kind payload number is run = (
    record {
      client = called old.client kind (content_of payload) number;
      records = old.records ++ new_record c (asked_as kind (content_of payload)) ∷ [];
    },
    (is, refl),
    run,
  )

  pub sends_on : (bytes : List ℕ) → old.client.requests.output ≡ bytes
      → ClientRun c (record { client = with_client_output old.client []; records = old.records })
      acts new
      → ClientRun c old (SendsUp bytes ∷ acts) new
  sends_on bytes is run = (
    record { client = with_client_output old.client []; records = old.records },
    ([], is ∙ sym (append-nil bytes), refl),
    run,
  )

  pub takes_on : (bytes : List ℕ) (client : ClientSeen) → ClientTakes old.client bytes client
      → ClientRun c (record { client = client; records = old.records }) acts new
      → ClientRun c old (TakesDown bytes ∷ acts) new
  takes_on bytes client takes run =
      (record { client = client; records = old.records }, (client, takes, refl), run)

  pub collects_on : (reply_ : ReadyReply) (m : Message) → old.client.reply ≡ Some reply_
      → SpellsMsg m old.client.held
      → ClientRun c (record {
        client = released old.client;
        records = put_at (Some reply_.call) m.content reply_.last old.records;
      }) acts new
      → ClientRun c old (Collects reply_ m ∷ acts) new
  collects_on reply_ m ready spells run = (
    record {
      client = released old.client;
      records = put_at (Some reply_.call) m.content reply_.last old.records;
    },
    (ready, spells, refl),
    run,
  )

pub serves_on : (deeds : List Deed) (old new : ServerEnds (Unit {0})) (act : ServerAct)
    (s s' : ServerView) (log : List LogEntry) → server_at old.servers 1 ≡ Some s
    → ServerDoes echoes never_stops act s old.log old.handler s' log tt
    → ServersRun echoes never_stops (record {
      servers = server_set old.servers 1 s';
      log = log;
      handler = tt;
    }) deeds new
    → ServersRun echoes never_stops old (AtServer 1 act ∷ deeds) new
serves_on deeds old new act s s' log at does run = (
  record { servers = server_set old.servers 1 s'; log = log; handler = tt },
  record { s = s; at = at; s' = s'; does_ = does; after = refl },
  run,
)

-- ---- a whole message is taken in one act

pub whole_no_more : (limit : ℕ) (m : Message) (b : List ℕ) → SpellsMsg m b → length b ≤ limit
    → HoldsNoMore limit b
whole_no_more limit m b s le =
    let w = whole_read limit b [] m (record {
      front = b;
      parts = sym (append-nil b);
      spelled = s;
      within = le;
    }) in
    inr (w.good, omega (arith, w.announced))

module _ (limit : ℕ) (m : Message) (b : List ℕ) (s : SpellsMsg m b) (le : length b ≤ limit) where
  all_of_it : b ≡ take (length b) b
  all_of_it = sym (take-length b)

  abbrev pub client_of : Table → ℤ → Option ℕ → List ℕ → Option ReadyReply → ClientSeen
  client_of table id number held reply_ = record {
    requests = record {
      limit = limit;
      window = 1;
      output = [];
      outstanding = table;
      next_id = id;
      next_number = number;
    };
    held = held;
    reply = reply_;
    state = clients.Open;
  }

  pub client_takes : (table : Table) (id : ℤ) (number : Option ℕ)
      → ClientTakes (client_of table id number [] None) b
      (after_message (client_of table id number b None) m)
  client_takes table id number = record {
    may = (refl, refl);
    takes = record {
      within = omega arith;
      no_more = subst (HoldsNoMore limit) all_of_it (whole_no_more limit m b s le);
      all = λ o. absurd (open_not_whole limit b [] m (subst (IsOpen limit) (sym all_of_it) o) (record {
        front = b;
        parts = sym (append-nil b);
        spelled = s;
        within = le;
      }));
      settles = is_message m (subst (SpellsMsg m) all_of_it s)
          (subst (λ z. length z ≤ limit) all_of_it le)
          (ap (λ z. after_message (client_of table id number z None) m) all_of_it);
    };
  }

  abbrev pub server_of : List (List ℕ) → List ℕ → ℕ → ServerView
  server_of waiting output id = record {
    connection = 1;
    window = 1;
    limit = limit;
    held = [];
    waiting = waiting;
    output = output;
    next_id = id;
    state = servers.Open;
  }

  pub server_takes : (id : ℕ) → ServerTakes (server_of [] [] id) b (server_of (b ∷ []) [] id)
  server_takes id = record {
    is_open = refl;
    has_room = omega arith;
    takes = record {
      bytes = b;
      found = Ready;
      fed = record {
        taken = omega arith;
        held = all_of_it;
        state = (le, (m, s));
        no_more = whole_no_more limit m b s le;
        all = λ e. absurd (not_need e);
      };
      is = refl;
    };
  }
    where
      not_need : Ready ≡ Need → ⊥
      not_need e = cc
