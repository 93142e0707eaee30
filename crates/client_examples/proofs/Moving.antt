-- What each step of the ends is to the system that they are.
use Rattle.std.proofs.Common.{◌≡◌, ℕ, ◌<◌, ◌≤◌, Bool, true, false, List, [], ◌∷◌, ◌++◌, length, drop, take, map, Some, Result, refl, sym, ◌∙◌, ap, arith, pos}
use Rattle.std.specs.Prelude.{slice_get}
use Rattle.std.proofs.lemmas.List.{drop-append-le, length-map}
use Rattle.wire_msg.specs.{Message, SpellsMsg}
use Rattle.wire_msg.specs.declared.payloads.Payload.{Payload}
use Rattle.wire_peer.specs.{AnswerStep, ClientSeen, Does, IsCalled, MayTake, ServerView, Stops, Takes, TakesBytes, called, content_of, ended, log_of, new_client, new_server, released}
use Rattle.wire_peer.specs.declared.call_table.ReadyReply.{ReadyReply}
use Rattle.wire_peer.specs.declared.calls.CallKind.{CallKind}
use Rattle.wire_peer.specs.declared.calls.CallNo.{CallNo}
use Rattle.wire_peer.specs.declared.log.Logged.{Logged}
use Rattle.wire_peer.specs.declared.server_state.AnswerRefusal.{AnswerRefusal}
use Rattle.wire_peer.specs.declared.server_state.ServerState.TheVariants.{Open}
use Rattle.wire_msg.specs.{Content}
use Rattle.wire_model.specs.{asked_as, ended_server, lost_record, new_record, put_at, with_client_output, with_server_output}
use Rattle.wire_model.proofs.Lemmas.{log_contents}
use Rattle.wire_model.specs.Channels.{Comes, IsCut, Pair, Step, Steps, System, Way, client_sent, fewer, pair_at, pair_set, put_in, server_ended, server_sent, with_pair}
use Rattle.wire_model.specs.Channels as channels
use Rattle.client_examples.specs.declared.pair.ends.Ends.{Ends}
use Rattle.wire_end.specs.{record_of, records_of}
use Rattle.wire_end.specs.declared.call_record.CallRecord.{CallRecord}
use Rattle.client_examples.specs.Owning.{message_limit}
use Rattle.client_examples.specs.Pairs.{Moves, Reached, StepsLead, pair_of}
use Rattle.client_examples.proofs.Acting.{acts_answered, acts_called, acts_collected, acts_ended_down, acts_ended_up, acts_fed_client, acts_fed_server, acts_on, acts_sent_down, acts_sent_up, no_acts, told_new, told_on}
use Rattle.client_examples.proofs.Keeping.{called_as, length_put, lost_as, numbered_on, put_as_numbered}

module _ {H : Type 0} (does : Does H) (stops : Stops H) where
  steps_on : {a b c : System H} → Steps H does stops message_limit a b → Steps H does stops message_limit b c
      → Steps H does stops message_limit a c
  steps_on x channels.stay = x
  steps_on x (channels.go r st) = channels.go (steps_on x r) st

  pub moves_on : (a b c : Ends H) → Moves does stops a b → Moves does stops b c → Moves does stops a c
  moves_on a b c m n = record {
    steps = λ s shows.
        let x = m.steps s shows in
        let y = n.steps x.0 x.2 in
        (y.0, steps_on x.1 y.1, y.2);
    acts = acts_on does stops a b c m.acts n.acts;
  }

  pub stays : (e : Ends H) → Moves does stops e e
  stays e = record { steps = λ s shows. (s, channels.stay, shows); acts = no_acts does stops e e refl refl refl refl }

  -- a step that changes the pair alone
  changes : (old new : Ends H) → new.calls ≡ old.calls → new.logged ≡ old.logged
      → ((s : System H) (calls : List ℕ) (t u : Bool) → pair_at s.pairs 1 ≡ Some (pair_of old calls t u)
      → (t' : Bool) × Step H does stops message_limit s (with_pair s 1 (pair_of new calls t' u)))
      → StepsLead does stops old new
  changes old new same logged step = λ s shows.
      let p = pair_of old shows.calls shows.server_told shows.client_told in
      let st = step s shows.calls shows.server_told shows.client_told
      (ap (λ (ps : List Pair). pair_at ps 1) shows.pair) in
      let q = pair_of new shows.calls st.0 shows.client_told in (
        with_pair s 1 q,
        channels.go channels.stay st.1,
        record {
          calls = shows.calls;
          server_told = st.0;
          client_told = shows.client_told;
          pair = ap (λ (ps : List Pair). pair_set ps 1 q) shows.pair;
          numbered = shows.numbered;
          records = rw same shows.records;
          log = rw logged shows.log;
          handler = rw logged shows.handler;
        },
      )

  pub sent_up : (old : Ends H) (n : ℕ) (client : ClientSeen) (up : Way) → n ≤ length old.client.requests.output
      → client ≡ with_client_output old.client (drop n old.client.requests.output)
      → up ≡ put_in old.up (take n old.client.requests.output)
      → Moves does stops old (record old { client = client; up = up })
  sent_up old n client up le is up_is = record {
    steps = changes old (record old { client = client; up = up }) refl refl (λ s calls t u at. (
      t,
      channels.sends_up 1 (pair_of old calls t u) n at le
          (ap (with_pair s 1)
          (let same : pair_of (record old { client = client; up = up }) calls t u
          ≡ client_sent (pair_of old calls t u) n = rw (is, up_is) refl in same)),
    ));
    acts = acts_sent_up does stops old n client up is up_is;
  }

  pub sent_down : (old : Ends H) (n : ℕ) (server : ServerView) (down : Way) → n ≤ length old.server.output
      → server ≡ with_server_output old.server (drop n old.server.output)
      → down ≡ put_in old.down (take n old.server.output)
      → Moves does stops old (record old { server = server; down = down })
  sent_down old n server down le is down_is = record {
    steps = changes old (record old { server = server; down = down }) refl refl (λ s calls t u at. (
      t,
      channels.sends_down 1 (pair_of old calls t u) n at le
          (ap (with_pair s 1)
          (let same : pair_of (record old { server = server; down = down }) calls t u
          ≡ server_sent (pair_of old calls t u) n = rw (is, down_is) refl in same)),
    ));
    acts = acts_sent_down does stops old n server down is down_is;
  }

  taken : (old : Way) (piece rest : List ℕ) (n : ℕ) (new : Way) → n ≤ length piece → old.bytes ≡ piece ++ rest
      → Comes old.left (length piece) → new ≡ record { bytes = drop n old.bytes; left = fewer old.left n }
      → channels.Taken old piece n new
  taken old piece rest n new within first comes is = record {
    rest = rest;
    first = first;
    comes = comes;
    within = within;
    after = is ∙ ap (λ (bytes : List ℕ). let w : Way = record { bytes = bytes; left = fewer old.left n } in w)
        (ap (drop n) first ∙ drop-append-le n piece rest within);
  }

  pub fed_server : (old : Ends H) (piece : List ℕ) (n : ℕ) (server : ServerView) (up : Way)
      → old.server.state ≡ Open → length old.server.waiting < old.server.window
      → TakesBytes old.server piece n server → n ≤ length piece
      → ((rest : List ℕ) × (old.up.bytes ≡ piece ++ rest)) → Comes old.up.left (length piece)
      → up ≡ record { bytes = drop n old.up.bytes; left = fewer old.up.left n }
      → Moves does stops old (record old { server = server; up = up })
  fed_server old piece n server up live room takes within (rest, first) comes is = record {
    steps = changes old (record old { server = server; up = up }) refl refl (λ s calls t u at. (
      t,
      channels.feeds_up 1 (pair_of old calls t u) piece n server up at live room takes
          (taken old.up piece rest n up within first comes is) refl,
    ));
    acts = acts_fed_server does stops old piece rest n server up live room takes within first (ap (λ (w : Way). w.bytes) is);
  }

  pub fed_client : (old : Ends H) (piece : List ℕ) (n : ℕ) (client : ClientSeen) (down : Way)
      → MayTake old.client → Takes old.client piece n client
      → ((rest : List ℕ) × (old.down.bytes ≡ piece ++ rest)) → Comes old.down.left (length piece)
      → down ≡ record { bytes = drop n old.down.bytes; left = fewer old.down.left n }
      → Moves does stops old (record old { client = client; down = down })
  fed_client old piece n client down may takes (rest, first) comes is = record {
    steps = changes old (record old { client = client; down = down }) refl refl (λ s calls t u at. (
      t,
      channels.feeds_down 1 (pair_of old calls t u) piece n client down at may takes
          (taken old.down piece rest n down takes.within first comes is) refl,
    ));
    acts = acts_fed_client does stops old piece rest n client down may takes takes.within first (ap (λ (w : Way). w.bytes) is);
  }

  pub answered : (old : Ends H) (i : ℕ) (result : Result ℕ AnswerRefusal) (server : ServerView) (logged : Logged H)
      → AnswerStep does stops i result old.server old.logged.handler (log_of old.logged.entries.items)
      server logged.handler (log_of logged.entries.items)
      → Moves does stops old (record old { server = server; logged = logged })
  answered old i result server logged a = record {
    steps = λ s shows.
        let new : Ends H = record old { server = server; logged = logged } in
        let p = pair_of old shows.calls shows.server_told shows.client_told in
        let q = pair_of new shows.calls shows.server_told shows.client_told in (
          channels.answered s 1 p server logged.handler (log_of logged.entries.items),
          channels.go channels.stay (channels.answers 1 p i result server logged.handler
              (log_of logged.entries.items) (ap (λ (ps : List Pair). pair_at ps 1) shows.pair)
              (rw (shows.handler, shows.log) a) (log_contents logged.entries.items) refl),
          record {
            calls = shows.calls;
            server_told = shows.server_told;
            client_told = shows.client_told;
            pair = ap (λ (ps : List Pair). pair_set ps 1 q) shows.pair;
            numbered = shows.numbered;
            records = shows.records;
            log = refl;
            handler = refl;
          },
        );
    acts = acts_answered does stops old i result server logged a;
  }

  pub cut_up : (old : Ends H) (up : Way) → ((n : ℕ) × IsCut old.up n up)
      → Moves does stops old (record old { up = up })
  cut_up old up (n, is) = record {
    steps = changes old (record old { up = up }) refl refl (λ s calls t u at.
        (t, channels.cuts_up 1 (pair_of old calls t u) n up at is refl));
    acts = no_acts does stops old (record old { up = up }) refl refl (ap (λ (w : Way). w.bytes) is.after) refl;
  }

  pub cut_down : (old : Ends H) (down : Way) → ((n : ℕ) × IsCut old.down n down)
      → Moves does stops old (record old { down = down })
  cut_down old down (n, is) = record {
    steps = changes old (record old { down = down }) refl refl (λ s calls t u at.
        (t, channels.cuts_down 1 (pair_of old calls t u) n down at is refl));
    acts = no_acts does stops old (record old { down = down }) refl refl refl (ap (λ (w : Way). w.bytes) is.after);
  }

  pub ended_up : (old : Ends H) (server : ServerView) → server ≡ ended_server old.server
      → Moves does stops old (record old { server = server })
  ended_up old server is = record {
    steps = changes old (record old { server = server }) refl refl (λ s calls t u at. (
      true,
      channels.ends_up 1 (pair_of old calls t u) at (ap (with_pair s 1)
          (let same : pair_of (record old { server = server }) calls true u ≡ server_ended (pair_of old calls t u)
          = rw is refl in same)),
    ));
    acts = acts_ended_up does stops old server is;
  }

  pub was_called : (old f : Ends H) (kind : CallKind) (payload : Payload) (number : CallNo) (client : ClientSeen) (r : CallRecord) (reserved : List CallRecord)
      → IsCalled old.client kind (content_of payload) number
      → client ≡ called old.client kind (content_of payload) number
      → record_of 1 r ≡ new_record 1 (asked_as kind (content_of payload)) → reserved ≡ old.calls.items → f.calls.items ≡ reserved ++ r ∷ []
      → Moves does stops old (record old { client = client; calls = f.calls })
  was_called old f kind payload number client r reserved may is made same_items items = record {
    steps = λ s shows.
        let p = pair_of old shows.calls shows.server_told shows.client_told in
        let calls = shows.calls ++ length s.calls ∷ [] in
        let q = record p { client = called old.client kind (content_of payload) number; calls = calls } in (
          channels.issued s 1 p kind (content_of payload) number,
          channels.go channels.stay (channels.calls 1 p kind payload number
              (ap (λ (ps : List Pair). pair_at ps 1) shows.pair) may refl),
          record {
            calls = calls;
            server_told = shows.server_told;
            client_told = shows.client_told;
            pair = ap (λ (ps : List Pair). pair_set ps 1 q) shows.pair
                ∙ (let same : q ∷ [] ≡ pair_of (record old { client = client; calls = f.calls }) calls shows.server_told shows.client_told ∷ [] = rw is refl in same);
            numbered = numbered_on s.calls shows.calls _ shows.numbered;
            records = called_as s.calls old.calls.items kind (content_of payload) r shows.records made
                ∙ ap (λ (rs : List CallRecord). records_of 1 (rs ++ r ∷ [])) (sym same_items) ∙ ap (records_of 1) (sym items);
            log = shows.log;
            handler = shows.handler;
          },
        );
    acts = acts_called does stops old f kind payload number client may is
        (sym (called_as (records_of 1 old.calls.items) old.calls.items kind (content_of payload) r refl made
        ∙ ap (λ (rs : List CallRecord). records_of 1 (rs ++ r ∷ [])) (sym same_items) ∙ ap (records_of 1) (sym items)));
  }

  pub collected : (old f : Ends H) (reply : ReadyReply) (m : Message) (part : Content) (client : ClientSeen) (before after : List CallRecord)
      → old.client.reply ≡ Some reply → SpellsMsg m old.client.held → part ≡ m.content → client ≡ released old.client
      → before ≡ old.calls.items → records_of 1 after ≡ put_at (Some reply.call) part reply.last (records_of 1 before) → f.calls.items ≡ after
      → Moves does stops old (record old { client = client; calls = f.calls })
  collected old f reply m part client before after ready spells part_is is same_before items same_after = record {
    steps = λ s shows.
        let p = pair_of old shows.calls shows.server_told shows.client_told in
        let q = record p { client = released old.client } in (
          channels.collected s 1 p reply m.content,
          channels.go channels.stay (channels.collects 1 p reply m
              (ap (λ (ps : List Pair). pair_at ps 1) shows.pair) ready spells refl),
          record {
            calls = shows.calls;
            server_told = shows.server_told;
            client_told = shows.client_told;
            pair = ap (λ (ps : List Pair). pair_set ps 1 q) shows.pair
                ∙ (let same : q ∷ [] ≡ pair_of (record old { client = client; calls = f.calls }) shows.calls shows.server_told shows.client_told ∷ [] = rw is refl in same);
            numbered = rw (length_put s.calls (slice_get shows.calls reply.call) m.content reply.last) shows.numbered;
            records = put_as_numbered s.calls shows.calls reply.call m.content reply.last shows.numbered
                ∙ ap (put_at (Some reply.call) m.content reply.last) shows.records
                ∙ ap (λ (c : Content). put_at (Some reply.call) c reply.last (records_of 1 old.calls.items)) (sym part_is)
                ∙ ap (λ (rs : List CallRecord). put_at (Some reply.call) part reply.last (records_of 1 rs)) (sym same_before)
                ∙ sym items ∙ ap (records_of 1) (sym same_after);
            log = shows.log;
            handler = shows.handler;
          },
        );
    acts = acts_collected does stops old f reply m client ready spells is
        (ap (records_of 1) same_after ∙ items
        ∙ ap (λ (rs : List CallRecord). put_at (Some reply.call) part reply.last (records_of 1 rs)) same_before
        ∙ ap (λ (c : Content). put_at (Some reply.call) c reply.last (records_of 1 old.calls.items)) part_is);
  }

  pub ended_down : (old f : Ends H) (client : ClientSeen) (before after : List CallRecord) → client ≡ ended old.client
      → before ≡ old.calls.items → records_of 1 after ≡ map lost_record (records_of 1 before) → f.calls.items ≡ after
      → Moves does stops old (record old { client = client; calls = f.calls })
  ended_down old f client before after is same_before items same_after = record {
    steps = λ s shows.
        let p = pair_of old shows.calls shows.server_told shows.client_told in
        let q = channels.client_ended p in (
          channels.given_up s 1 p,
          channels.go channels.stay (channels.ends_down 1 p (ap (λ (ps : List Pair). pair_at ps 1) shows.pair) refl),
          record {
            calls = shows.calls;
            server_told = shows.server_told;
            client_told = true;
            pair = ap (λ (ps : List Pair). pair_set ps 1 q) shows.pair
                ∙ (let same : q ∷ [] ≡ pair_of (record old { client = client; calls = f.calls }) shows.calls shows.server_told true ∷ [] = rw is refl in same);
            numbered = rw (length-map s.calls (channels.lost_at 1)) shows.numbered;
            records = ap (map (channels.lost_at 1)) shows.records ∙ lost_as old.calls.items
                ∙ ap (λ (rs : List CallRecord). map lost_record (records_of 1 rs)) (sym same_before)
                ∙ sym items ∙ ap (records_of 1) (sym same_after);
            log = shows.log;
            handler = shows.handler;
          },
        );
    acts = acts_ended_down does stops old f client is
        (ap (records_of 1) same_after ∙ items
        ∙ ap (λ (rs : List CallRecord). map lost_record (records_of 1 rs)) same_before);
  }

  pub reached_on : (first : H) (old new : Ends H) → Reached does stops first old → Moves does stops old new
      → Reached does stops first new
  reached_on first old new r m =
      let x = m.steps r.s r.shows in
      record { s = x.0; trace = steps_on r.trace x.1; shows = x.2; told = told_on does stops first old new r.told m.acts }

  pub unchanged : (old f : Ends H) (client : ClientSeen) → client ≡ old.client → f.calls.items ≡ old.calls.items
      → Moves does stops old (record old { client = client; calls = f.calls })
  unchanged old f client is items = record {
    steps = λ s shows. (
      s,
      channels.stay,
      record {
        calls = shows.calls;
        server_told = shows.server_told;
        client_told = shows.client_told;
        pair = rw is shows.pair;
        numbered = shows.numbered;
        records = rw items shows.records;
        log = shows.log;
        handler = shows.handler;
      },
    );
    acts = no_acts does stops old (record old { client = client; calls = f.calls }) (rw (is, items) refl) refl refl refl;
  }

  pub begun : (first : H) (e : Ends H) → e.client ≡ new_client (pos 1) 4 message_limit
      → e.server ≡ new_server 1 4 message_limit → e.up ≡ channels.idle_way → e.down ≡ channels.idle_way
      → e.calls.items ≡ [] → log_of e.logged.entries.items ≡ [] → e.logged.handler ≡ first
      → Reached does stops first e
  begun first e client server up down calls log handler = record {
    s = channels.paired (channels.no_pairs first) (channels.new_pair 1 message_limit (pos 1) 4 4);
    trace = channels.go channels.stay (channels.pairs (pos 1) 4 4 (grind arith) (grind arith) refl);
    shows = record {
      calls = [];
      server_told = false;
      client_told = false;
      pair = rw (client, server, up, down) refl;
      numbered = record { as_many = refl; at = λ k lt. absurd (omega (arith, lt)) };
      records = rw calls refl;
      log = sym log;
      handler = sym handler;
    };
    told = told_new does stops first e client server (ap (λ (w : Way). w.bytes) up) (ap (λ (w : Way). w.bytes) down) calls log handler;
  }
