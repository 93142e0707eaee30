-- What an end did, and what it did from there on.
use Rattle.std.proofs.Common.{◌≡◌, ℕ, List, [], ◌∷◌, ◌++◌, Option, Some, ap, refl, sym, subst, ◌∙◌, append_assoc, append-nil}
use Rattle.std.specs.Prelude.{Err, Ok, map}
use Rattle.std.specs.Io.KnownBytes.{Appends, Keeps}
use Rattle.std.proofs.KnownBytes.{Appends-kept, Appends-nil, Appends-trans}
use Rattle.bson_elem.specs.{IsBytes}
use Rattle.wire_msg.specs.{Content, Message, SpellsMsg}
use Rattle.wire_msg.specs.declared.payloads.Payload.{Payload}
use Rattle.wire_msg.proofs.Lemmas.{bytes_append}
use Rattle.wire_model.specs.{ClientAct, ClientDoes, ClientEnd, ClientRun, ClientTakes, Record, asked_as, bytes_sent, bytes_taken, new_record, put_at, with_client_output}
use Rattle.wire_peer.specs.{ClientSeen, IsCalled, called, content_of, released}
use Rattle.wire_peer.specs.declared.call_table.ReadyReply.{ReadyReply}
use Rattle.wire_peer.specs.declared.calls.CallKind.{CallKind}
use Rattle.wire_peer.specs.declared.calls.CallNo.{CallNo}
use Rattle.wire_peer.specs.declared.client_state.ClientCause.{ClientCause}
use Rattle.wire_model.specs.Owners.{Calls, Collects, EndsDown, SendsUp, TakesDown}
use Rattle.wire_model.proofs.Lemmas.{client_on, sent_on, taken_on}
use Rattle.wire_end.specs.declared.next.EndFault.{EndFault}
use Rattle.wire_end.specs.declared.next.EndFault.TheVariants as faults
use Rattle.wire_end.specs.declared.next.Next.TheVariants.{Reply}
use Rattle.wire_end.specs.Ends.{EndRuns, EndSeen, HandsOut}
use Rattle.wire_end.specs.Steps.{ClosesNothing, Hears}
use Rattle.wire_end.proofs.ServerRuns.{no_bytes}

-- ---- one after the other

pub runs_on : {L : Type 0} (sent received : L → Option (List ℕ)) (old mid new : EndSeen L)
    (acts more : List ClientAct) → EndRuns sent received old acts mid → EndRuns sent received mid more new
    → EndRuns sent received old (acts ++ more) new
runs_on sent received old mid new acts more r s = record {
  connection = s.connection ∙ r.connection;
  run = client_on old.connection acts more old.own mid.own new.own r.run
      (subst (λ (c : ℕ). ClientRun c mid.own more new.own) r.connection s.run);
  sends = subst (Appends (sent old.link) (sent new.link)) (sym (sent_on acts more))
      (Appends-trans (sent old.link) (sent mid.link) (sent new.link) (bytes_sent acts) (bytes_sent more) r.sends
      s.sends);
  came = r.came ++ s.came;
  receives = Appends-trans (received old.link) (received mid.link) (received new.link) r.came s.came r.receives
      s.receives;
  taken = sym (append_assoc old.inlet r.came s.came)
      ∙ ap (λ (x : List ℕ). x ++ s.came) r.taken
      ∙ append_assoc (bytes_taken acts) mid.inlet s.came
      ∙ ap (λ (x : List ℕ). bytes_taken acts ++ x) s.taken
      ∙ sym (append_assoc (bytes_taken acts) (bytes_taken more) new.inlet)
      ∙ ap (λ (x : List ℕ). x ++ new.inlet) (sym (taken_on acts more));
  are_bytes = subst IsBytes (sym (taken_on acts more))
      (bytes_append (bytes_taken acts) (bytes_taken more) r.are_bytes s.are_bytes);
}

-- pieces, and then more of them, are taken in one list of acts
taking_on : (pieces more : List (List ℕ)) → map TakesDown (pieces ++ more) ≡ map TakesDown pieces ++ map TakesDown more
taking_on [] more = refl
taking_on (p ∷ pieces) more = ap (λ (x : List ClientAct). TakesDown p ∷ x) (taking_on pieces more)

pub hears_on : {L : Type 0} (sent received : L → Option (List ℕ)) (old mid new : EndSeen L)
    → Hears sent received old mid → Hears sent received mid new → Hears sent received old new
hears_on sent received old mid new (pieces, r) (more, s) = (
  pieces ++ more,
  subst (λ (acts : List ClientAct). EndRuns sent received old acts new) (sym (taking_on pieces more))
      (runs_on sent received old mid new (map TakesDown pieces) (map TakesDown more) r s),
)

-- pieces were taken, and then this act was done
pub heard_then : {L : Type 0} (sent received : L → Option (List ℕ)) (old mid new : EndSeen L) (act : ClientAct)
    → Hears sent received old mid → EndRuns sent received mid (act ∷ []) new
    → (pieces : List (List ℕ)) × EndRuns sent received old (map TakesDown pieces ++ act ∷ []) new
heard_then sent received old mid new act (pieces, r) s =
    (pieces, runs_on sent received old mid new (map TakesDown pieces) (act ∷ []) r s)

-- pieces were taken, and then this reply was handed out
pub hands_on : {L : Type 0} (sent received : L → Option (List ℕ)) (old mid new : EndSeen L) (reply : ReadyReply)
    → Hears sent received old mid
    → ((m : Message) × EndRuns sent received mid (Collects reply m ∷ []) new)
    → (acts : List ClientAct) × EndRuns sent received old acts new × HandsOut (Ok (Reply reply)) acts
hands_on sent received old mid new reply heard (m, s) =
    let t = heard_then sent received old mid new (Collects reply m) heard s in
    (map TakesDown t.0 ++ Collects reply m ∷ [], t.1, (m, t.0, refl))

-- pieces were taken, and then the end was told
pub closes_on : {L : Type 0} (sent received : L → Option (List ℕ)) (old mid new : EndSeen L) (cause : ClientCause)
    → Hears sent received old mid → EndRuns sent received mid (EndsDown ∷ []) new
    → (acts : List ClientAct) × EndRuns sent received old acts new × HandsOut (Err (faults.Closed cause)) acts
closes_on sent received old mid new cause heard s =
    let t = heard_then sent received old mid new EndsDown heard s in
    (map TakesDown t.0 ++ EndsDown ∷ [], t.1, (t.0, refl))

-- pieces were taken, and nothing else was done
pub hears_short : {L : Type 0} (sent received : L → Option (List ℕ)) (old new : EndSeen L) (fault : EndFault)
    → ClosesNothing fault → Hears sent received old new
    → (acts : List ClientAct) × EndRuns sent received old acts new × HandsOut (Err fault) acts
hears_short sent received old new (faults.Link fault) short (pieces, r) = (map TakesDown pieces, r, (pieces, refl))
hears_short sent received old new (faults.Closed cause) short (pieces, r) = absurd short
hears_short sent received old new faults.OutOfMemory short (pieces, r) = (map TakesDown pieces, r, (pieces, refl))

-- ---- no act

-- bytes may have come, and nothing else happened
pub no_acts : {L : Type 0} (sent received : L → Option (List ℕ)) (old new : EndSeen L) (more : List ℕ)
    → new.connection ≡ old.connection → new.own ≡ old.own → Keeps (sent old.link) (sent new.link)
    → Appends (received old.link) (received new.link) more → new.inlet ≡ old.inlet ++ more
    → EndRuns sent received old [] new
no_acts sent received old new more same own kept grew held = record {
  connection = same;
  run = own;
  sends = Appends-kept (sent old.link) (sent old.link) (sent new.link) [] (Appends-nil (sent old.link)) kept;
  came = more;
  receives = grew;
  taken = sym held;
  are_bytes = no_bytes;
}

pub nothing : {L : Type 0} (sent received : L → Option (List ℕ)) (e : EndSeen L) → Hears sent received e e
nothing sent received e = (
  [],
  record {
    connection = refl;
    run = refl;
    sends = Appends-nil (sent e.link);
    came = [];
    receives = Appends-nil (received e.link);
    taken = append-nil e.inlet;
    are_bytes = no_bytes;
  },
)

-- ---- one act

own_parts : (own : ClientEnd) (client : ClientSeen) (records : List Record) → own.client ≡ client
    → own.records ≡ records → own ≡ record { client = client; records = records }
own_parts own client records is are =
    ap (λ (k : ClientSeen). let e : ClientEnd = record { client = k; records = own.records } in e) is
    ∙ ap (λ (rs : List Record). let e : ClientEnd = record { client = client; records = rs } in e) are

-- the client and its records did something by which no byte goes, and nothing else changed
pub own_runs : {L : Type 0} (sent received : L → Option (List ℕ)) (old new : EndSeen L) (act : ClientAct)
    (own : ClientEnd) → bytes_sent (act ∷ []) ≡ [] → bytes_taken (act ∷ []) ≡ []
    → ClientDoes old.connection act old.own own → new ≡ record old { own = own }
    → EndRuns sent received old (act ∷ []) new
own_runs sent received old new act own none none' does is =
    subst (EndRuns sent received old (act ∷ [])) (sym is) (record {
      connection = refl;
      run = (own, does, refl);
      sends = subst (Appends (sent old.link) (sent old.link)) (sym none) (Appends-nil (sent old.link));
      came = [];
      receives = Appends-nil (received old.link);
      taken = append-nil old.inlet ∙ ap (λ (x : List ℕ). x ++ old.inlet) (sym none');
      are_bytes = subst IsBytes (sym none') no_bytes;
    })

-- a call was made, and has a record
pub called_runs : {L : Type 0} (sent received : L → Option (List ℕ)) (old new : EndSeen L) (client : ClientSeen)
    (records : List Record) (kind : CallKind) (payload : Payload) (call : CallNo)
    → IsCalled old.own.client kind (content_of payload) call
    → client ≡ called old.own.client kind (content_of payload) call
    → records ≡ old.own.records ++ new_record old.connection (asked_as kind (content_of payload)) ∷ []
    → new ≡ record old { own = record { client = client; records = records } }
    → EndRuns sent received old (Calls kind payload call ∷ []) new
called_runs sent received old new client records kind payload call may is are new_is =
    own_runs sent received old new (Calls kind payload call) (record { client = client; records = records }) refl refl (
      may,
      own_parts (record { client = client; records = records })
          (called old.own.client kind (content_of payload) call)
          (old.own.records ++ new_record old.connection (asked_as kind (content_of payload)) ∷ []) is are,
    ) new_is

-- the reply that was ready is a part of its call
pub collected_runs : {L : Type 0} (sent received : L → Option (List ℕ)) (connection : ℕ) (seen client : ClientSeen)
    (before records : List Record) (link : L) (inlet : List ℕ) (ready : ReadyReply) (m : Message) (part : Content)
    → seen.reply ≡ Some ready → SpellsMsg m seen.held → part ≡ m.content
    → client ≡ released seen → records ≡ put_at (Some ready.call) part ready.last before
    → EndRuns sent received
    (record { connection = connection; own = record { client = seen; records = before }; link = link; inlet = inlet })
    (Collects ready m ∷ [])
    (record { connection = connection; own = record { client = client; records = records }; link = link; inlet = inlet })
collected_runs sent received connection seen client before records link inlet ready m part is_ready spells same is are =
    own_runs sent received _ _ (Collects ready m) (record { client = client; records = records }) refl refl (
      is_ready,
      spells,
      own_parts (record { client = client; records = records }) (released seen)
          (put_at (Some ready.call) m.content ready.last before) is
          (are ∙ ap (λ (c : Content). put_at (Some ready.call) c ready.last before) same),
    ) refl

-- bytes of the client's output went over the link
pub sent_runs : {L : Type 0} (sent received : L → Option (List ℕ)) (old new : EndSeen L) (gone : List ℕ)
    → new.connection ≡ old.connection → new.inlet ≡ old.inlet
    → old.own.client.requests.output ≡ gone ++ new.own.client.requests.output
    → new.own.client ≡ with_client_output old.own.client new.own.client.requests.output
    → new.own.records ≡ old.own.records
    → Appends (sent old.link) (sent new.link) gone → Keeps (received old.link) (received new.link)
    → EndRuns sent received old (SendsUp gone ∷ []) new
sent_runs sent received old new gone same inlet parts client records went kept = record {
  connection = same;
  run = (new.own, (new.own.client.requests.output, parts, own), refl);
  sends = subst (Appends (sent old.link) (sent new.link)) (sym (append-nil gone)) went;
  came = [];
  receives = Appends-kept (received old.link) (received old.link) (received new.link) []
      (Appends-nil (received old.link)) kept;
  taken = append-nil old.inlet ∙ sym inlet;
  are_bytes = no_bytes;
}
  where
    own : new.own ≡ record {
      client = with_client_output old.own.client new.own.client.requests.output;
      records = old.own.records;
    }
    own = own_parts new.own (with_client_output old.own.client new.own.client.requests.output) old.own.records
        client records

-- the client took the first of the bytes that were held or came
pub taken_runs : {L : Type 0} (sent received : L → Option (List ℕ)) (old new : EndSeen L)
    (more there bytes : List ℕ) → new.connection ≡ old.connection → Keeps (sent old.link) (sent new.link)
    → Appends (received old.link) (received new.link) more → there ≡ old.inlet ++ more
    → there ≡ bytes ++ new.inlet → IsBytes bytes → ClientTakes old.own.client bytes new.own.client
    → new.own.records ≡ old.own.records → EndRuns sent received old (TakesDown bytes ∷ []) new
taken_runs sent received old new more there bytes same kept grew held parts are takes records = record {
  connection = same;
  run = (new.own, (new.own.client, takes, own), refl);
  sends = Appends-kept (sent old.link) (sent old.link) (sent new.link) [] (Appends-nil (sent old.link)) kept;
  came = more;
  receives = grew;
  taken = sym held ∙ parts ∙ ap (λ (x : List ℕ). x ++ new.inlet) (sym (append-nil bytes));
  are_bytes = subst IsBytes (sym (append-nil bytes)) are;
}
  where
    own : new.own ≡ record { client = new.own.client; records = old.own.records }
    own = own_parts new.own new.own.client old.own.records refl records
