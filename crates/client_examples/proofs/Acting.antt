-- The acts of the owners of the ends, and that bytes arrive in order in them.
use Rattle.std.proofs.Common.{◌≡◌, ℕ, ◌<◌, ◌≤◌, List, [], ◌∷◌, ◌++◌, length, drop, take, map, Some, Result, ap, refl, subst, sym, ◌∙◌, append_assoc, take-append-drop, pos}
use Rattle.std.proofs.lemmas.List.{take-append-le}
use Rattle.wire_msg.specs.{Message, SpellsMsg}
use Rattle.wire_msg.specs.declared.payloads.Payload.{Payload}
use Rattle.wire_peer.specs.{AnswerStep, ClientSeen, Does, IsCalled, MayTake, ServerView, Stops, Takes, TakesBytes, called, content_of, ended, log_of, new_client, new_server, released}
use Rattle.wire_peer.specs.declared.call_table.ReadyReply.{ReadyReply}
use Rattle.wire_peer.specs.declared.calls.CallKind.{CallKind}
use Rattle.wire_peer.specs.declared.calls.CallNo.{CallNo}
use Rattle.wire_peer.specs.declared.log.Logged.{Logged}
use Rattle.wire_peer.specs.declared.server_state.AnswerRefusal.{AnswerRefusal}
use Rattle.wire_peer.specs.declared.server_state.ServerState.TheVariants.{Open}
use Rattle.wire_peer.proofs.Lemmas.{client_own, server_own}
use Rattle.wire_model.specs.{Arrive, ClientAct, ClientDoes, ClientEnd, Deed, Record, ServerAct, ServerDoes, Way, asked_as, ended_server, lost_record, new_record, put_at, with_client_output, with_server_output}
use Rattle.wire_model.proofs.Lemmas.{client_on, log_contents, server_on}
use Rattle.wire_model.specs.Channels.{put_in}
use Rattle.wire_model.specs.Owners as owners
use Rattle.wire_model.specs.Deeds.{AtClient, AtServer, at_one}
use Rattle.wire_end.specs.{AreInOrder, records_of}
use Rattle.client_examples.specs.declared.pair.ends.Ends.{Ends}
use Rattle.client_examples.specs.Owning.{Acts, ArriveFrom, Told, client_end, message_limit, server_end}

-- ---- one after the other

order_on : (acts more : List ClientAct) (served others : List ServerAct) (deeds then : List Deed) → AreInOrder acts served deeds
    → AreInOrder more others then → AreInOrder (acts ++ more) (served ++ others) (deeds ++ then)
order_on acts more served others [] then (a, s) o =
    subst (λ (x : List ClientAct). AreInOrder (x ++ more) (served ++ others) then) (sym a)
    (subst (λ (y : List ServerAct). AreInOrder more (y ++ others) then) (sym s) o)
order_on acts more served others (AtClient c act ∷ deeds) then (is, (left, parts, rest)) o =
    (is, (left ++ more, ap (λ (x : List ClientAct). x ++ more) parts, order_on left more served others deeds then rest o))
order_on acts more served others (AtServer c act ∷ deeds) then (is, (left, parts, rest)) o =
    (is, (left ++ others, ap (λ (x : List ServerAct). x ++ others) parts, order_on acts more left others deeds then rest o))

module _ {H : Type 0} (does : Does H) (stops : Stops H) where
  pub acts_on : (a b c : Ends H) → Acts does stops a b → Acts does stops b c → Acts does stops a c
  acts_on a b c x y = record {
    acts = x.acts ++ y.acts;
    served = x.served ++ y.served;
    deeds = x.deeds ++ y.deeds;
    order = order_on x.acts y.acts x.served y.served x.deeds y.deeds x.order y.order;
    ran = client_on 1 x.acts y.acts (client_end a) (client_end b) (client_end c) x.ran y.ran;
    serves = server_on does stops x.served y.served (server_end a) (server_end b) (server_end c) x.serves y.serves;
    arrives = λ more at. subst (ArriveFrom a) (sym (append_assoc x.deeds y.deeds more)) (x.arrives (y.deeds ++ more) (y.arrives more at));
  }

  pub told_on : (first : H) (a b : Ends H) → Told does stops first a → Acts does stops a b → Told does stops first b
  told_on first a b x y = record {
    acts = x.acts ++ y.acts;
    served = x.served ++ y.served;
    deeds = x.deeds ++ y.deeds;
    order = order_on x.acts y.acts x.served y.served x.deeds y.deeds x.order y.order;
    ran = client_on 1 x.acts y.acts _ (client_end a) (client_end b) x.ran y.ran;
    serves = server_on does stops x.served y.served _ (server_end a) (server_end b) x.serves y.serves;
    arrives = λ more at. subst (Arrive (λ _. []) (λ _. [])) (sym (append_assoc x.deeds y.deeds more)) (x.arrives (y.deeds ++ more) (y.arrives more at));
  }

  -- nothing was done, or what no owner sees
  pub no_acts : (old new : Ends H) → client_end new ≡ client_end old → server_end new ≡ server_end old
      → new.up.bytes ≡ old.up.bytes → new.down.bytes ≡ old.down.bytes → Acts does stops old new
  no_acts old new client server up down = record {
    acts = [];
    served = [];
    deeds = [];
    order = (refl, refl);
    ran = client;
    serves = server;
    arrives = λ more at u d in_up in_down. at u d (in_up ∙ sym up) (in_down ∙ sym down);
  }

  -- ---- acts of the client's owner

  client_act : (old new : Ends H) (act : ClientAct) → ClientDoes 1 act (client_end old) (client_end new) → server_end new ≡ server_end old
      → ((more : List Deed) → ArriveFrom new more → ArriveFrom old (AtClient 1 act ∷ more)) → Acts does stops old new
  client_act old new act is same arrives = record {
    acts = act ∷ [];
    served = [];
    deeds = AtClient 1 act ∷ [];
    order = (refl, ([], refl, (refl, refl)));
    ran = (client_end new, is, refl);
    serves = same;
    arrives = arrives;
  }

  same_end : (a b : ClientSeen) (xs ys : List Record) → a ≡ b → xs ≡ ys
      → (let e : ClientEnd = record { client = a; records = xs } in e) ≡ record { client = b; records = ys }
  same_end a b xs ys k r = rw (k, r) refl

  pub acts_called : (old f : Ends H) (kind : CallKind) (payload : Payload) (number : CallNo) (client : ClientSeen)
      → IsCalled old.client kind (content_of payload) number → client ≡ called old.client kind (content_of payload) number
      → records_of 1 f.calls.items ≡ records_of 1 old.calls.items ++ new_record 1 (asked_as kind (content_of payload)) ∷ []
      → Acts does stops old (record old { client = client; calls = f.calls })
  acts_called old f kind payload number client may is made =
      client_act old (record old { client = client; calls = f.calls }) (owners.Calls kind payload number)
      (may, same_end _ _ _ _ is made) refl (λ more at up down u d. at up down u d)

  pub acts_sent_up : (old : Ends H) (n : ℕ) (client : ClientSeen) (up : Way)
      → client ≡ with_client_output old.client (drop n old.client.requests.output)
      → up ≡ put_in old.up (take n old.client.requests.output)
      → Acts does stops old (record old { client = client; up = up })
  acts_sent_up old n client up is up_is =
      let output = old.client.requests.output in
      client_act old (record old { client = client; up = up }) (owners.SendsUp (take n output))
      (drop n output, sym (take-append-drop n output), same_end _ _ _ _ is refl) refl
      (λ more at u d in_up in_down. at (at_one u 1 (u 1 ++ take n output)) d
      (ap (λ (x : List ℕ). x ++ take n output) in_up ∙ sym (ap (λ (w : Way). w.bytes) up_is)) in_down)

  -- what was taken, and what is in flight after it, was in flight
  in_flight : (old new : Way) (piece rest : List ℕ) (n : ℕ) (u : List ℕ) → u ≡ old.bytes → n ≤ length piece → old.bytes ≡ piece ++ rest
      → new.bytes ≡ drop n old.bytes → u ≡ take n piece ++ new.bytes
  in_flight old new piece rest n u is within first after =
      is ∙ sym (take-append-drop n old.bytes)
      ∙ ap (λ (x : List ℕ). x ++ drop n old.bytes) (ap (take n) first ∙ take-append-le n piece rest within)
      ∙ ap (λ (x : List ℕ). take n piece ++ x) (sym after)

  pub acts_fed_client : (old : Ends H) (piece rest : List ℕ) (n : ℕ) (client : ClientSeen) (down : Way)
      → MayTake old.client → Takes old.client piece n client → n ≤ length piece → old.down.bytes ≡ piece ++ rest
      → down.bytes ≡ drop n old.down.bytes → Acts does stops old (record old { client = client; down = down })
  acts_fed_client old piece rest n client down may takes within first after =
      client_act old (record old { client = client; down = down }) (owners.TakesDown (take n piece))
      (client, record { may = may; takes = client_own old.client piece n client takes }, refl) refl
      (λ more at u d in_up in_down. (
        down.bytes,
        in_flight old.down down piece rest n (d 1) in_down within first after,
        at u (at_one d 1 down.bytes) in_up refl,
      ))

  pub acts_collected : (old f : Ends H) (reply : ReadyReply) (m : Message) (client : ClientSeen)
      → old.client.reply ≡ Some reply → SpellsMsg m old.client.held → client ≡ released old.client
      → records_of 1 f.calls.items ≡ put_at (Some reply.call) m.content reply.last (records_of 1 old.calls.items)
      → Acts does stops old (record old { client = client; calls = f.calls })
  acts_collected old f reply m client ready spells is put =
      client_act old (record old { client = client; calls = f.calls }) (owners.Collects reply m)
      (ready, spells, same_end _ _ _ _ is put) refl (λ more at up down u d. at up down u d)

  pub acts_ended_down : (old f : Ends H) (client : ClientSeen) → client ≡ ended old.client
      → records_of 1 f.calls.items ≡ map lost_record (records_of 1 old.calls.items)
      → Acts does stops old (record old { client = client; calls = f.calls })
  acts_ended_down old f client is lost =
      client_act old (record old { client = client; calls = f.calls }) owners.EndsDown
      (same_end _ _ _ _ is lost) refl (λ more at up down u d. at up down u d)

  -- ---- acts of the server's owner

  server_act : (old new : Ends H) (act : ServerAct)
      → ServerDoes does stops act old.server (log_of old.logged.entries.items) old.logged.handler new.server (log_of new.logged.entries.items) new.logged.handler
      → client_end new ≡ client_end old
      → ((more : List Deed) → ArriveFrom new more → ArriveFrom old (AtServer 1 act ∷ more)) → Acts does stops old new
  server_act old new act is same arrives = record {
    acts = [];
    served = act ∷ [];
    deeds = AtServer 1 act ∷ [];
    order = (refl, ([], refl, (refl, refl)));
    ran = same;
    serves = (server_end new, is, refl);
    arrives = arrives;
  }

  pub acts_fed_server : (old : Ends H) (piece rest : List ℕ) (n : ℕ) (server : ServerView) (up : Way)
      → old.server.state ≡ Open → length old.server.waiting < old.server.window
      → TakesBytes old.server piece n server → n ≤ length piece → old.up.bytes ≡ piece ++ rest
      → up.bytes ≡ drop n old.up.bytes → Acts does stops old (record old { server = server; up = up })
  acts_fed_server old piece rest n server up live room takes within first after =
      server_act old (record old { server = server; up = up }) (owners.TakesUp (take n piece))
      (record { is_open = live; has_room = room; takes = server_own old.server piece n server takes }, refl, refl) refl
      (λ more at u d in_up in_down. (
        up.bytes,
        in_flight old.up up piece rest n (u 1) in_up within first after,
        at (at_one u 1 up.bytes) d refl in_down,
      ))

  pub acts_answered : (old : Ends H) (i : ℕ) (result : Result ℕ AnswerRefusal) (server : ServerView) (logged : Logged H)
      → AnswerStep does stops i result old.server old.logged.handler (log_of old.logged.entries.items)
      server logged.handler (log_of logged.entries.items)
      → Acts does stops old (record old { server = server; logged = logged })
  acts_answered old i result server logged a =
      server_act old (record old { server = server; logged = logged }) (owners.Answers i result)
      (a, log_contents logged.entries.items) refl (λ more at up down u d. at up down u d)

  pub acts_sent_down : (old : Ends H) (n : ℕ) (server : ServerView) (down : Way)
      → server ≡ with_server_output old.server (drop n old.server.output)
      → down ≡ put_in old.down (take n old.server.output)
      → Acts does stops old (record old { server = server; down = down })
  acts_sent_down old n server down is down_is =
      let output = old.server.output in
      server_act old (record old { server = server; down = down }) (owners.SendsDown (take n output))
      ((drop n output, sym (take-append-drop n output), is), refl, refl) refl
      (λ more at u d in_up in_down. at u (at_one d 1 (d 1 ++ take n output)) in_up
      (ap (λ (x : List ℕ). x ++ take n output) in_down ∙ sym (ap (λ (w : Way). w.bytes) down_is)))

  pub acts_ended_up : (old : Ends H) (server : ServerView) → server ≡ ended_server old.server
      → Acts does stops old (record old { server = server })
  acts_ended_up old server is =
      server_act old (record old { server = server }) owners.EndsUp (is, refl, refl) refl (λ more at up down u d. at up down u d)

  -- ---- before the first of them

  pub told_new : (first : H) (e : Ends H) → e.client ≡ new_client (pos 1) 4 message_limit
      → e.server ≡ new_server 1 4 message_limit → e.up.bytes ≡ [] → e.down.bytes ≡ []
      → e.calls.items ≡ [] → log_of e.logged.entries.items ≡ [] → e.logged.handler ≡ first → Told does stops first e
  told_new first e client server up down calls log handler = record {
    acts = [];
    served = [];
    deeds = [];
    order = (refl, refl);
    ran = same_end _ _ _ _ client (ap (records_of 1) calls);
    serves = rw (server, log, handler) refl;
    arrives = λ more at. at (λ _. []) (λ _. []) (sym up) (sym down);
  }
