-- A run in which a call of each kind gets done.
use Rattle.std.proofs.Common.{◌≡◌, ℕ, ◌<◌, ◌≤◌, ◌^◌, ℤ, pos, Bool, true, false, List, [], ◌∷◌, ◌++◌, length, refl, sym, ◌∙◌, ap, subst, arith, Option, Some, None, inl, inr, Ok, FitsSigned}
use Rattle.std.specs.Prelude.{All, ◌==◌, if◌then◌else◌, nat_lt}
use Rattle.std.specs.Int.{w32}
use Rattle.std.specs.Option.{ForSome}
use Rattle.std.proofs.lemmas.Bool.Decides.{nat_tests}
use Rattle.std.proofs.lemmas.List.{append-nil}
use Rattle.std.proofs.lemmas.List.Elements.{All-cons, All-nil}
use Rattle.std.proofs.lemmas.Option.{same_Some}
use mathlib.Core.Logic.{∥∥₁_elim, ∥∥₁_prop}
use Rattle.wire_msg.specs.{Content, IsContent, Message, SpellsMsg, canonical, message_len}
use Rattle.wire_msg.specs.declared.payloads.Payload.{Payload}
use Rattle.wire_msg.proofs.Lemmas.{canonical_spelled, length-canonical}
use Rattle.wire_peer.specs.{ClientSeen, IsCalled, LogEntry, ServerView, Table, after_message, asked_by, called, content_of, entered, holding, is_longer, request}
use Rattle.wire_peer.specs.Chains.{reply}
use Rattle.wire_peer.specs.declared.call_table.ReadyReply.{ReadyReply}
use Rattle.wire_peer.specs.declared.calls.CallKind.{CallKind}
use Rattle.wire_peer.specs.declared.calls.CallKind.TheVariants.{Plain, Exhaust, Unacknowledged}
use Rattle.wire_peer.specs.declared.calls.CallNo.{CallNo}
use Rattle.wire_peer.specs.declared.client_state.ClientState.TheVariants as clients
use Rattle.wire_peer.specs.declared.server_state.ServerState.TheVariants as servers
use Rattle.wire_peer.proofs.Lemmas.{of_content}
use Rattle.wire_model.specs.Happening.{AreContents}
use Rattle.wire_model.specs.Moves.{ClientTakes}
use Rattle.wire_model.specs.Machines.{Done, Pending, Sent, asked_as}
use Rattle.wire_model.specs.Conns.{Record, new_record}
use Rattle.wire_model.proofs.ConnCalls.{is_elsewhere}
use Rattle.wire_model.proofs.Lists.{same_or_not}
use Rattle.wire_model.specs.Owners.{Answers, Calls, ClientAct, ClientEnd, ClientRun, Collects, SendsDown, SendsUp, ServerDoes, ServerEnds, TakesDown, TakesUp, first_end, first_servers_of}
use Rattle.wire_model.specs.Deeds.{Arrive, AtClient, AtServer, Deed, ServersRun, acts_at}
use Rattle.wire_model.specs.Witness.{GetDone, echoes, made_least, never_stops, record_with}
use Rattle.wire_model.proofs.Acts.{calls_on, client_takes, collects_on, sends_on, server_takes, serves_on, takes_on}

-- ---- the three calls

module _ (limit : ℕ) (short : limit < 2 ^ 31) (payload : Payload)
    (is : IsContent (content_of payload)) (le : message_len (content_of payload) ≤ limit) where
  abbrev c : Content
  c = content_of payload

  spelled : (m : Message) → m.content ≡ c → FitsSigned w32 m.id → FitsSigned w32 m.response_to
      → SpellsMsg m (canonical m)
  spelled m same id to =
      let small : message_len m.content ≤ limit = subst (λ z. message_len z ≤ limit) (sym same) le in
      canonical_spelled m id to (subst IsContent (sym same) is) (omega (arith, short, small))

  within : (m : Message) → m.content ≡ c → length (canonical m) ≤ limit
  within m same =
      let small : message_len m.content ≤ limit = subst (λ z. message_len z ≤ limit) (sym same) le in
      omega (arith, small, length-canonical m)

  not_longer : nat_lt limit (message_len c) ≡ false
  not_longer = by (nat_lt limit (message_len c)) refl
    where
      by : (b : Bool) → nat_lt limit (message_len c) ≡ b → b ≡ false
      by true e = absurd (let lt : limit < message_len c = grind (arith, nat_tests) in omega
          (arith, lt, le))
      by false e = refl

  fits_1 : FitsSigned w32 (pos 1)
  fits_1 = grind arith

  fits_2 : FitsSigned w32 (pos 2)
  fits_2 = grind arith

  fits_3 : FitsSigned w32 (pos 3)
  fits_3 = grind arith

  fits_0 : FitsSigned w32 (pos 0)
  fits_0 = grind arith

  -- the requests, and the replies
  abbrev plain : Message
  plain = request (pos 1) Plain c

  abbrev exhaust : Message
  exhaust = request (pos 2) Exhaust c

  abbrev silent : Message
  silent = request (pos 3) Unacknowledged c

  abbrev only : Message
  only = reply 1 (pos 1) false c

  abbrev one_of : Message
  one_of = reply 2 (pos 2) true c

  abbrev last_of : Message
  last_of = reply 3 (pos 2) false c

  -- the replies, as bytes
  abbrev one : List ℕ
  one = canonical only ++ []

  abbrev two : List ℕ
  two = canonical one_of ++ (canonical last_of ++ [])

  s_plain : SpellsMsg plain (canonical plain)
  s_plain = spelled plain refl fits_1 fits_0

  s_exhaust : SpellsMsg exhaust (canonical exhaust)
  s_exhaust = spelled exhaust refl fits_2 fits_0

  s_silent : SpellsMsg silent (canonical silent)
  s_silent = spelled silent refl fits_3 fits_0

  s_only : SpellsMsg only (canonical only)
  s_only = spelled only refl fits_1 fits_1

  s_one : SpellsMsg one_of (canonical one_of)
  s_one = spelled one_of refl fits_2 fits_2

  s_last : SpellsMsg last_of (canonical last_of)
  s_last = spelled last_of refl fits_3 fits_2

  abbrev no : ℕ → ℤ → CallNo
  no n id = record { number = n; id = id }

  abbrev ready : ℕ → Bool → ReadyReply
  ready n last = record { call = n; last = last }

  abbrev deeds_2 : List Deed
  deeds_2 =
      AtClient 1 (TakesDown (canonical one_of)) ∷ AtClient 1 (Collects (ready 1 false) one_of)
      ∷ AtClient 1 (TakesDown (canonical last_of)) ∷ AtClient 1 (Collects (ready 1 true) last_of)
      ∷ AtClient 1 (Calls Unacknowledged payload (no 2 (pos 3)))
      ∷ AtClient 1 (SendsUp (canonical silent))
      ∷ AtServer 1 (TakesUp (canonical silent)) ∷ AtServer 1 (Answers 0 (Ok 2)) ∷ []

  abbrev deeds_1 : List Deed
  deeds_1 =
      AtClient 1 (TakesDown (canonical only)) ∷ AtClient 1 (Collects (ready 0 true) only)
      ∷ AtClient 1 (Calls Exhaust payload (no 1 (pos 2)))
      ∷ AtClient 1 (SendsUp (canonical exhaust))
      ∷ AtServer 1 (TakesUp (canonical exhaust)) ∷ AtServer 1 (Answers 0 (Ok 1))
      ∷ AtServer 1 (SendsDown two) ∷ deeds_2

  abbrev deeds : List Deed
  deeds =
      AtClient 1 (Calls Plain payload (no 0 (pos 1))) ∷ AtClient 1 (SendsUp (canonical plain))
      ∷ AtServer 1 (TakesUp (canonical plain)) ∷ AtServer 1 (Answers 0 (Ok 0))
      ∷ AtServer 1 (SendsDown one) ∷ deeds_1

  -- ---- the client

  abbrev client_at : Table → ℤ → ℕ → List ℕ → Option ReadyReply → ClientSeen
  client_at table id number held reply_ = record {
    requests = record {
      limit = limit;
      window = 1;
      output = [];
      outstanding = table;
      next_id = id;
      next_number = Some number;
    };
    held = held;
    reply = reply_;
    state = clients.Open;
  }

  may_call : (kind : CallKind) (id : ℤ) (n : ℕ)
      → IsCalled (client_at [] id n [] None) kind c (no n id)
  may_call kind id n = (
    refl,
    record {
      next = record {
        number = refl;
        id = record {
          places = 0;
          is = refl;
          free = λ found. (let lt = found.1 in omega (arith, lt));
          before = λ k lt. absurd (omega (arith, lt));
        };
      };
      window = λ full. (let room = full.1 in omega (arith, room));
      within = le;
    },
  )

  abbrev x0 : Record
  x0 = record_with c Plain (c ∷ []) Done

  abbrev x1 : Record
  x1 = record_with c Exhaust (c ∷ c ∷ []) Done

  abbrev x2 : Record
  x2 = record_with c Unacknowledged [] Sent

  abbrev final : ClientEnd
  final = record { client = client_at [] (pos 4) 3 [] None; records = x0 ∷ x1 ∷ x2 ∷ [] }

  abbrev plain_out : Table
  plain_out = (pos 1, record { call = 0; kind = Plain; last = None }) ∷ []

  abbrev exhaust_out : Option ℤ → Table
  exhaust_out last = (pos 2, record { call = 1; kind = Exhaust; last = last }) ∷ []

  -- the client and its records, at each act
  abbrev end_ : ClientSeen → List Record → ClientEnd
  end_ k xs = record { client = k; records = xs }

  abbrev calling : ClientSeen → CallKind → CallNo → ClientSeen
  calling k kind number = called k kind c number

  abbrev k0 : ClientSeen
  k0 = client_at [] (pos 1) 0 [] None

  abbrev k1 : ClientSeen
  k1 = client_at plain_out (pos 2) 1 [] None

  abbrev k2 : ClientSeen
  k2 = client_at [] (pos 2) 1 (canonical only) (Some (ready 0 true))

  abbrev k3 : ClientSeen
  k3 = client_at [] (pos 2) 1 [] None

  abbrev k4 : ClientSeen
  k4 = client_at (exhaust_out None) (pos 3) 2 [] None

  abbrev k5 : ClientSeen
  k5 = client_at (exhaust_out (Some (pos 2))) (pos 3) 2 (canonical one_of) (Some (ready 1 false))

  abbrev k6 : ClientSeen
  k6 = client_at (exhaust_out (Some (pos 2))) (pos 3) 2 [] None

  abbrev k7 : ClientSeen
  k7 = client_at [] (pos 3) 2 (canonical last_of) (Some (ready 1 true))

  abbrev k8 : ClientSeen
  k8 = client_at [] (pos 3) 2 [] None

  abbrev new : CallKind → Record
  new kind = new_record 1 (asked_as kind c)

  abbrev half : Record
  half = record_with c Exhaust (c ∷ []) Pending

  takes : (table : Table) (id : ℤ) (n : ℕ) (m : Message) → SpellsMsg m (canonical m)
      → length (canonical m) ≤ limit
      → ClientTakes (client_at table id n [] None) (canonical m)
      (after_message (holding (client_at table id n [] None) (canonical m)) m)
  takes table id n m s most = client_takes limit m (canonical m) s most table id (Some n)

  abbrev acts_2 : List ClientAct
  acts_2 = Calls Unacknowledged payload (no 2 (pos 3)) ∷ SendsUp (canonical silent) ∷ []

  third : ClientRun 1 (end_ k8 (x0 ∷ x1 ∷ [])) acts_2 final
  third =
      calls_on 1 (SendsUp (canonical silent) ∷ []) (end_ k8 (x0 ∷ x1 ∷ [])) final Unacknowledged
      payload (no 2 (pos 3)) (may_call Unacknowledged (pos 3) 2)
      (sends_on 1 [] (end_ (calling k8 Unacknowledged (no 2 (pos 3))) (x0 ∷ x1 ∷ x2 ∷ [])) final
      (canonical silent) refl refl)

  abbrev acts_1 : List ClientAct
  acts_1 =
      TakesDown (canonical one_of) ∷ Collects (ready 1 false) one_of
      ∷ TakesDown (canonical last_of) ∷ Collects (ready 1 true) last_of ∷ acts_2

  second : ClientRun 1 (end_ k4 (x0 ∷ new Exhaust ∷ [])) acts_1 final
  second =
      takes_on 1 (Collects (ready 1 false) one_of ∷ TakesDown (canonical last_of)
      ∷ Collects (ready 1 true) last_of ∷ acts_2) (end_ k4 (x0 ∷ new Exhaust ∷ [])) final
      (canonical one_of) k5
      (takes (exhaust_out None) (pos 3) 2 one_of s_one (within one_of refl))
      (collects_on 1 (TakesDown (canonical last_of) ∷ Collects (ready 1 true) last_of ∷ acts_2)
      (end_ k5 (x0 ∷ new Exhaust ∷ [])) final (ready 1 false) one_of refl s_one
      (takes_on 1 (Collects (ready 1 true) last_of ∷ acts_2) (end_ k6 (x0 ∷ half ∷ [])) final
      (canonical last_of) k7
      (takes (exhaust_out (Some (pos 2))) (pos 3) 2 last_of s_last (within last_of refl))
      (collects_on 1 acts_2 (end_ k7 (x0 ∷ half ∷ [])) final (ready 1 true) last_of refl s_last
      third)))

  abbrev acts_0 : List ClientAct
  acts_0 =
      Calls Plain payload (no 0 (pos 1)) ∷ SendsUp (canonical plain) ∷ TakesDown (canonical only)
      ∷ Collects (ready 0 true) only ∷ Calls Exhaust payload (no 1 (pos 2))
      ∷ SendsUp (canonical exhaust) ∷ acts_1

  first : ClientRun 1 (end_ k0 []) acts_0 final
  first =
      calls_on 1 (SendsUp (canonical plain) ∷ TakesDown (canonical only)
      ∷ Collects (ready 0 true) only ∷ Calls Exhaust payload (no 1 (pos 2))
      ∷ SendsUp (canonical exhaust) ∷ acts_1) (end_ k0 []) final Plain payload (no 0 (pos 1))
      (may_call Plain (pos 1) 0)
      (sends_on 1 (TakesDown (canonical only) ∷ Collects (ready 0 true) only
      ∷ Calls Exhaust payload (no 1 (pos 2)) ∷ SendsUp (canonical exhaust) ∷ acts_1)
      (end_ (calling k0 Plain (no 0 (pos 1))) (new Plain ∷ [])) final (canonical plain) refl
      (takes_on 1 (Collects (ready 0 true) only ∷ Calls Exhaust payload (no 1 (pos 2))
      ∷ SendsUp (canonical exhaust) ∷ acts_1) (end_ k1 (new Plain ∷ [])) final (canonical only) k2
      (takes plain_out (pos 2) 1 only s_only (within only refl))
      (collects_on 1 (Calls Exhaust payload (no 1 (pos 2)) ∷ SendsUp (canonical exhaust) ∷ acts_1)
      (end_ k2 (new Plain ∷ [])) final (ready 0 true) only refl s_only
      (calls_on 1 (SendsUp (canonical exhaust) ∷ acts_1) (end_ k3 (x0 ∷ [])) final Exhaust payload
      (no 1 (pos 2)) (may_call Exhaust (pos 2) 1)
      (sends_on 1 acts_1 (end_ (calling k3 Exhaust (no 1 (pos 2))) (x0 ∷ new Exhaust ∷ [])) final
      (canonical exhaust) refl second)))))

  -- ---- the server

  abbrev server_at_ : List (List ℕ) → List ℕ → ℕ → ServerView
  server_at_ waiting output id = record {
    connection = 1;
    window = 1;
    limit = limit;
    held = [];
    waiting = waiting;
    output = output;
    next_id = id;
    state = servers.Open;
  }

  abbrev given : ServerView → List LogEntry → ServerEnds (Unit {0})
  given s log = record { servers = s ∷ []; log = log; handler = tt }

  abbrev e0 : LogEntry
  e0 = entered 1 (asked_by plain) (Some (c ∷ []))

  abbrev e1 : LogEntry
  e1 = entered 1 (asked_by exhaust) (Some (c ∷ c ∷ []))

  abbrev e2 : LogEntry
  e2 = entered 1 (asked_by silent) (Some (c ∷ []))

  abbrev HasSpelling : Content → Type 0
  HasSpelling d = ∥ IsContent d ∥₁

  abbrev Fine : LogEntry → Type 0
  Fine e = ForSome e.answers (All HasSpelling)

  contents : (n : ℕ) (m : Message) (cs : List Content) → All HasSpelling cs
      → Fine (entered n (asked_by m) (Some cs))
  contents n m cs all ds e = subst (All HasSpelling) (same_Some cs ds e) all

  one_c : All HasSpelling (c ∷ [])
  one_c = All-cons HasSpelling c [] ∣ is ∣₁ (All-nil HasSpelling)

  two_c : All HasSpelling (c ∷ c ∷ [])
  two_c = All-cons HasSpelling c (c ∷ []) ∣ is ∣₁ one_c

  f2 : AreContents (e2 ∷ [])
  f2 = All-cons Fine e2 [] (contents 1 silent (c ∷ []) one_c) (All-nil Fine)

  f0 : AreContents (e0 ∷ [])
  f0 = All-cons Fine e0 [] (contents 1 plain (c ∷ []) one_c) (All-nil Fine)

  f1 : AreContents (e0 ∷ e1 ∷ [])
  f1 = All-cons Fine e0 (e1 ∷ []) (contents 1 plain (c ∷ []) one_c)
      (All-cons Fine e1 [] (contents 1 exhaust (c ∷ c ∷ []) two_c) (All-nil Fine))

  f3 : AreContents (e0 ∷ e1 ∷ e2 ∷ [])
  f3 = All-cons Fine e0 (e1 ∷ e2 ∷ []) (contents 1 plain (c ∷ []) one_c)
      (All-cons Fine e1 (e2 ∷ []) (contents 1 exhaust (c ∷ c ∷ []) two_c) f2)

  short_one : (m : Message) → m.content ≡ c → is_longer limit (m ∷ []) ≡ false
  short_one m same =
      ap (λ z. if nat_lt limit (message_len z) then true else false) same
      ∙ ap (λ z. if z then true else false) not_longer

  short_two : is_longer limit (one_of ∷ last_of ∷ []) ≡ false
  short_two =
      ap (λ z. if z then true else is_longer limit (last_of ∷ [])) not_longer
      ∙ short_one last_of refl

  -- a request is taken, answered, and its replies are sent
  takes_up : (m : Message) (log : List LogEntry) (id : ℕ) → SpellsMsg m (canonical m)
      → length (canonical m) ≤ limit
      → ServerDoes echoes never_stops (TakesUp (canonical m)) (server_at_ [] [] id) log tt
      (server_at_ (canonical m ∷ []) [] id) log tt
  takes_up m log id s most = (server_takes limit m (canonical m) s most id, refl, refl)

  sends_down : (log : List LogEntry) (bytes : List ℕ) (id : ℕ)
      → ServerDoes echoes never_stops (SendsDown bytes) (server_at_ [] bytes id) log tt
      (server_at_ [] [] id) log tt
  sends_down log bytes id = (([], sym (append-nil bytes), refl), refl, refl)

  answers_plain : ServerDoes echoes never_stops (Answers 0 (Ok 0))
      (server_at_ (canonical plain ∷ []) [] 1) [] tt (server_at_ [] one 2) (e0 ∷ []) tt
  answers_plain = (
    (
      refl,
      refl,
      (
        plain,
        record { bytes = canonical plain; at = refl; spelled = s_plain },
        (
          record { output = one; next = 2; limit = limit },
          (
            c ∷ [],
            record { answered = refl; count = (omega arith, λ e. refl); entry = refl },
            short_one only refl,
            refl,
          ),
          refl,
        ),
      ),
    ),
    f0,
  )

  answers_exhaust : ServerDoes echoes never_stops (Answers 0 (Ok 1))
      (server_at_ (canonical exhaust ∷ []) [] 2) (e0 ∷ []) tt (server_at_ [] two 4) (e0 ∷ e1 ∷ [])
      tt
  answers_exhaust = (
    (
      refl,
      refl,
      (
        exhaust,
        record { bytes = canonical exhaust; at = refl; spelled = s_exhaust },
        (
          record { output = two; next = 4; limit = limit },
          (
            c ∷ c ∷ [],
            record { answered = refl; count = (omega arith, λ e. absurd (differ e)); entry = refl },
            short_two,
            refl,
          ),
          refl,
        ),
      ),
    ),
    f1,
  )
    where
      differ : true ≡ false → ⊥
      differ e = cc

  answers_silent : ServerDoes echoes never_stops (Answers 0 (Ok 2))
      (server_at_ (canonical silent ∷ []) [] 4) (e0 ∷ e1 ∷ []) tt (server_at_ [] [] 4)
      (e0 ∷ e1 ∷ e2 ∷ []) tt
  answers_silent = (
    (
      refl,
      refl,
      (
        silent,
        record { bytes = canonical silent; at = refl; spelled = s_silent },
        (
          record { output = []; next = 4; limit = limit },
          (
            c ∷ [],
            record { answered = refl; count = (omega arith, λ e. refl); entry = refl },
            refl,
            refl,
          ),
          refl,
        ),
      ),
    ),
    f3,
  )

  abbrev last : ServerEnds (Unit {0})
  last = given (server_at_ [] [] 4) (e0 ∷ e1 ∷ e2 ∷ [])

  served_2 : ServersRun echoes never_stops (given (server_at_ [] [] 4) (e0 ∷ e1 ∷ [])) deeds_2 last
  served_2 =
      serves_on (AtServer 1 (Answers 0 (Ok 2)) ∷ []) (given (server_at_ [] [] 4) (e0 ∷ e1 ∷ []))
      last (TakesUp (canonical silent)) (server_at_ [] [] 4) (server_at_ (canonical silent ∷ []) [] 4)
      (e0 ∷ e1 ∷ []) refl (takes_up silent (e0 ∷ e1 ∷ []) 4 s_silent (within silent refl))
      (serves_on [] (given (server_at_ (canonical silent ∷ []) [] 4) (e0 ∷ e1 ∷ [])) last
      (Answers 0 (Ok 2)) (server_at_ (canonical silent ∷ []) [] 4) (server_at_ [] [] 4)
      (e0 ∷ e1 ∷ e2 ∷ []) refl answers_silent refl)

  served_1 : ServersRun echoes never_stops (given (server_at_ [] [] 2) (e0 ∷ [])) deeds_1 last
  served_1 =
      serves_on (AtServer 1 (Answers 0 (Ok 1)) ∷ AtServer 1 (SendsDown two) ∷ deeds_2)
      (given (server_at_ [] [] 2) (e0 ∷ [])) last (TakesUp (canonical exhaust))
      (server_at_ [] [] 2) (server_at_ (canonical exhaust ∷ []) [] 2) (e0 ∷ []) refl
      (takes_up exhaust (e0 ∷ []) 2 s_exhaust (within exhaust refl))
      (serves_on (AtServer 1 (SendsDown two) ∷ deeds_2)
      (given (server_at_ (canonical exhaust ∷ []) [] 2) (e0 ∷ [])) last (Answers 0 (Ok 1))
      (server_at_ (canonical exhaust ∷ []) [] 2) (server_at_ [] two 4) (e0 ∷ e1 ∷ []) refl
      answers_exhaust
      (serves_on deeds_2 (given (server_at_ [] two 4) (e0 ∷ e1 ∷ [])) last (SendsDown two)
      (server_at_ [] two 4) (server_at_ [] [] 4) (e0 ∷ e1 ∷ []) refl
      (sends_down (e0 ∷ e1 ∷ []) two 4) served_2))

  served : ServersRun echoes never_stops (first_servers_of limit made_least 1 tt) deeds last
  served =
      serves_on (AtServer 1 (Answers 0 (Ok 0)) ∷ AtServer 1 (SendsDown one) ∷ deeds_1)
      (first_servers_of limit made_least 1 tt) last (TakesUp (canonical plain))
      (server_at_ [] [] 1) (server_at_ (canonical plain ∷ []) [] 1) [] refl
      (takes_up plain [] 1 s_plain (within plain refl))
      (serves_on (AtServer 1 (SendsDown one) ∷ deeds_1)
      (given (server_at_ (canonical plain ∷ []) [] 1) []) last (Answers 0 (Ok 0))
      (server_at_ (canonical plain ∷ []) [] 1) (server_at_ [] one 2) (e0 ∷ []) refl answers_plain
      (serves_on deeds_1 (given (server_at_ [] one 2) (e0 ∷ [])) last (SendsDown one)
      (server_at_ [] one 2) (server_at_ [] [] 2) (e0 ∷ []) refl (sends_down (e0 ∷ []) one 2)
      served_1))

  -- ---- both

  abbrev ends : ℕ → ClientEnd
  ends d = if d == 1 then final else first_end limit made_least d

  arrive : Arrive (λ _. []) (λ _. []) deeds
  arrive = (
    [],
    sym (append-nil (canonical plain)),
    (
      [],
      refl,
      (
        [],
        sym (append-nil (canonical exhaust)),
        (
          canonical last_of ++ [],
          refl,
          (
            [],
            refl,
            (
              [],
              sym (append-nil (canonical silent)),
              tt,
            ),
          ),
        ),
      ),
    ),
  )

  ran : (d : ℕ) → ClientRun d (first_end limit made_least d) (acts_at d deeds) (ends d)
  ran d = elim (same_or_not d 1) [
    | inl e ↦ subst (λ z. ClientRun z (first_end limit made_least z) (acts_at z deeds) (ends z))
        (sym e) first
    | inr n ↦
        let far : (1 == d) ≡ false = is_elsewhere d 1 (λ e. n (sym e)) in
        let same : (d == 1) ≡ false = is_elsewhere 1 d n in
        rw (far, same) refl
  ]

  pub done : GetDone limit payload
  done = record {
    deeds = deeds;
    ends = ends;
    servers = last;
    clients_ran = ran;
    servers_ran = served;
    arrive = arrive;
    done = refl;
  }

pub get_done : (limit : ℕ) → limit < 2 ^ 31 → (payload : Payload)
    → message_len (content_of payload) ≤ limit → ∥ GetDone limit payload ∥₁
get_done limit short payload le =
    ∥∥₁_elim (of_content payload {P = λ d. ∥ IsContent d ∥₁} ∥∥₁_prop (λ d k. ∣ k.content ∣₁))
    ∥∥₁_prop (λ is. ∣ done limit short payload is le ∣₁)
