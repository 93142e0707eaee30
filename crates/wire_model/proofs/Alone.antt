-- What holds of a client, whoever answers it: act after act.
use Rattle.std.proofs.Common.{Contains, ◌≡◌, ◌≢◌, ℕ, ◌≤◌, ℤ, List, [], ◌∷◌, ◌++◌, length, map, suc, ◌<◌, take, refl, sym, ◌∙◌, ap, subst, append_assoc, arith, Option, Some, None, inl, inr, Result, Ok, Err}
use Rattle.std.proofs.Math.Seq.{drop-append_seam, take-length}
use Rattle.std.proofs.lemmas.List.{append-nil}
use Rattle.std.proofs.lemmas.Option.{none-some, same_Some}
use Rattle.bson_elem.specs.{IsBytes}
use Rattle.bson_elem.proofs.Lemmas.{IsBytes-drop}
use Rattle.wire_msg.specs.{AreSpelled, IsBad, IsOpen, Message, SpellsMsg, Split}
use Rattle.wire_msg.specs.Standing.{in_header}
use Rattle.wire_msg.specs.declared.fault.MsgFault.{MsgFault}
use Rattle.wire_msg.proofs.Lemmas.{IsBytes-front, bad_ends, bad_not_whole, bytes_append, one_split, open_ends, open_not_whole}
use Rattle.wire_peer.specs.{ClientSeen, Settles, allowed, called, closed, content_of, ended, ids, holding, new_client, owner, released, reply_to}
use Rattle.wire_peer.specs.ClientSteps.{after_release, end_cause, is_bad, is_message, is_open, received, state_after}
use Rattle.wire_peer.specs.declared.call_table.Outstanding.{Outstanding}
use Rattle.wire_peer.specs.declared.call_table.ReadyReply.{ReadyReply}
use Rattle.wire_peer.specs.declared.client_state.ClientCause.{ClientCause}
use Rattle.wire_peer.specs.declared.client_state.ClientCause.TheVariants as causes
use Rattle.wire_peer.specs.declared.client_state.ClientState.{ClientState}
use Rattle.wire_peer.specs.declared.client_state.ClientState.TheVariants.{Open, Closed}
use lib.ListN.{length-map}
use Rattle.wire_model.specs.Conns.{Record, lost_record, new_record}
use Rattle.wire_model.specs.Machines.{asked_as}
use Rattle.wire_model.specs.Moves.{put_at}
use Rattle.wire_model.proofs.Places.{length-push, length-slice_set}
use Rattle.wire_model.proofs.Wires.{same_request}
use Rattle.wire_model.specs.Owners.{Calls, ClientAct, ClientEnd, ClientRun, Collects, EndsDown, SendsUp, TakesDown, bytes_taken}
use Rattle.wire_model.proofs.Fits.{get_within}
use Rattle.wire_model.proofs.Over.{was_told}
use Rattle.wire_model.proofs.Numbers.{Each, Tidy, after_is, tidy_got, tidy_made, tidy_start}
use Rattle.wire_model.proofs.Records.{put_is}
use Rattle.wire_model.proofs.Tells.{Tells, low_front, new_not_done, ready_low, tells_given, tells_lost, tells_made}
use Rattle.wire_model.specs.Alone.{ClosesBy, Got, Heard, Hearing, Hears, HoldsAlone, IsMessageOf, IsLastHeard, IsReadyWith, Made, NoneBehind, got, handed, hear, hear_all, replied, silence}

-- how a client fits what it heard, if these replies were handed out
record Past (limit : ℕ) (records : List Record) (k : ClientSeen) (h : Hearing)
    (out : List (ReadyReply × Message)) : Type 0 where
  limit_is : k.requests.limit ≡ limit
  next_is : (n : ℕ) → k.requests.next_number ≡ Some n → n ≡ length records
  tidy : Tidy h (length records)
  kept : Tells records out
  table : h.table ≡ k.requests.outstanding
  ready : List (ReadyReply × Message)
  ready_is : IsReadyWith k.reply k.held ready
  replies : h.replies ≡ out ++ ready
  rest : List ℕ
  holds : k.reply ≡ None → h.cause ≡ None → k.held ≡ rest
  emptied : (reply : ReadyReply) → k.reply ≡ Some reply → rest ≡ []
  closes : ClosesBy limit rest h.cause k.state

nil_open : (limit : ℕ) → IsOpen limit []
nil_open limit = in_header {bytes = []} (omega arith)

-- ---- who is told the end

ended_closes : (limit : ℕ) (rest : List ℕ) (o : Option ReadyReply) (held : List ℕ)
    (cause : Option ClientCause) (s : ClientState) → (o ≡ None → cause ≡ None → held ≡ rest)
    → ((reply : ReadyReply) → o ≡ Some reply → rest ≡ []) → ClosesBy limit rest cause s
    → ClosesBy limit rest cause (state_after s (end_cause o held))
ended_closes limit rest None [] None Open holds emptied c = sym (holds refl refl)
ended_closes limit rest None (b ∷ held) None Open holds emptied c =
    (λ none. absurd (let no_ : b ∷ held ≡ [] = holds refl refl ∙ none in cc), c)
ended_closes limit rest (Some reply) held None Open holds emptied c = emptied reply refl
ended_closes limit rest o held None (Closed first) holds emptied c = c
ended_closes limit rest o held (Some cause) Open holds emptied c =
    absurd (let no_ : Open ≡ Closed cause = c.0 in cc)
ended_closes limit rest o held (Some cause) (Closed first) holds emptied c = c

-- ---- an open client has no such cause

no_cause : (limit : ℕ) (rest : List ℕ) (cause : Option ClientCause) (s : ClientState) → s ≡ Open
    → ClosesBy limit rest cause s → cause ≡ None
no_cause limit rest None s live c = refl
no_cause limit rest (Some cause) s live c =
    absurd (let no_ : Open ≡ Closed cause = sym live ∙ c.0 in cc)

none_ready : (o : Option ReadyReply) (held : List ℕ) (ready : List (ReadyReply × Message))
    → o ≡ None → IsReadyWith o held ready → ready ≡ []
none_ready None held ready none is = is
none_ready (Some reply) held ready none is = absurd (none-some reply (sym none))

-- ---- a message is taken

module _ (limit : ℕ) (records : List Record) (k : ClientSeen) (h : Hearing)
    (out : List (ReadyReply × Message)) (p : Past limit records k h out) (none : k.reply ≡ None)
    (live : k.state ≡ Open) (b : List ℕ) where
  cause_is : h.cause ≡ None
  cause_is = no_cause limit p.rest h.cause k.state live p.closes

  so_far : h.replies ≡ out ++ []
  so_far = p.replies ∙ ap (λ z. out ++ z) (none_ready k.reply k.held p.ready none p.ready_is)

  past_message : (m : Message) (r : Result (ℤ × Outstanding) ClientCause) (new : ClientSeen)
      → SpellsMsg m b → Tidy (replied h m r) (length records) → new ≡ received (holding k b) m r
      → (q : Past limit records new (replied h m r) out) × (q.rest ≡ [])
  past_message m (Ok o) new s tidy same =
      subst (λ z. (q : Past limit records z (replied h m (Ok o)) out) × (q.rest ≡ [])) (sym same) (
        record {
          limit_is = p.limit_is;
          next_is = p.next_is;
          tidy = tidy;
          kept = p.kept;
          table = ap (λ t. (replied (record { table = t; replies = []; cause = None }) m
              (Ok o)).table) p.table;
          ready = (reply_to o m.flags.more_to_come, m) ∷ [];
          ready_is = (m, s, refl);
          replies = ap (λ z. z ++ (reply_to o m.flags.more_to_come, m) ∷ []) (so_far ∙ append-nil out);
          rest = [];
          holds = λ no_ c. absurd (none-some _ (sym no_));
          emptied = λ reply e. refl;
          closes = rw (cause_is, live) (nil_open limit);
        },
        refl,
      )
  past_message m (Err cause) new s tidy same =
      subst (λ z. (q : Past limit records z (replied h m (Err cause)) out) × (q.rest ≡ []))
      (sym same) (
        record {
          limit_is = p.limit_is;
          next_is = p.next_is;
          tidy = tidy;
          kept = p.kept;
          table = p.table;
          ready = [];
          ready_is = rw none refl;
          replies = so_far;
          rest = [];
          holds = λ no_ c. absurd (none-some cause (sym c));
          emptied = λ reply e. refl;
          closes = (ap (λ s. state_after s cause) live, refl);
        },
        refl,
      )

  -- more of it may come
  past_open : (new : ClientSeen) → IsOpen limit b → new ≡ holding k b
      → (q : Past limit records new h out) × (q.rest ≡ b)
  past_open new o same = subst (λ z. (q : Past limit records z h out) × (q.rest ≡ b)) (sym same) (
    record {
      limit_is = p.limit_is;
      next_is = p.next_is;
      tidy = p.tidy;
      kept = p.kept;
      table = p.table;
      ready = [];
      ready_is = rw none refl;
      replies = so_far;
      rest = b;
      holds = λ no_ c. refl;
      emptied = λ reply e. absurd (none-some reply (sym none ∙ e));
      closes = rw (cause_is, live) o;
    },
    refl,
  )

  past_bad : (f : MsgFault) (new : ClientSeen) → IsBad limit b f
      → new ≡ closed (holding k b) (causes.Message f)
      → (q : Past limit records new h out) × (q.rest ≡ b)
  past_bad f new bad same = subst (λ z. (q : Past limit records z h out) × (q.rest ≡ b)) (sym same) (
    record {
      limit_is = p.limit_is;
      next_is = p.next_is;
      tidy = p.tidy;
      kept = p.kept;
      table = p.table;
      ready = [];
      ready_is = rw none refl;
      replies = so_far;
      rest = b;
      holds = λ no_ c. refl;
      emptied = λ reply e. absurd (none-some reply (sym none ∙ e));
      closes = rw (cause_is, live) bad;
    },
    refl,
  )

-- ---- the reply is released

past_released : (limit : ℕ) (records records' : List Record) (k : ClientSeen) (h : Hearing)
    (out : List (ReadyReply × Message))
    (reply : ReadyReply) (m : Message) (p : Past limit records k h out) → length records' ≡ length
    records
    → Tells records' (out ++ (reply, m) ∷ []) → k.reply ≡ Some reply
    → SpellsMsg m k.held
    → (q : Past limit records' (released k) h (out ++ (reply, m) ∷ [])) × (q.rest ≡ p.rest)
past_released limit records records' k h out reply m p many told is spells =
    subst (λ o. (q : Past limit records' (after_release o k) h (out ++ (reply, m) ∷ []))
    × (q.rest ≡ p.rest)) (sym is) (
      record {
        limit_is = p.limit_is;
        next_is = λ n e. p.next_is n e ∙ sym many;
        tidy = subst (Tidy h) (sym many) p.tidy;
        kept = told;
        table = p.table;
        ready = [];
        ready_is = refl;
        replies =
            p.replies ∙ ap (λ z. out ++ z) (r.2 ∙ ap (λ z. (reply, z) ∷ [])
            (same_request r.0 m k.held r.1 spells))
            ∙ sym (append-nil (out ++ (reply, m) ∷ []));
        rest = p.rest;
        holds = λ no_ c. sym (p.emptied reply is);
        emptied = λ other e. absurd (none-some other e);
        closes = p.closes;
      },
      refl,
    )
  where
    r : (n : Message) × SpellsMsg n k.held × (p.ready ≡ (reply, n) ∷ [])
    r = subst (λ o. IsReadyWith o k.held p.ready) is p.ready_is

-- ---- nothing is heard after a message that belongs to no call

nothing_last : (h : Hearing) → IsLastHeard h []
nothing_last h [] after e some = sym e
nothing_last h (x ∷ before) after e some = absurd (let no_ : [] ≡ x ∷ (before ++ after) = e in cc)

last_on : (x : Heard) (xs : List Heard) (h : Hearing) → h.cause ≡ None → IsLastHeard (hear h x) xs
    → IsLastHeard h (x ∷ xs)
last_on x xs h none on [] after e some = absurd (some none)
last_on x xs h none on (y ∷ before) after e some =
    let head : x ≡ y = cc in
    let tail : xs ≡ before ++ after = cc in
    on before after tail (subst (λ z. (hear_all (hear h z) before).cause ≢ None) (sym head) some)

-- ---- act after act

module _ (limit c : ℕ) where
  -- what holds after a run
  record Come (rest : List ℕ) (h : Hearing) (all : List (ReadyReply × Message))
      (acts : List ClientAct) (new : ClientEnd) : Type 0 where
    heard : List Heard
    hears : Hears limit rest acts heard
    last : IsLastHeard h heard
    past : Past limit new.records new.client (hear_all h heard) all
    joined : List ℕ
    spelled : AreSpelled limit (got heard) joined
    parts : rest ++ bytes_taken acts ≡ joined ++ past.rest

  -- the rest of a run, from this client on
  abbrev On : List Record → ClientSeen → ClientEnd → List (ReadyReply × Message) → List ClientAct
      → Type 0
  On records client new out acts =
      (g : Hearing) (q : Past limit records client g out) → IsBytes q.rest
      → Come q.rest g (out ++ handed acts) acts new

  not_open : (b : List ℕ) → IsOpen limit b → (m : Message) → IsMessageOf limit b m → ⊥
  not_open b o m is =
      open_not_whole limit b [] m o (record {
        front = b;
        parts = sym (append-nil b);
        spelled =
            is.0;
        within = is.1;
      })

  not_bad : (b : List ℕ) (f : MsgFault) → IsBytes b → IsBad limit b f → (m : Message)
      → IsMessageOf limit b m → ⊥
  not_bad b f are bad m is =
      bad_not_whole limit b [] m f are bad
      (record { front = b; parts = sym (append-nil b); spelled = is.0; within = is.1 })

  comes : (acts : List ClientAct) (old new : ClientEnd) (h : Hearing)
      (out : List (ReadyReply × Message)) (p : Past limit old.records old.client h out)
      → IsBytes p.rest
      → IsBytes (bytes_taken acts) → ClientRun c old acts new
      → Come p.rest h (out ++ handed acts) acts new
  comes [] old new h out p are all same = rw same (subst (λ z. Come p.rest h z [] old)
      (sym (append-nil out)) (record {
        heard = [];
        hears = refl;
        last = nothing_last h;
        past = p;
        joined = [];
        spelled = refl;
        parts = append-nil p.rest;
      }))
  comes (Calls kind payload number ∷ acts) old new h out p are all (mid, (is, e), run) =
      let record_ : Record = new_record c (asked_as kind (content_of payload)) in
      let here : number.number ≡ length old.records = p.next_is number.number is.1.next.number in
      let q : Past limit (old.records ++ record_ ∷ []) (called old.client kind (content_of payload)
      number) (hear h (Made kind number)) out = record {
        limit_is = p.limit_is;
        next_is =
            λ n e'. after_is number.number n e' ∙ ap suc here
            ∙ sym (length-push old.records record_);
        tidy =
            subst (Tidy (hear h (Made kind number))) (sym (length-push old.records record_))
            (tidy_made h (length old.records) kind number p.tidy here
            (subst (λ t. Contains (ids t) number.id → ⊥) (sym p.table) is.1.next.id.free));
        kept = tells_made old.records out (length old.records) record_ refl refl
            (new_not_done c (asked_as kind (content_of payload))) (low_front (length old.records)
            out p.ready (subst (Each (λ (x : ReadyReply × Message). x.0.call < length old.records))
            p.replies p.tidy.past)) p.kept;
        table = ap (λ t. (hear (record { table = t; replies = []; cause = None })
            (Made kind number)).table) p.table;
        ready = p.ready;
        ready_is = p.ready_is;
        replies = p.replies;
        rest = p.rest;
        holds = p.holds;
        emptied = p.emptied;
        closes = p.closes;
      } in
      let r = comes acts _ new (hear h (Made kind number)) out q are all
      (subst (λ z. ClientRun c z acts new) e run) in
      record {
        heard = Made kind number ∷ r.heard;
        hears = (r.heard, refl, r.hears);
        last = last_on (Made kind number) r.heard h
            (no_cause limit p.rest h.cause old.client.state is.0 p.closes) r.last;
        past = r.past;
        joined = r.joined;
        spelled = r.spelled;
        parts = r.parts;
      }
  comes (SendsUp bytes ∷ acts) old new h out p are all (mid, (rest, output, e), run) =
      let q : Past limit old.records _ h out = record {
        limit_is = p.limit_is;
        next_is = p.next_is;
        tidy = p.tidy;
        kept = p.kept;
        table = p.table;
        ready = p.ready;
        ready_is = p.ready_is;
        replies = p.replies;
        rest = p.rest;
        holds = p.holds;
        emptied = p.emptied;
        closes = p.closes;
      } in
      let r = comes acts _ new h out q are all (subst (λ z. ClientRun c z acts new) e run) in
      record {
        heard = r.heard;
        hears = r.hears;
        last = r.last;
        past = r.past;
        joined = r.joined;
        spelled = r.spelled;
        parts = r.parts;
      }
  comes (EndsDown ∷ acts) old new h out p are all (mid, e, run) =
      let q : Past limit (map lost_record old.records) (ended old.client) h out = record {
        limit_is = p.limit_is;
        next_is = λ n e'. p.next_is n e' ∙ sym (length-map old.records lost_record);
        tidy = subst (Tidy h) (sym (length-map old.records lost_record)) p.tidy;
        kept = tells_lost old.records out p.kept;
        table = p.table;
        ready = p.ready;
        ready_is = p.ready_is;
        replies = p.replies;
        rest = p.rest;
        holds = p.holds;
        emptied = p.emptied;
        closes =
            ended_closes limit p.rest old.client.reply old.client.held h.cause old.client.state
            p.holds p.emptied p.closes;
      } in
      let r = comes acts _ new h out q are all (subst (λ z. ClientRun c z acts new) e run) in
      record {
        heard = r.heard;
        hears = r.hears;
        last = r.last;
        past = r.past;
        joined = r.joined;
        spelled = r.spelled;
        parts = r.parts;
      }
  comes (Collects reply m ∷ acts) old new h out p are all (mid, (ready, spells, e), run) =
      let records : List Record = put_at (Some reply.call) m.content reply.last old.records in
      let there = ready_low old.client.reply old.client.held p.ready reply (length old.records) out
      ready p.ready_is (subst
      (Each (λ (x : ReadyReply × Message). x.0.call < length old.records)) p.replies
      p.tidy.past) in
      let x = get_within old.records reply.call there in
      let put = put_is old.records (Some reply.call) reply.call x.0 m.content reply.last refl
      x.1 in
      let many : length records ≡ length old.records = ap length put ∙ length-slice_set old.records
      reply.call _ in
      let told : Tells records (out ++ (reply, m) ∷ []) = subst
      (λ z. Tells z (out ++ (reply, m) ∷ [])) (sym put) (tells_given old.records out reply
      m x.0 x.1 p.kept) in
      let q = past_released limit old.records records old.client h out reply m p many told ready
      spells in
      let r0 = comes acts _ new h (out ++ (reply, m) ∷ []) q.0 (subst IsBytes (sym q.1) are) all
      (subst (λ z. ClientRun c z acts new) e run) in
      let r1 : Come p.rest h ((out ++ (reply, m) ∷ []) ++ handed acts) acts new = subst
      (λ z. Come z h ((out ++ (reply, m) ∷ []) ++ handed acts) acts new) q.1 r0 in
      let r : Come p.rest h (out ++ (reply, m) ∷ handed acts) acts new = subst
      (λ z. Come p.rest h z acts new) (append_assoc out ((reply, m) ∷ []) (handed acts))
      r1 in
      record {
        heard = r.heard;
        hears = r.hears;
        last = r.last;
        past = r.past;
        joined = r.joined;
        spelled = r.spelled;
        parts = r.parts;
      }
  comes (TakesDown bytes ∷ acts) old new h out p are all (mid, (client, takes, e), run) =
      by (λ g q q_are. comes acts _ new g out q q_are more_are (subst (λ z. ClientRun c z acts new)
      e run)) takes.takes.settles
    where
      k : ClientSeen
      k = old.client

      b : List ℕ
      b = k.held ++ take (length bytes) bytes

      held : k.held ≡ p.rest
      held = p.holds takes.may.0 (no_cause limit p.rest h.cause k.state takes.may.1 p.closes)

      b_is : b ≡ p.rest ++ bytes
      b_is = ap (λ z. z ++ take (length bytes) bytes) held ∙ ap (λ z. p.rest ++ z)
          (take-length bytes)

      more_are : IsBytes (bytes_taken acts)
      more_are = subst IsBytes (drop-append_seam bytes (bytes_taken acts))
          (IsBytes-drop (length bytes) (bytes ++ bytes_taken acts) all)

      b_are : IsBytes b
      b_are = subst IsBytes (sym b_is) (bytes_append p.rest bytes are
          (IsBytes-front (bytes ++ bytes_taken acts) bytes (bytes_taken acts) all refl))

      -- no message is whole
      further : On old.records client new out acts → (q : Past limit old.records client h out)
          → q.rest ≡ b
          → ((m : Message) → IsMessageOf limit b m → ⊥)
          → Come p.rest h (out ++ handed acts) (TakesDown bytes ∷ acts) new
      further on q is none =
          let r = on h q (subst IsBytes (sym is) b_are) in
          record {
            heard = r.heard;
            hears = inr (
              subst (λ z. (m : Message) → IsMessageOf limit z m → ⊥) b_is none,
              subst
                  (λ z. Hears limit z acts r.heard) (is ∙ b_is) r.hears,
            );
            last = r.last;
            past = r.past;
            joined = r.joined;
            spelled = r.spelled;
            parts =
                sym (append_assoc p.rest bytes (bytes_taken acts))
                ∙ ap (λ z. z ++ bytes_taken acts) (sym (is ∙ b_is)) ∙ r.parts;
          }

      whole : On old.records client new out acts → (m : Message) → SpellsMsg m b → length b ≤ limit
          → (q : Past limit old.records client (hear h (Got m)) out) → q.rest ≡ []
          → Come p.rest h (out ++ handed acts) (TakesDown bytes ∷ acts) new
      whole on m spells within q none =
          let r = on (hear h (Got m)) q (subst IsBytes (sym none) (λ i. omega arith)) in
          record {
            heard = Got m ∷ r.heard;
            hears = inl (
              m,
              r.heard,
              subst (λ z. IsMessageOf limit z m) b_is (spells, within),
              refl,
              subst (λ z. Hears limit z acts r.heard) none r.hears,
            );
            last = last_on (Got m) r.heard h
                (no_cause limit p.rest h.cause k.state takes.may.1 p.closes) r.last;
            past = r.past;
            joined = b ++ r.joined;
            spelled = (b, r.joined, (spells, within), r.spelled, refl);
            parts =
                sym (append_assoc p.rest bytes (bytes_taken acts))
                ∙ ap (λ z. z ++ bytes_taken acts) (sym b_is)
                ∙ ap (λ z. b ++ z) (ap (λ z. z ++ bytes_taken acts) (sym none) ∙ r.parts)
                ∙ sym (append_assoc b r.joined r.past.rest);
          }

      by : On old.records client new out acts → Settles (holding k b) client
          → Come p.rest h (out ++ handed acts) (TakesDown bytes ∷ acts) new
      by on (is_open o same) =
          let o' = subst (λ l. IsOpen l b) p.limit_is o in
          let q = past_open limit old.records k h out p takes.may.0 takes.may.1 b client o' same in
          further on q.0 q.1 (not_open b o')
      by on (is_message m spells within same) =
          let same' = same
          ∙ ap (λ t. received (holding k b) m (allowed m.flags.more_to_come (owner t m.response_to)))
          (sym p.table) in
          let q =
          past_message limit old.records k h out p takes.may.0 takes.may.1 b m
          (allowed m.flags.more_to_come (owner h.table m.response_to)) client spells
          (tidy_got h (length old.records) m p.tidy) same' in
          whole on m spells (subst (λ l. length b ≤ l) p.limit_is within) q.0 q.1
      by on (is_bad f bad same) =
          let bad' = subst (λ l. IsBad l b f) p.limit_is bad in
          let q = past_bad limit old.records k h out p takes.may.0 takes.may.1 b f client bad'
          same in
          further on q.0 q.1 (not_bad b f b_are bad')

  -- ---- from the first act on

  splits : (rest : List ℕ) (messages : List Message) (joined : List ℕ) (cause : Option ClientCause)
      (s : ClientState) → IsBytes rest → AreSpelled limit messages joined
      → ClosesBy limit rest cause s → Split limit (joined ++ rest) messages rest
  splits rest ms j None Open are sp c = open_ends limit ms j rest sp c
  splits rest ms j None (Closed causes.Ended) are sp c =
      open_ends limit ms j rest sp (subst (IsOpen limit) (sym c) (nil_open limit))
  splits rest ms j None (Closed causes.EndedInside) are sp c = open_ends limit ms j rest sp c.1
  splits rest ms j None (Closed (causes.Message f)) are sp c = bad_ends limit ms j rest f are sp c
  splits rest ms j None (Closed (causes.UnknownReply to)) are sp c = absurd c
  splits rest ms j None (Closed causes.MoreNotAllowed) are sp c = absurd c
  splits rest ms j None (Closed causes.StreamBroken) are sp c = absurd c
  splits rest ms j (Some cause) s are sp c =
      open_ends limit ms j rest sp (subst (IsOpen limit) (sym c.1) (nil_open limit))

  pub alone : (first_id : ℤ) (window : ℕ) (acts : List ClientAct) (new : ClientEnd)
      → IsBytes (bytes_taken acts)
      → ClientRun c (record { client = new_client first_id window limit; records = [] }) acts new
      → HoldsAlone limit acts new
  alone first_id window acts new are run = record {
    heard = r.heard;
    hears = r.hears;
    rest = r.past.rest;
    split = split;
    only = λ others after s. one_split limit (bytes_taken acts) (got r.heard) others r.past.rest
        after are split s;
    ready = r.past.ready;
    ready_is = r.past.ready_is;
    replies = r.past.replies;
    none_behind = subst NoneBehind r.past.replies r.past.tidy.none;
    parts = r.past.kept.parts;
    done = λ n x at. (r.past.kept.done n x at, r.past.kept.last n x at);
    table = r.past.table;
    closes = r.past.closes;
    last = r.last;
    told = λ over. was_told c acts _ new run refl over;
  }
    where
      start : (q : Past limit [] (new_client first_id window limit) silence []) × (q.rest ≡ [])
      start = (
        record {
          limit_is = refl;
          next_is = λ n e. sym (same_Some 0 n e);
          tidy = tidy_start;
          kept = record {
            parts = λ n x at. absurd (none-some x at);
            done = λ n x at. absurd
                (none-some x at);
            last = λ n x at. absurd (none-some x at);
          };
          table = refl;
          ready = [];
          ready_is = refl;
          replies = refl;
          rest = [];
          holds = λ no_ c. refl;
          emptied = λ reply e. refl;
          closes = nil_open limit;
        },
        refl,
      )

      r : Come [] silence (handed acts) acts new
      r =
          subst (λ z. Come z silence (handed acts) acts new) start.1
          (comes acts _ new silence [] start.0 (subst IsBytes (sym start.1) (λ i. omega arith)) are
          run)

      rest_are : IsBytes r.past.rest
      rest_are =
          subst IsBytes (drop-append_seam r.joined r.past.rest)
          (IsBytes-drop (length r.joined) (r.joined ++ r.past.rest) (subst IsBytes r.parts are))

      split : Split limit (bytes_taken acts) (got r.heard) r.past.rest
      split =
          subst (λ z. Split limit z (got r.heard) r.past.rest) (sym r.parts)
          (splits r.past.rest (got r.heard) r.joined (hear_all silence r.heard).cause
          new.client.state rest_are r.spelled r.past.closes)
