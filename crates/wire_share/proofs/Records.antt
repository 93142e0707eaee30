-- What a call asked stays in the record of its number.
use Rattle.std.proofs.Common.{◌≡◌, ℕ, suc, ◌+◌, ◌-◌, ◌^◌, ℤ, Bool, true, false, List, [], ◌∷◌, ◌++◌, length, refl, sym, ◌∙◌, ap, subst, arith, Option, Some, None, Result, Ok, Err, ◌⊎◌, inl, inr}
use Rattle.std.specs.Prelude.{◌==◌, if◌then◌else◌, slice_get, take}
use Rattle.std.proofs.lemmas.Option.{none-some, same_Some}
use lib.ListN.{length-map}
use Rattle.wire_msg.specs.{Content, Message}
use Rattle.wire_msg.specs.declared.payloads.Payload.{Payload}
use Rattle.wire_peer.specs.{Asked, ClientSeen, Settles, allowed, content_of, holding, number_after, owner}
use Rattle.wire_peer.specs.ClientSteps.{received}
use Rattle.wire_peer.specs.ClientSteps as steps
use Rattle.wire_peer.specs.declared.call_table.Outstanding.{Outstanding}
use Rattle.wire_peer.specs.declared.call_table.ReadyReply.{ReadyReply}
use Rattle.wire_peer.specs.declared.calls.CallKind.{CallKind}
use Rattle.wire_peer.specs.declared.calls.CallNo.{CallNo}
use Rattle.wire_peer.specs.declared.client_state.ClientCause.{ClientCause}
use Rattle.wire_model.specs.{ClientAct, ClientDoes, ClientEnd, ClientRun, ClientTakes, Record, asked_as, given_record, lost_record, new_record, put_part}
use Rattle.wire_model.proofs.Lemmas.{get-map, get-push_new, get-push_old, get-set_other, get-set_same, length-push, length-slice_set, same_or_not}
use Rattle.wire_model.specs.Owners.{Calls, Collects, EndsDown, SendsUp, TakesDown}

-- call n, which is one of this connection, asked this
abbrev pub Has : ℕ → List Record → ℕ → Asked → Type 0
Has c records n a = (x : Record) × (slice_get records n ≡ Some x) × (x.asked ≡ a) × (x.connection ≡ c)

-- the next call has the number of records
abbrev pub Numbered : ClientEnd → Type 0
Numbered e = (n : ℕ) → e.client.requests.next_number ≡ Some n → n ≡ length e.records

-- ---- a record that is put

has_part : (c : ℕ) (records : List Record) (i n : ℕ) (part : Content) (last : Bool) (a : Asked) (o : Option Record) → slice_get records i ≡ o → Has c records n a → Has c (put_part o i part last records) n a
has_part c records i n part last a None is h = h
has_part c records i n part last a (Some x) is h = by (same_or_not n i)
  where
    by : (n ≡ i) ⊎ (n ≡ i → ⊥) → Has c (put_part (Some x) i part last records) n a
    by (inl same) =
        let same_record = same_Some h.0 x (sym h.1 ∙ ap (λ (k : ℕ). slice_get records k) same ∙ is) in (
          given_record x part last,
          subst (λ (k : ℕ). slice_get (put_part (Some x) i part last records) k ≡ Some (given_record x part last)) (sym same) (get-set_same records i x (given_record x part last) is),
          ap (λ (y : Record). y.asked) (sym same_record) ∙ h.2,
          ap (λ (y : Record). y.connection) (sym same_record) ∙ h.3,
        )
    by (inr other) = (h.0, get-set_other records i n (given_record x part last) other ∙ h.1, h.2, h.3)

length_part : (records : List Record) (i : ℕ) (part : Content) (last : Bool) (o : Option Record) → length (put_part o i part last records) ≡ length records
length_part records i part last None = refl
length_part records i part last (Some x) = length-slice_set records i (given_record x part last)

-- ---- the next number

after_number : (n m : ℕ) → number_after n ≡ Some m → m ≡ suc n
after_number n m = by (n == 2 ^ 64 - 1)
  where
    by : (b : Bool) → (if b then None else Some (n + 1)) ≡ Some m → m ≡ suc n
    by true is = absurd (none-some m is)
    by false is = let same = same_Some (n + 1) m is in omega arith

next_received : (k : ClientSeen) (m : Message) (r : Result (ℤ × Outstanding) ClientCause) → (received k m r).requests.next_number ≡ k.requests.next_number
next_received k m (Ok o) = refl
next_received k m (Err cause) = refl

next_taken : (k new : ClientSeen) (piece : List ℕ) → ClientTakes k piece new → new.requests.next_number ≡ k.requests.next_number
next_taken k new piece t = by t.takes.settles
  where
    held : ClientSeen
    held = holding k (k.held ++ take (length piece) piece)

    by : Settles held new → new.requests.next_number ≡ k.requests.next_number
    by (steps.is_open o is) = ap (λ (z : ClientSeen). z.requests.next_number) is
    by (steps.is_message m s le is) =
        ap (λ (z : ClientSeen). z.requests.next_number) is ∙ next_received held m (allowed m.flags.more_to_come (owner held.requests.outstanding m.response_to))
    by (steps.is_bad f b is) = ap (λ (z : ClientSeen). z.requests.next_number) is

next_released : (o : Option ReadyReply) (k : ClientSeen) → (steps.after_release o k).requests.next_number ≡ k.requests.next_number
next_released None k = refl
next_released (Some reply) k = refl

-- ---- acts

keeps_has : (c : ℕ) (act : ClientAct) (old new : ClientEnd) (n : ℕ) (a : Asked) → ClientDoes c act old new → Has c old.records n a → Has c new.records n a
keeps_has c (Calls kind payload number) old new n a does_ h =
    subst (λ (e : ClientEnd). Has c e.records n a) (sym does_.1) (h.0, get-push_old old.records n h.0 (new_record c (asked_as kind (content_of payload))) h.1, h.2, h.3)
keeps_has c (SendsUp bytes) old new n a does_ h = subst (λ (e : ClientEnd). Has c e.records n a) (sym does_.2) h
keeps_has c (TakesDown bytes) old new n a does_ h = subst (λ (e : ClientEnd). Has c e.records n a) (sym does_.2) h
keeps_has c (Collects reply m) old new n a does_ h =
    subst (λ (e : ClientEnd). Has c e.records n a) (sym does_.2)
    (has_part c old.records reply.call n m.content reply.last a (slice_get old.records reply.call) refl h)
keeps_has c EndsDown old new n a does_ h =
    subst (λ (e : ClientEnd). Has c e.records n a) (sym does_) (lost_record h.0, get-map lost_record old.records n h.0 h.1, h.2, h.3)

keeps_numbered : (c : ℕ) (act : ClientAct) (old new : ClientEnd) → ClientDoes c act old new → Numbered old → Numbered new
keeps_numbered c (Calls kind payload number) old new does_ h =
    subst Numbered (sym does_.1) (λ n is. after_number number.number n is ∙ ap suc (h number.number does_.0.1.next.number) ∙ sym (length-push old.records (new_record c (asked_as kind (content_of payload)))))
keeps_numbered c (SendsUp bytes) old new does_ h = subst Numbered (sym does_.2) h
keeps_numbered c (TakesDown bytes) old new does_ h = subst Numbered (sym does_.2) (λ n is. h n (sym (next_taken old.client does_.0 bytes does_.1) ∙ is))
keeps_numbered c (Collects reply m) old new does_ h =
    subst Numbered (sym does_.2)
    (λ n is. h n (sym (next_released old.client.reply old.client) ∙ is) ∙ sym (length_part old.records reply.call m.content reply.last (slice_get old.records reply.call)))
keeps_numbered c EndsDown old new does_ h = subst Numbered (sym does_) (λ n is. h n is ∙ sym (length-map old.records lost_record))

has_run : (c : ℕ) (acts : List ClientAct) (old new : ClientEnd) (n : ℕ) (a : Asked) → ClientRun c old acts new → Has c old.records n a → Has c new.records n a
has_run c [] old new n a run h = subst (λ (e : ClientEnd). Has c e.records n a) (sym run) h
has_run c (act ∷ acts) old new n a run h = has_run c acts run.0 new n a run.2 (keeps_has c act old run.0 n a run.1 h)

-- a call that was made has a record of what it asked
pub made_asked : (c : ℕ) (before : List ClientAct) (kind : CallKind) (payload : Payload) (number : CallNo) (after : List ClientAct) (old new : ClientEnd) → Numbered old
    → ClientRun c old (before ++ Calls kind payload number ∷ after) new → Has c new.records number.number (asked_as kind (content_of payload))
made_asked c [] kind payload number after old new h run =
    let made = new_record c (asked_as kind (content_of payload)) in
    has_run c after run.0 new number.number (asked_as kind (content_of payload)) run.2
    (subst (λ (e : ClientEnd). Has c e.records number.number (asked_as kind (content_of payload))) (sym run.1.1)
    (made, ap (λ (k : ℕ). slice_get (old.records ++ made ∷ []) k) (h number.number run.1.0.1.next.number) ∙ get-push_new old.records made, refl, refl))
made_asked c (act ∷ before) kind payload number after old new h run =
    made_asked c before kind payload number after run.0 new (keeps_numbered c act old run.0 run.1 h) run.2
