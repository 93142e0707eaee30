-- What the records of a client tell of the replies that were handed out.
use Rattle.std.proofs.Common.{◌≡◌, ℕ, ◌<◌, Bool, true, false, List, [], ◌∷◌, ◌++◌, length, map, refl, sym, ◌∙◌, ap, subst, arith, Option, Some, None, ◌⊎◌, inl, inr}
use Rattle.std.specs.Prelude.{◌==◌, if◌then◌else◌, slice_get, slice_set}
use Rattle.std.proofs.lemmas.Option.{none-some, same_Some}
use Rattle.wire_msg.specs.{Message}
use Rattle.wire_peer.specs.{Asked}
use Rattle.wire_peer.specs.declared.call_table.ReadyReply.{ReadyReply}
use Rattle.wire_model.specs.Machines.{Done, Foreign, Lost, Pending, Sent, State, lost_state}
use Rattle.wire_model.specs.Conns.{Record, given_record, lost_record, new_record}
use Rattle.wire_model.proofs.Lists.{get-map_back, get-push_cases, get-set_other, get-set_same, same_or_not}
use Rattle.wire_model.proofs.ConnCalls.{is_elsewhere, is_here}
use Rattle.wire_model.specs.Alone.{HasLast, IsReadyWith, parts_to}
use Rattle.wire_model.proofs.Numbers.{Each}

-- each record has the contents of the replies to its call, and is done once the last of them is among them
pub record Tells (records : List Record) (out : List (ReadyReply × Message)) : Type 0 where
  pub parts : (n : ℕ) (x : Record) → slice_get records n ≡ Some x → x.parts ≡ parts_to n out
  pub done : (n : ℕ) (x : Record) → slice_get records n ≡ Some x → x.state ≡ Done → HasLast n out
  pub last : (n : ℕ) (x : Record) → slice_get records n ≡ Some x → HasLast n out → x.state ≡ Done

abbrev IsLow : ℕ → ReadyReply × Message → Type 0
IsLow count x = x.0.call < count

pub low_front : (count : ℕ) (out ready : List (ReadyReply × Message))
    → Each (λ (x : ReadyReply × Message). x.0.call < count) (out ++ ready)
    → Each (λ (x : ReadyReply × Message). x.0.call < count) out
low_front count [] ready e = tt
low_front count (x ∷ out) ready e = (e.0, low_front count out ready e.1)

low_behind : (count : ℕ) (out ready : List (ReadyReply × Message))
    → Each (λ (x : ReadyReply × Message). x.0.call < count) (out ++ ready)
    → Each (λ (x : ReadyReply × Message). x.0.call < count) ready
low_behind count [] ready e = e
low_behind count (x ∷ out) ready e = low_behind count out ready e.1

-- the reply that is ready is to a call that was made
pub ready_low : (o : Option ReadyReply) (held : List ℕ) (ready : List (ReadyReply × Message))
    (reply : ReadyReply) (count : ℕ) (out : List (ReadyReply × Message)) → o ≡ Some reply
    → IsReadyWith o held ready
    → Each (λ (x : ReadyReply × Message). x.0.call < count) (out ++ ready) → reply.call < count
ready_low None held ready reply count out is r e = absurd (none-some reply is)
ready_low (Some other) held ready reply count out is r e =
    let low = low_behind count out ((other, r.0) ∷ [])
    (subst (λ z. Each (λ (x : ReadyReply × Message). x.0.call < count) (out ++ z)) r.2
    e) in
    subst (λ (z : ReadyReply). z.call < count) (same_Some other reply is) low.0

-- ---- lists of replies

parts_none : (count : ℕ) (out : List (ReadyReply × Message))
    → Each (λ (x : ReadyReply × Message). x.0.call < count) out → parts_to count out ≡ []
parts_none count [] e = refl
parts_none count (x ∷ out) e =
    let n : x.0.call ≡ count → ⊥ = (λ same. let lt = e.0 in omega (arith, lt, same)) in
    ap (λ b. if b then x.1.content ∷ parts_to count out else parts_to count out)
    (is_elsewhere count x.0.call n)
    ∙ parts_none count out e.1

last_none : (count : ℕ) (out : List (ReadyReply × Message))
    → Each (λ (x : ReadyReply × Message). x.0.call < count) out → HasLast count out → ⊥
last_none count [] e h = h
last_none count (x ∷ out) e (inl h) = let lt = e.0 in let same = h.0 in omega (arith, lt, same)
last_none count (x ∷ out) e (inr h) = last_none count out e.1 h

parts_same : (n : ℕ) (out : List (ReadyReply × Message)) (x : ReadyReply × Message) → n ≡ x.0.call
    → parts_to n (out ++ x ∷ []) ≡ parts_to n out ++ x.1.content ∷ []
parts_same n [] x e = ap (λ b. if b then x.1.content ∷ [] else []) (is_here n x.0.call (sym e))
parts_same n (y ∷ out) x e = by (parts_same n out x e) (y.0.call == n)
  where
    by : parts_to n (out ++ x ∷ []) ≡ parts_to n out ++ x.1.content ∷ [] → (b : Bool)
        → (if b then y.1.content ∷ parts_to n (out ++ x ∷ []) else parts_to n (out ++ x ∷ []))
        ≡ (if b then y.1.content ∷ parts_to n out else parts_to n out) ++ x.1.content ∷ []
    by later true = ap (λ z. y.1.content ∷ z) later
    by later false = later

parts_other : (n : ℕ) (out : List (ReadyReply × Message)) (x : ReadyReply × Message)
    → (n ≡ x.0.call → ⊥) → parts_to n (out ++ x ∷ []) ≡ parts_to n out
parts_other n [] x e =
    ap (λ b. if b then x.1.content ∷ [] else []) (is_elsewhere n x.0.call (λ same. e (sym same)))
parts_other n (y ∷ out) x e =
    ap (λ z. if y.0.call == n then y.1.content ∷ z else z) (parts_other n out x e)

last_front : (n : ℕ) (out : List (ReadyReply × Message)) (x : ReadyReply × Message) → HasLast n out
    → HasLast n (out ++ x ∷ [])
last_front n [] x h = absurd h
last_front n (y ∷ out) x (inl h) = inl h
last_front n (y ∷ out) x (inr h) = inr (last_front n out x h)

last_behind : (n : ℕ) (out : List (ReadyReply × Message)) (x : ReadyReply × Message)
    → x.0.call ≡ n → x.0.last ≡ true → HasLast n (out ++ x ∷ [])
last_behind n [] x e l = inl (e, l)
last_behind n (y ∷ out) x e l = inr (last_behind n out x e l)

last_cases : (n : ℕ) (out : List (ReadyReply × Message)) (x : ReadyReply × Message)
    → HasLast n (out ++ x ∷ []) → HasLast n out ⊎ ((x.0.call ≡ n) × (x.0.last ≡ true))
last_cases n [] x (inl h) = inr h
last_cases n [] x (inr h) = absurd h
last_cases n (y ∷ out) x (inl h) = inl (inl h)
last_cases n (y ∷ out) x (inr h) =
    elim (last_cases n out x h) [ inl a ↦ inl (inr a) | inr a ↦ inr a ]

-- ---- a call is made, its client is told the end, or it is given a reply

pub new_not_done : (c : ℕ) (a : Asked) → (new_record c a).state ≡ Done → ⊥
new_not_done c a = by a.more_to_come
  where
    by : (b : Bool) → (if b then Sent else Pending) ≡ Done → ⊥
    by true e = cc
    by false e = cc

pub tells_made : (records : List Record) (out : List (ReadyReply × Message)) (count : ℕ)
    (r : Record)
    → count ≡ length records → r.parts ≡ [] → (r.state ≡ Done → ⊥)
    → Each (λ (x : ReadyReply × Message). x.0.call < count) out → Tells records out
    → Tells (records ++ r ∷ []) out
tells_made records out count r many none undone low t = record {
  parts = λ n x at. elim (get-push_cases records n x r at) [
    | inl old ↦ t.parts n x old
    | inr new ↦ ap (λ (z : Record). z.parts) (sym new.1) ∙ none
        ∙ sym (parts_none count out low) ∙ ap (λ k. parts_to k out) (many ∙ sym new.0)
  ];
  done = λ n x at d. elim (get-push_cases records n x r at) [
    | inl old ↦ t.done n x old d
    | inr new ↦ absurd (undone (ap (λ (z : Record). z.state) new.1 ∙ d))
  ];
  last = λ n x at h. elim (get-push_cases records n x r at) [
    | inl old ↦ t.last n x old h
    | inr new ↦ absurd (last_none count out low (subst (λ k. HasLast k out) (new.0 ∙ sym many) h))
  ];
}

lost_done : (s : State) → lost_state s ≡ Done → s ≡ Done
lost_done Pending e = let no_ : Lost ≡ Done = e in cc
lost_done Done e = refl
lost_done Sent e = e
lost_done Lost e = e
lost_done Foreign e = e

pub tells_lost : (records : List Record) (out : List (ReadyReply × Message)) → Tells records out
    → Tells (map lost_record records) out
tells_lost records out t = record {
  parts = λ n x at.
      let b = get-map_back lost_record records n x at in
      ap (λ (z : Record). z.parts) (sym b.2) ∙ t.parts n b.0 b.1;
  done = λ n x at d.
      let b = get-map_back lost_record records n x at in
      t.done n b.0 b.1 (lost_done b.0.state (ap (λ (z : Record). z.state) b.2 ∙ d));
  last = λ n x at h.
      let b = get-map_back lost_record records n x at in
      ap (λ (z : Record). z.state) (sym b.2) ∙ ap lost_state (t.last n b.0 b.1 h);
}

pub tells_given : (records : List Record) (out : List (ReadyReply × Message)) (reply : ReadyReply)
    (m : Message) (x0 : Record) → slice_get records reply.call ≡ Some x0 → Tells records out
    → Tells (slice_set records reply.call (given_record x0 m.content reply.last))
    (out ++ (reply, m) ∷ [])
tells_given records out reply m x0 at t = record {
  parts = λ n x g. elim (same_or_not n reply.call) [
    | inl e ↦ ap (λ (z : Record). z.parts) (sym (is n x g e))
        ∙ ap (λ z. z ++ m.content ∷ []) (t.parts reply.call x0 at ∙ ap (λ k. parts_to k out)
        (sym e))
        ∙ sym (parts_same n out (reply, m) e)
    | inr e ↦ t.parts n x (old n x g e) ∙ sym (parts_other n out (reply, m) e)
  ];
  done = λ n x g d. elim (same_or_not n reply.call) [
    | inl e ↦ given n e reply.last refl (ap (λ (z : Record). z.state) (is n x g e) ∙ d)
    | inr e ↦ last_front n out (reply, m) (t.done n x (old n x g e) d)
  ];
  last = λ n x g h. elim (same_or_not n reply.call) [
    | inl e ↦ ap (λ (z : Record). z.state) (sym (is n x g e))
        ∙ over n e (last_cases n out (reply, m) h)
    | inr e ↦ elim (last_cases n out (reply, m) h) [
      | inl a ↦ t.last n x (old n x g e) a
      | inr a ↦ absurd (e (sym a.0))
    ]
  ];
}
  where
    next : List Record
    next = slice_set records reply.call (given_record x0 m.content reply.last)

    is : (n : ℕ) (x : Record) → slice_get next n ≡ Some x → n ≡ reply.call
        → given_record x0 m.content reply.last ≡ x
    is n x g e =
        same_Some (given_record x0 m.content reply.last) x
        (sym (get-set_same records reply.call x0 (given_record x0 m.content reply.last) at)
        ∙ ap (slice_get next) (sym e) ∙ g)

    old : (n : ℕ) (x : Record) → slice_get next n ≡ Some x → (n ≡ reply.call → ⊥)
        → slice_get records n ≡ Some x
    old n x g e =
        sym (get-set_other records reply.call n (given_record x0 m.content reply.last) e) ∙ g

    given : (n : ℕ) → n ≡ reply.call → (l : Bool) → reply.last ≡ l
        → (if reply.last then Done else x0.state) ≡ Done → HasLast n (out ++ (reply, m) ∷ [])
    given n e true is d = last_behind n out (reply, m) (sym e) is
    given n e false is d =
        last_front n out (reply, m) (subst (λ k. HasLast k out) (sym e)
        (t.done reply.call x0 at (ap (λ l. if l then Done else x0.state) (sym is) ∙ d)))

    over : (n : ℕ) → n ≡ reply.call
        → HasLast n out ⊎ ((reply.call ≡ n) × (reply.last ≡ true))
        → (if reply.last then Done else x0.state) ≡ Done
    over n e (inr a) = ap (λ l. if l then Done else x0.state) a.1
    over n e (inl a) = by reply.last
      where
        state : x0.state ≡ Done
        state = t.last reply.call x0 at (subst (λ k. HasLast k out) e a)

        by : (l : Bool) → (if l then Done else x0.state) ≡ Done
        by true = refl
        by false = state
