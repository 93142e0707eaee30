-- The owners' records and the world's, step by step.
use Rattle.std.proofs.Common.{◌≡◌, ℕ, suc, Bool, true, false, List, [], ◌∷◌, ◌++◌, length, map, refl, sym, ◌∙◌, ap, subst, arith, Option, Some, None, ◌⊎◌, inl, inr}
use Rattle.std.specs.Prelude.{◌==◌, if◌then◌else◌, slice_get, slice_set}
use lib.ListN.{length-map}
use Rattle.std.proofs.lemmas.Option.{none-some, same_Some, slice_get_within}
use Rattle.wire_msg.specs.{Content, Message, SpellsMsg}
use Rattle.wire_peer.specs.{released}
use Rattle.wire_peer.specs.declared.call_table.ReadyReply.{ReadyReply}
use Rattle.wire_model.specs.Machines.{Done, Lost, Pending, State, lost_state}
use Rattle.wire_model.specs.Conns.{Record, given_record}
use Rattle.wire_model.specs.Moves.{put_at, put_part}
use Rattle.wire_model.proofs.Lists.{get-map, get-map_back, get-push_cases, get-push_new, get-push_old, get-set_other, get-set_same, same_or_not}
use Rattle.wire_model.proofs.Places.{length-push, length-slice_set}
use Rattle.wire_model.proofs.Wires.{same_request}
use Rattle.wire_model.specs.Channels.{Pair, client_ended, lost_at, pair_at, pair_set}
use Rattle.wire_model.specs.Seen.{Agree, IsAhead, IsReady}
use Rattle.wire_model.proofs.Ends.{released_reply}
use Rattle.wire_model.proofs.Pairs.{pair_push-cases, pair_push-old, pair_set-other, pair_set-same}

-- each call of each client has its record, a reply that is ready is to one of them, and the records agree
pub record Kept (ps : List Pair) (xs ys : List Record) : Type 0 where
  pub own : (c : ℕ) (p : Pair) → pair_at ps c ≡ Some p → (n i : ℕ) → slice_get p.calls n ≡ Some i
      → (x : Record) × (slice_get xs i ≡ Some x) × (x.connection ≡ c)
  pub to : (c : ℕ) (p : Pair) → pair_at ps c ≡ Some p → (reply : ReadyReply)
      → p.client.reply ≡ Some reply → (i : ℕ) × (slice_get p.calls reply.call ≡ Some i)
  pub as_many : length ys ≡ length xs
  pub agree : (i : ℕ) (x : Record) → slice_get xs i ≡ Some x → (y : Record)
      × (slice_get ys i ≡ Some y) × Agree ps i x y

-- ---- what is ready stays so

-- a reply that is ready to call i is ready to it after the step
abbrev pub StillReady : ℕ → List Pair → List Pair → Type 0
StillReady i ps qs =
    (c : ℕ) (is : IsReady ps i c) → (js : IsReady qs i c) × (js.reply ≡ is.reply)
    × (js.p.client.held ≡ is.p.client.held)

pub agree_still : (i : ℕ) (ps qs : List Pair) (x y : Record) → StillReady i ps qs
    → StillReady i qs ps → Agree ps i x y → Agree qs i x y
agree_still i ps qs x y f b (inl e) = inl (e.0, λ is. e.1 (b x.connection is).0)
agree_still i ps qs x y f b (inr a) = let j = f x.connection a.is in inr (record {
  is = j.0;
  m = a.m;
  spells = subst (SpellsMsg a.m) (sym j.2) a.spells;
  not_done = a.not_done;
  given = a.given ∙ ap (λ (r : ReadyReply). given_record x a.m.content r.last) (sym j.1);
})

-- a reply that is ready to call i at one pair is ready to it at another
abbrev pub ReadyAlike : ℕ → Pair → Pair → Type 0
ReadyAlike i p q =
    (reply : ReadyReply) → p.client.reply ≡ Some reply → slice_get p.calls reply.call ≡ Some i
    → (q.client.reply ≡ Some reply) × (slice_get q.calls reply.call ≡ Some i)
    × (q.client.held ≡ p.client.held)

still_set : (i : ℕ) (ps : List Pair) (c : ℕ) (p q : Pair) → pair_at ps c ≡ Some p
    → ReadyAlike i p q → StillReady i ps (pair_set ps c q)
still_set i ps c p q at alike d is = elim (same_or_not d c) [
  | inl e ↦
      let same : is.p ≡ p = same_Some is.p p (sym is.at ∙ ap (pair_at ps) e ∙ at) in
      let a =
      alike is.reply (ap (λ (z : Pair). z.client.reply) (sym same)
      ∙ is.ready) (ap (λ (z : Pair). slice_get z.calls is.reply.call) (sym same) ∙ is.index) in (
        record {
          p = q;
          at = ap (pair_at (pair_set ps c q)) e ∙ pair_set-same ps c p q at;
          reply =
              is.reply;
          ready = a.0;
          index = a.1;
        },
        refl,
        a.2 ∙ ap (λ (z : Pair). z.client.held)
            (sym same),
      )
  | inr n ↦ (
    record {
      p = is.p;
      at = pair_set-other ps c d q n ∙ is.at;
      reply = is.reply;
      ready =
          is.ready;
      index = is.index;
    },
    refl,
    refl,
  )
]

still_back : (i : ℕ) (ps : List Pair) (c : ℕ) (p q : Pair) → pair_at ps c ≡ Some p
    → ReadyAlike i q p → StillReady i (pair_set ps c q) ps
still_back i ps c p q at alike d is = elim (same_or_not d c) [
  | inl e ↦
      let same : is.p ≡ q = same_Some is.p q (sym is.at ∙ ap (pair_at (pair_set ps c q)) e
      ∙ pair_set-same ps c p q at) in
      let a =
      alike is.reply (ap (λ (z : Pair). z.client.reply) (sym same)
      ∙ is.ready) (ap (λ (z : Pair). slice_get z.calls is.reply.call) (sym same) ∙ is.index) in (
        record { p = p; at = ap (pair_at ps) e ∙ at; reply = is.reply; ready = a.0; index = a.1 },
        refl,
        a.2 ∙ ap (λ (z : Pair). z.client.held) (sym same),
      )
  | inr n ↦ (
    record {
      p = is.p;
      at = sym (pair_set-other ps c d q n) ∙ is.at;
      reply = is.reply;
      ready = is.ready;
      index = is.index;
    },
    refl,
    refl,
  )
]

-- what holds of the pair that is changed and of the others
at_set : (P : ℕ → Pair → Type 0) (ps : List Pair) (c : ℕ) (p q : Pair) → pair_at ps c ≡ Some p
    → P c q → ((d : ℕ) (o : Pair) → pair_at ps d ≡ Some o → P d o) → (d : ℕ) (o : Pair)
    → pair_at (pair_set ps c q) d ≡ Some o → P d o
at_set P ps c p q at here others d o is = elim (same_or_not d c) [
  | inl e ↦
      let same : q ≡ o = same_Some q o (sym (pair_set-same ps c p q at)
      ∙ ap (pair_at (pair_set ps c q)) (sym e) ∙ is) in
      rw (e, ← same) here
  | inr n ↦ others d o (sym (pair_set-other ps c d q n) ∙ is)
]

abbrev Owns : List Record → ℕ → Pair → Type 0
Owns xs c p =
    (n i : ℕ) → slice_get p.calls n ≡ Some i → (x : Record) × (slice_get xs i ≡ Some x)
    × (x.connection ≡ c)

abbrev ToSome : ℕ → Pair → Type 0
ToSome c p =
    (reply : ReadyReply) → p.client.reply ≡ Some reply → (i : ℕ)
    × (slice_get p.calls reply.call ≡ Some i)

-- ---- a step that changes no record

pub kept_alike : (ps : List Pair) (xs ys : List Record) (c : ℕ) (p q : Pair)
    → pair_at ps c ≡ Some p → q.calls ≡ p.calls → q.client.reply ≡ p.client.reply
    → q.client.held ≡ p.client.held → Kept ps xs ys → Kept (pair_set ps c q) xs ys
kept_alike ps xs ys c p q at calls reply held k = record {
  own =
      at_set (Owns xs) ps c p q at (λ n i is. k.own c p at n i (ap (λ z. slice_get z n) (sym calls)
      ∙ is)) k.own;
  to =
      at_set ToSome ps c p q at (λ r is. let t = k.to c p at r (sym reply ∙ is) in
      (t.0, ap (λ z. slice_get z r.call) calls ∙ t.1)) k.to;
  as_many = k.as_many;
  agree = λ i x is. let o = k.agree i x is in (
    o.0,
    o.1,
    agree_still i ps (pair_set ps c q) x o.0
        (still_set i ps c p q at (λ r a b. (
          reply ∙ a,
          ap (λ z. slice_get z r.call) calls
              ∙ b,
          held,
        )))
        (still_back i ps c p q at
        (λ r a b. (sym reply ∙ a, ap (λ z. slice_get z r.call) (sym calls) ∙ b, sym held)))
        o.2,
  );
}

-- a pair is made
pub kept_pairs : (ps : List Pair) (xs ys : List Record) (q : Pair) → q.calls ≡ []
    → q.client.reply ≡ None → Kept ps xs ys → Kept (ps ++ q ∷ []) xs ys
kept_pairs ps xs ys q none unready k = record {
  own = λ c p at n i is. elim (pair_push-cases ps c p q at) [
    | inl old ↦ k.own c p old n i is
    | inr new ↦ absurd (none-some i (ap (λ z. slice_get z n) (sym none ∙ ap (λ (z : Pair). z.calls)
        new) ∙ is))
  ];
  to = λ c p at reply is. elim (pair_push-cases ps c p q at) [
    | inl old ↦ k.to c p old reply is
    | inr new ↦ absurd (none-some reply (sym unready ∙ ap (λ (z : Pair). z.client.reply) new ∙ is))
  ];
  as_many = k.as_many;
  agree = λ i x is. let o = k.agree i x is in (
    o.0,
    o.1,
    agree_still i ps (ps ++ q ∷ []) x o.0
        (λ c r. (
          record {
            p = r.p;
            at = pair_push-old ps c r.p q r.at;
            reply = r.reply;
            ready =
                r.ready;
            index = r.index;
          },
          refl,
          refl,
        ))
        (λ c r. elim (pair_push-cases ps c r.p q r.at) [
          | inl old ↦ (
            record {
              p = r.p;
              at = old;
              reply = r.reply;
              ready = r.ready;
              index =
                  r.index;
            },
            refl,
            refl,
          )
          | inr new ↦ absurd (none-some r.reply (sym unready ∙ ap (λ (z : Pair). z.client.reply)
              new ∙ r.ready))
        ]) o.2,
  );
}

-- ---- a call

not_within : (xs : List Record) (i : ℕ) (x : Record) → i ≡ length xs → slice_get xs i ≡ Some x → ⊥
not_within xs i x e at = let lt = slice_get_within xs i x at in omega (arith, lt, e)

pub kept_calls : (ps : List Pair) (xs ys : List Record) (c : ℕ) (p q : Pair) (r : Record)
    → pair_at ps c ≡ Some p → q.calls ≡ p.calls ++ length xs ∷ []
    → q.client.reply ≡ p.client.reply → q.client.held ≡ p.client.held → r.connection ≡ c
    → Kept ps xs ys → Kept (pair_set ps c q) (xs ++ r ∷ []) (ys ++ r ∷ [])
kept_calls ps xs ys c p q r at calls reply held here k = record {
  own = at_set (Owns (xs ++ r ∷ [])) ps c p q at
      (λ n i is. elim (get-push_cases p.calls n i (length xs) (ap (λ z. slice_get z n) (sym calls)
      ∙ is)) [
        | inl old ↦ (let o = k.own c p at n i old in (o.0, get-push_old xs i o.0 r o.1, o.2))
        | inr new ↦ (r, ap (slice_get (xs ++ r ∷ [])) (sym new.1) ∙ get-push_new xs r, here)
      ])
      (λ d o is n i g. let w = k.own d o is n i g in (w.0, get-push_old xs i w.0 r w.1, w.2));
  to =
      at_set ToSome ps c p q at (λ a is. let t = k.to c p at a (sym reply ∙ is) in (
        t.0,
        ap (λ z. slice_get z a.call) calls ∙ get-push_old p.calls a.call t.0 (length xs)
            t.1,
      )) k.to;
  as_many = length-push ys r ∙ ap suc k.as_many ∙ sym (length-push xs r);
  agree = λ i x is. elim (get-push_cases xs i x r is) [
    | inl old ↦ (let o = k.agree i x old in (
      o.0,
      get-push_old ys i o.0 r o.1,
      agree_still i ps (pair_set ps c q) x o.0
          (still_set i ps c p q at (λ a e f. (
            reply ∙ e,
            ap (λ z. slice_get z a.call) calls
                ∙ get-push_old p.calls a.call i (length xs) f,
            held,
          )))
          (still_back i ps c p q at
          (λ a e f. (
            sym reply ∙ e,
            before i x old a.call
                (ap (λ z. slice_get z a.call) (sym calls) ∙ f),
            sym held,
          ))) o.2,
    ))
    | inr new ↦ (
      r,
      ap (slice_get (ys ++ r ∷ [])) (new.0 ∙ sym k.as_many) ∙ get-push_new ys r,
      inl
          (new.1, λ js. unready i x new.0 new.1 js),
    )
  ];
}
  where
    before : (i : ℕ) (x : Record) → slice_get xs i ≡ Some x → (n : ℕ)
        → slice_get (p.calls ++ length xs ∷ []) n ≡ Some i → slice_get p.calls n ≡ Some i
    before i x old n is = elim (get-push_cases p.calls n i (length xs) is) [
      | inl h ↦ h
      | inr h ↦ absurd (not_within xs i x (sym h.1) old)
    ]

    -- no reply is ready to the new call
    unready : (i : ℕ) (x : Record) → i ≡ length xs → r ≡ x
        → IsReady (pair_set ps c q) i x.connection → ⊥
    unready i x e same js =
        let conn : x.connection ≡ c = ap (λ (z : Record). z.connection) (sym same) ∙ here in
        let is : js.p ≡ q = same_Some js.p q (sym js.at ∙ ap (pair_at (pair_set ps c q)) conn
        ∙ pair_set-same ps c p q at) in
        let t =
        k.to c p at js.reply (sym reply ∙ ap (λ (z : Pair). z.client.reply) (sym is)
        ∙ js.ready) in
        let w = k.own c p at js.reply.call t.0 t.1 in
        let there : t.0 ≡ i = same_Some t.0 i
        (sym (get-push_old p.calls js.reply.call t.0 (length xs) t.1)
        ∙ ap (λ z. slice_get z js.reply.call) (sym calls ∙ ap (λ (z : Pair). z.calls)
        (sym is)) ∙ js.index) in
        not_within xs t.0 w.0 (there ∙ e) w.1

-- ---- the client is fed

-- no reply is ready before or after
pub kept_fed : (ps : List Pair) (xs ys : List Record) (c : ℕ) (p q : Pair) → pair_at ps c ≡ Some p
    → q.calls ≡ p.calls → p.client.reply ≡ None → q.client.reply ≡ None → Kept ps xs ys
    → Kept (pair_set ps c q) xs ys
kept_fed ps xs ys c p q at calls none still k = record {
  own =
      at_set (Owns xs) ps c p q at (λ n i is. k.own c p at n i (ap (λ z. slice_get z n) (sym calls)
      ∙ is)) k.own;
  to = at_set ToSome ps c p q at (λ r is. absurd (none-some r (sym still ∙ is))) k.to;
  as_many = k.as_many;
  agree = λ i x is. let o = k.agree i x is in (
    o.0,
    o.1,
    agree_still i ps (pair_set ps c q) x o.0
        (still_set i ps c p q at (λ r a b. absurd (none-some r (sym none ∙ a))))
        (still_back i ps c p q at (λ r a b. absurd (none-some r (sym still ∙ a)))) o.2,
  );
}

-- a reply becomes ready, to a call that is pending
pub kept_ready : (ps : List Pair) (xs ys : List Record) (c : ℕ) (p q : Pair) (reply : ReadyReply)
    (m : Message) (index : ℕ) (y : Record) → pair_at ps c ≡ Some p → q.calls ≡ p.calls
    → p.client.reply ≡ None → q.client.reply ≡ Some reply → SpellsMsg m q.client.held
    → slice_get p.calls reply.call ≡ Some index → slice_get ys index ≡ Some y → y.state ≡ Pending
    → Kept ps xs ys
    → Kept (pair_set ps c q) xs (slice_set ys index (given_record y m.content reply.last))
kept_ready ps xs ys c p q reply m index y at calls none ready spells to at_y pending k = record {
  own =
      at_set (Owns xs) ps c p q at (λ n i is. k.own c p at n i (ap (λ z. slice_get z n) (sym calls)
      ∙ is)) k.own;
  to =
      at_set ToSome ps c p q at (λ r is. (
        index,
        ap (λ z. slice_get z r.call) calls
            ∙ ap (λ (z : ReadyReply). slice_get p.calls z.call) (same_Some r reply (sym is ∙ ready))
            ∙ to,
      )) k.to;
  as_many = length-slice_set ys index _ ∙ k.as_many;
  agree = λ i x is. elim (same_or_not i index) [
    | inl e ↦ (
      given_record y m.content reply.last,
      ap
          (slice_get (slice_set ys index (given_record y m.content reply.last))) e
          ∙ get-set_same ys index y _ at_y,
      inr (ahead i x is e),
    )
    | inr n ↦ (let o = k.agree i x is in (
      o.0,
      get-set_other ys index i _ n ∙ o.1,
      agree_still i ps (pair_set ps c q) x o.0
          (still_set i ps c p q at (λ r a b. absurd (none-some r (sym none ∙ a))))
          (still_back i ps c p q at
          (λ r a b. absurd (n (same_Some i index (sym b ∙ ap (λ z. slice_get z r.call) calls
          ∙ ap (λ (z : ReadyReply). slice_get p.calls z.call)
          (same_Some r reply (sym a ∙ ready)) ∙ to))))) o.2,
    ))
  ];
}
  where
    ahead : (i : ℕ) (x : Record) → slice_get xs i ≡ Some x → i ≡ index
        → IsAhead (pair_set ps c q) i x (given_record y m.content reply.last)
    ahead i x is e =
        let w = k.own c p at reply.call index to in
        let mine : w.0 ≡ x = same_Some w.0 x (sym w.1 ∙ ap (slice_get xs) (sym e) ∙ is) in
        let conn : x.connection ≡ c = ap (λ (z : Record). z.connection) (sym mine) ∙ w.2 in
        let o = k.agree i x is in
        let there : o.0 ≡ y = same_Some o.0 y (sym o.1 ∙ ap (slice_get ys) e ∙ at_y) in
        let same : y ≡ x = elim o.2 [
          | inl s ↦ sym there ∙ s.0
          | inr a ↦ absurd (let is_p : a.is.p ≡ p = same_Some a.is.p p
              (sym a.is.at ∙ ap (pair_at ps) conn ∙ at) in none-some a.is.reply
              (sym none ∙ ap (λ (z : Pair). z.client.reply) (sym is_p) ∙ a.is.ready))
        ] in
        record {
          is = record {
            p = q;
            at = ap (pair_at (pair_set ps c q)) conn
                ∙ pair_set-same ps c p q at;
            reply = reply;
            ready = ready;
            index = ap (λ z. slice_get z reply.call) calls ∙ to ∙ ap (λ z. Some z) (sym e);
          };
          m = m;
          spells = spells;
          not_done = inl (ap (λ (z : Record). z.state) (sym same) ∙ pending);
          given = ap (λ (z : Record). given_record z m.content reply.last) same;
        }

-- ---- the owner takes a reply

own_given : (xs : List Record) (index : ℕ) (x0 : Record) (part : Content) (last : Bool)
    → slice_get xs index ≡ Some x0 → (c : ℕ) (p : Pair) → Owns xs c p
    → Owns (slice_set xs index (given_record x0 part last)) c p
own_given xs index x0 part last at c p own n i is =
    let w = own n i is in elim (same_or_not i index) [
      | inl e ↦ (
        given_record x0 part last,
        ap
            (slice_get (slice_set xs index (given_record x0 part last))) e ∙ get-set_same xs
            index x0 _ at,
        ap (λ (z : Record). z.connection)
            (same_Some x0 w.0 (sym at ∙ ap (slice_get xs) (sym e) ∙ w.1)) ∙ w.2,
      )
      | inr n' ↦ (w.0, get-set_other xs index i _ n' ∙ w.1, w.2)
    ]

kept_given : (ps : List Pair) (xs ys : List Record) (c : ℕ) (p q : Pair) (reply : ReadyReply)
    (m : Message) (index : ℕ) (x0 : Record) → pair_at ps c ≡ Some p → q.calls ≡ p.calls
    → p.client.reply ≡ Some reply → q.client.reply ≡ None → SpellsMsg m p.client.held
    → slice_get p.calls reply.call ≡ Some index → slice_get xs index ≡ Some x0 → x0.connection ≡ c
    → Kept ps xs ys
    → Kept (pair_set ps c q) (slice_set xs index (given_record x0 m.content reply.last)) ys
kept_given ps xs ys c p q reply m index x0 at calls ready none spells to at_x conn k = record {
  own = at_set (Owns xs') ps c p q at
      (own_given xs index x0 m.content reply.last at_x c q
      (λ n i is. k.own c p at n i (ap (λ z. slice_get z n) (sym calls) ∙ is)))
      (λ d o is. own_given xs index x0 m.content reply.last at_x d o (k.own d o is));
  to = at_set ToSome ps c p q at (λ r is. absurd (none-some r (sym none ∙ is))) k.to;
  as_many = k.as_many ∙ sym (length-slice_set xs index _);
  agree = λ i x is. elim (same_or_not i index) [
    | inl e ↦ (let o = k.agree index x0 at_x in (
      o.0,
      ap (slice_get ys) e
          ∙ o.1,
      inl (even o.0 o.2 ∙ same i x is e, λ js. unready i x is e js),
    ))
    | inr n ↦ (let o = k.agree i x (sym (get-set_other xs index i _ n) ∙ is) in (
      o.0,
      o.1,
      agree_still i ps (pair_set ps c q) x o.0
          (still_set i ps c p q at
          (λ r a b. absurd (n (same_Some i index
          (sym b ∙ ap (λ (z : ReadyReply). slice_get p.calls z.call)
          (same_Some r reply (sym a ∙ ready)) ∙ to)))))
          (still_back i ps c p q at (λ r a b. absurd (none-some r (sym none ∙ a)))) o.2,
    ))
  ];
}
  where
    xs' : List Record
    xs' = slice_set xs index (given_record x0 m.content reply.last)

    same : (i : ℕ) (x : Record) → slice_get xs' i ≡ Some x → i ≡ index
        → given_record x0 m.content reply.last ≡ x
    same i x is e =
        same_Some _ x (sym (get-set_same xs index x0 _ at_x) ∙ ap (slice_get xs') (sym e) ∙ is)

    even : (y : Record) → Agree ps index x0 y → y ≡ given_record x0 m.content reply.last
    even y (inl s) =
        absurd (s.1 (record {
          p = p;
          at = ap (pair_at ps) conn ∙ at;
          reply = reply;
          ready = ready;
          index = to;
        }))
    even y (inr a) =
        let is_p : a.is.p ≡ p = same_Some a.is.p p (sym a.is.at ∙ ap (pair_at ps) conn ∙ at) in
        let is_reply : a.is.reply ≡ reply = same_Some a.is.reply reply (sym a.is.ready
        ∙ ap (λ (z : Pair). z.client.reply) is_p ∙ ready) in
        let is_m : a.m ≡ m = same_request a.m m p.client.held
        (subst (λ (z : Pair). SpellsMsg a.m z.client.held) is_p a.spells) spells in
        a.given ∙ ap (λ (z : Message). given_record x0 z.content a.is.reply.last) is_m
        ∙ ap (λ (z : ReadyReply). given_record x0 m.content z.last) is_reply

    unready : (i : ℕ) (x : Record) → slice_get xs' i ≡ Some x → i ≡ index
        → IsReady (pair_set ps c q) i x.connection → ⊥
    unready i x is e js =
        let here : x.connection ≡ c = ap (λ (z : Record). z.connection) (sym (same i x is e))
        ∙ conn in
        let is_q : js.p ≡ q = same_Some js.p q (sym js.at ∙ ap (pair_at (pair_set ps c q)) here
        ∙ pair_set-same ps c p q at) in
        none-some js.reply (sym none ∙ ap (λ (z : Pair). z.client.reply) (sym is_q) ∙ js.ready)

pub put_is : (xs : List Record) (o : Option ℕ) (index : ℕ) (x : Record) (part : Content)
    (last : Bool) → o ≡ Some index → slice_get xs index ≡ Some x → put_at o part last xs
    ≡ slice_set xs index (given_record x part last)
put_is xs o index x part last to at =
    ap (λ z. put_at z part last xs) to ∙ ap (λ z. put_part z index part last xs) at

pub kept_collected : (ps : List Pair) (xs ys : List Record) (c : ℕ) (p : Pair) (reply : ReadyReply)
    (m : Message) → pair_at ps c ≡ Some p → p.client.reply ≡ Some reply → SpellsMsg m p.client.held
    → Kept ps xs ys
    → Kept (pair_set ps c (record p { client = released p.client }))
    (put_at (slice_get p.calls reply.call) m.content reply.last xs) ys
kept_collected ps xs ys c p reply m at ready spells k =
    let t = k.to c p at reply ready in
    let w = k.own c p at reply.call t.0 t.1 in
    subst (λ z. Kept (pair_set ps c (record p { client = released p.client })) z ys)
    (sym (put_is xs (slice_get p.calls reply.call) t.0 w.0 m.content reply.last t.1 w.1))
    (kept_given ps xs ys c p (record p { client = released p.client }) reply m t.0 w.0 at refl
    ready (released_reply p.client.requests p.client.held p.client.reply p.client.state) spells
    t.1 w.1 w.2 k)

-- ---- the client's end

-- a lost call may be given a part before or after
lost_given : (c : ℕ) (x : Record) (part : Content) (last : Bool)
    → lost_at c (given_record x part last) ≡ given_record (lost_at c x) part last
lost_given c x part last = by (x.connection == c) last
  where
    by : (b l : Bool)
        → ◌≡◌ {A = Record} (record {
          connection = x.connection;
          asked = x.asked;
          parts = x.parts ++
              part ∷ [];
          state = if b then lost_state (if l then Done else x.state) else
              (if l then Done else x.state);
        })
        (record {
          connection = x.connection;
          asked = x.asked;
          parts = x.parts ++ part ∷ [];
          state =
              if l then Done else (if b then lost_state x.state else x.state);
        })
    by true true = refl
    by true false = refl
    by false true = refl
    by false false = refl

lost_not_done : (b : Bool) (s : State) → (s ≡ Pending) ⊎ (s ≡ Lost)
    → ((if b then lost_state s else s) ≡ Pending) ⊎ ((if b then lost_state s else s) ≡ Lost)
lost_not_done true s (inl e) = inr (ap lost_state e)
lost_not_done true s (inr e) = inr (ap lost_state e)
lost_not_done false s e = e

agree_lost : (ps : List Pair) (i c : ℕ) (x y : Record) → Agree ps i x y
    → Agree ps i (lost_at c x) (lost_at c y)
agree_lost ps i c x y (inl e) = inl (ap (lost_at c) e.0, e.1)
agree_lost ps i c x y (inr a) = inr (record {
  is = a.is;
  m = a.m;
  spells = a.spells;
  not_done = lost_not_done (x.connection == c) x.state a.not_done;
  given = ap (lost_at c) a.given ∙ lost_given c x a.m.content a.is.reply.last;
})

kept_lost : (ps : List Pair) (xs ys : List Record) (c : ℕ) → Kept ps xs ys
    → Kept ps (map (lost_at c) xs) (map (lost_at c) ys)
kept_lost ps xs ys c k = record {
  own =
      λ d p at n i is. let w = k.own d p at n i is in (
        lost_at c w.0,
        get-map (lost_at c) xs i w.0
            w.1,
        w.2,
      );
  to = k.to;
  as_many = length-map ys (lost_at c) ∙ k.as_many ∙ sym (length-map xs (lost_at c));
  agree = λ i x is.
      let b = get-map_back (lost_at c) xs i x is in
      let o = k.agree i b.0 b.1 in (
        lost_at c o.0,
        get-map (lost_at c) ys i o.0 o.1,
        subst (λ z. Agree ps i z (lost_at c o.0))
            b.2 (agree_lost ps i c b.0 o.0 o.2),
      );
}

pub kept_ended : (ps : List Pair) (xs ys : List Record) (c : ℕ) (p : Pair) → pair_at ps c ≡ Some p
    → Kept ps xs ys
    → Kept (pair_set ps c (client_ended p)) (map (lost_at c) xs) (map (lost_at c) ys)
kept_ended ps xs ys c p at k =
    kept_lost (pair_set ps c (client_ended p)) xs ys c (kept_alike ps xs ys c p (client_ended p) at
    refl refl refl k)
