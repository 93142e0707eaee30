-- The owners' calls are calls of the machine, and keep what holds of these.
use Rattle.std.proofs.Common.{◌≡◌, ℕ, zero, suc, Bool, true, false, List, [], ◌∷◌, ◌++◌, length, refl, sym, ◌∙◌, ap, subst, append_assoc, arith, Option, Some, None, ◌⊎◌, inl, inr}
use Rattle.std.specs.Prelude.{slice_get, if◌then◌else◌}
use Rattle.std.proofs.lemmas.Option.{none-some, same_Some, slice_get_within}
use Rattle.wire_msg.specs.{Content}
use Rattle.wire_peer.specs.{LogEntry}
use Rattle.wire_model.specs.Machines.{Answered, Call, CallIs, Done, Foreign, Lost, Machine, Mute, Never, OnWay, Owes, Pending, Place, Sent, State, is_ours}
use Rattle.wire_model.specs.Conns.{Record}
use Rattle.wire_model.specs.Shown.{shown, shown_calls}
use Rattle.wire_model.proofs.Promises.{CallOk, Early, Ok, beginnings, done_whole, holds_as, one_call, silent_none}
use Rattle.wire_model.specs.Channels.{Pair}
use Rattle.wire_model.specs.Knowing.{HoldsBeginning, IsEntry, Names, Owned}
use Rattle.wire_model.specs.Seen.{Agree, IsAhead}
use Rattle.wire_model.proofs.Fits.{get_within}

-- ---- which of the machine's calls the i-th record shows

abbrev nth_by : Bool → (ℕ → ℕ) → ℕ → ℕ
nth_by true f zero = zero
nth_by true f (suc i) = suc (f i)
nth_by false f i = suc (f i)

abbrev pub nth_of : List Call → ℕ → ℕ
nth_of [] i = zero
nth_of (a ∷ calls) i = nth_by (is_ours a.state) (nth_of calls) i

abbrev shows_by : Bool → Record → List Record → List Record
shows_by b r rs = if b then r ∷ rs else rs

nth_back : (calls : List Call) (i : ℕ) (r : Record) → slice_get (shown_calls calls) i ≡ Some r
    → (x : Call) × CallIs calls (nth_of calls i) x × (shown x ≡ r)
nth_back [] i r g = absurd (none-some r g)
nth_back (a ∷ calls) i r g = by (is_ours a.state) i g (λ k h. nth_back calls k r h)
  where
    by : (b : Bool) (k : ℕ) → slice_get (shows_by b (shown a) (shown_calls calls)) k ≡ Some r
        → ((k : ℕ) → slice_get (shown_calls calls) k ≡ Some r
        → (x : Call) × CallIs calls (nth_of calls k) x × (shown x ≡ r))
        → (x : Call) × CallIs (a ∷ calls) (nth_by b (nth_of calls) k) x × (shown x ≡ r)
    by true zero g back = (a, refl, same_Some (shown a) r g)
    by true (suc k) g back = back k g
    by false k g back = back k g

nth_to : (calls : List Call) (j : ℕ) (x : Call) → CallIs calls j x → is_ours x.state ≡ true
    → (i : ℕ) × (nth_of calls i ≡ j) × (slice_get (shown_calls calls) i ≡ Some (shown x))
nth_to [] j x g ours = absurd (none-some x g)
nth_to (a ∷ calls) zero x g ours =
    let same : a ≡ x = same_Some a x g in
    let is : is_ours a.state ≡ true = ap (λ (z : Call). is_ours z.state) same ∙ ours in (
      zero,
      ap (λ b. nth_by b (nth_of calls) zero) is,
      ap (λ b. slice_get (shows_by b (shown a) (shown_calls calls)) zero) is
          ∙ ap (λ z. Some (shown z)) same,
    )
nth_to (a ∷ calls) (suc j) x g ours = by (is_ours a.state) (nth_to calls j x g ours)
  where
    by : (b : Bool)
        → (i : ℕ) × (nth_of calls i ≡ j) × (slice_get (shown_calls calls) i ≡ Some (shown x))
        → (i : ℕ) × (nth_by b (nth_of calls) i ≡ suc j)
        × (slice_get (shows_by b (shown a) (shown_calls calls)) i ≡ Some (shown x))
    by true p = (suc p.0, ap suc p.1, p.2)
    by false p = (p.0, ap suc p.1, p.2)

nth_once : (calls : List Call) (i j : ℕ) (r s : Record) → slice_get (shown_calls calls) i ≡ Some r
    → slice_get (shown_calls calls) j ≡ Some s → nth_of calls i ≡ nth_of calls j → i ≡ j
nth_once [] i j r s g h e = absurd (none-some r g)
nth_once (a ∷ calls) i j r s g h e =
    by (is_ours a.state) i j g h e (λ k l u v w. nth_once calls k l r s u v w)
  where
    pred : ℕ → ℕ
    pred zero = zero
    pred (suc n) = n

    by : (b : Bool) (k l : ℕ) → slice_get (shows_by b (shown a) (shown_calls calls)) k ≡ Some r
        → slice_get (shows_by b (shown a) (shown_calls calls)) l ≡ Some s
        → nth_by b (nth_of calls) k ≡ nth_by b (nth_of calls) l
        → ((k l : ℕ) → slice_get (shown_calls calls) k ≡ Some r
        → slice_get (shown_calls calls) l ≡ Some s → nth_of calls k ≡ nth_of calls l → k ≡ l)
        → k ≡ l
    by true zero zero g h e back = refl
    by true zero (suc l) g h e back = cc
    by true (suc k) zero g h e back = cc
    by true (suc k) (suc l) g h e back = ap suc (back k l g h cc)
    by false k l g h e back = back k l g h cc

abbrev call_place : Option Call → Place
call_place None = OnWay
call_place (Some z) = z.place

-- ---- what holds of them

some_more : (xs : List Content) (part : Content) → xs ++ part ∷ [] ≡ [] → ⊥
some_more [] part e = cc
some_more (a ∷ xs) part e = cc

module _ {H : Type 0} (m : Machine H) (ok : Ok m) (unraw : (c : ℕ) → m.raw c ≡ false)
    (ps : List Pair) (xs ys : List Record) (many : length ys ≡ length xs)
    (shows : shown_calls m.calls ≡ ys)
    (agree : (i : ℕ) (x : Record) → slice_get xs i ≡ Some x → (y : Record)
    × (slice_get ys i ≡ Some y) × Agree ps i x y) where
  abbrev IsOne : ℕ → Record → Type 0
  IsOne i x = slice_get xs i ≡ Some x

  -- no call is a stranger's
  all_ours : (j : ℕ) (x : Call) → CallIs m.calls j x → is_ours x.state ≡ true
  all_ours j x at = by x.state refl
    where
      by : (s : State) → x.state ≡ s → is_ours x.state ≡ true
      by Pending e = ap is_ours e
      by Done e = ap is_ours e
      by Sent e = ap is_ours e
      by Lost e = ap is_ours e
      by Foreign e =
          let no_ : true ≡ false = sym ((ok.each j x at).foreign e) ∙ unraw x.connection in
          absurd cc

  abbrev place_of : ℕ → Place
  place_of i = call_place (slice_get m.calls (nth_of m.calls i))

  -- the world's record of call i, and the machine's call that it shows
  record Behind (i : ℕ) (x : Record) : Type 0 where
    y : Record
    agrees : Agree ps i x y
    z : Call
    at : CallIs m.calls (nth_of m.calls i) z
    same : shown z ≡ y
    place : z.place ≡ place_of i

  shown_at : (i : ℕ) (y : Record) → slice_get ys i ≡ Some y
      → slice_get (shown_calls m.calls) i ≡ Some y
  shown_at i y at = ap (λ cs. slice_get cs i) shows ∙ at

  behind : (i : ℕ) (x : Record) → IsOne i x → Behind i x
  behind i x at =
      let o = agree i x at in
      let b = nth_back m.calls i o.0 (shown_at i o.0 o.1) in
      record {
        y = o.0;
        agrees = o.2;
        z = b.0;
        at = b.1;
        same = b.2;
        place =
            sym (ap call_place b.1);
      }

  alike : (i : ℕ) (x y : Record) → Agree ps i x y → (y.connection ≡ x.connection)
      × (y.asked ≡ x.asked)
  alike i x y (inl e) =
      (ap (λ (r : Record). r.connection) e.0, ap (λ (r : Record). r.asked) e.0)
  alike i x y (inr a) =
      (ap (λ (r : Record). r.connection) a.given, ap (λ (r : Record). r.asked) a.given)

  of_call : (i : ℕ) (x : Record) (b : Behind i x) → (b.z.connection ≡ x.connection)
      × (b.z.asked ≡ x.asked)
  of_call i x b =
      let a = alike i x b.y b.agrees in (
        ap (λ (r : Record). r.connection) b.same
            ∙ a.0,
        ap (λ (r : Record). r.asked) b.same
            ∙ a.1,
      )

  once : (i j : ℕ) (x y : Record) → IsOne i x → IsOne j y → nth_of m.calls i ≡ nth_of m.calls j
      → i ≡ j
  once i j x y at_i at_j e =
      let o = agree i x at_i in
      let p = agree j y at_j in
      nth_once m.calls i j o.0 p.0 (shown_at i o.0 o.1) (shown_at j p.0 p.1) e

  -- the machine's call has the entries that the place names
  named_by : (i : ℕ) (x : Record) (b : Behind i x) (e : ℕ) → Names (place_of i) e
      → (b.z.place ≡ Answered e) ⊎ (b.z.place ≡ Mute e)
  named_by i x b e (inl is) = inl (b.place ∙ is)
  named_by i x b e (inr is) = inr (b.place ∙ is)

  entry_is : (i : ℕ) (x : Record) (b : Behind i x) (e : ℕ) (en : LogEntry)
      → slice_get m.log e ≡ Some en → en.connection ≡ b.z.connection
      → en.payload ≡ b.z.asked.payload → IsEntry m.log e x
  entry_is i x b e en at conn pay = let a = of_call i x b in record {
    entry = en;
    at = at;
    connection = conn ∙ a.0;
    payload = pay ∙ ap (λ z. z.payload) a.1;
  }

  entry : (i : ℕ) (x : Record) (e : ℕ) → IsOne i x → Names (place_of i) e → IsEntry m.log e x
  entry i x e at n =
      let b = behind i x at in
      let p = (ok.each (nth_of m.calls i) b.z b.at).entry e (named_by i x b e n) in
      entry_is i x b e p.0 p.1 p.2 p.3

  -- a call that is done in its owner's records is done in the machine
  done_same : (i : ℕ) (x y : Record) → Agree ps i x y → x.state ≡ Done → y ≡ x
  done_same i x y (inl e) done = e.0
  done_same i x y (inr a) done = absurd (elim a.not_done [
    | inl p ↦ (let no_ : Done ≡ Pending = sym done ∙ p in cc)
    | inr q ↦ (let no_ : Done ≡ Lost = sym done ∙ q in cc)
  ])

  whole : (i : ℕ) (x : Record) → IsOne i x → x.state ≡ Done → (e : ℕ) × (is : IsEntry m.log e x)
      × (place_of i ≡ Answered e) × (is.entry.answers ≡ Some x.parts)
  unfolding entry_is
  whole i x at done =
      let b = behind i x at in
      let same : shown b.z ≡ x = b.same ∙ done_same i x b.y b.agrees done in
      let w =
      done_whole m ok (nth_of m.calls i) b.z b.at (ap (λ (r : Record). r.state) same ∙ done) in (
        w.0,
        entry_is i x b w.0 w.1 w.3 w.4 w.5,
        sym b.place ∙ w.2,
        w.6
            ∙ ap (λ (r : Record). Some r.parts) same,
      )

  one : (i j : ℕ) (x y : Record) (e : ℕ) → IsOne i x → IsOne j y → Names (place_of i) e
      → Names (place_of j) e → i ≡ j
  one i j x y e at_i at_j n n' =
      let b = behind i x at_i in
      let d = behind j y at_j in
      once i j x y at_i at_j ((one_call m ok).0 (nth_of m.calls i) (nth_of m.calls j) e b.z d.z
      b.at d.at (named_by i x b e n) (named_by j y d e n'))

  named : (e : ℕ) (en : LogEntry) → slice_get m.log e ≡ Some en → (i : ℕ) × (x : Record)
      × IsOne i x × Names (place_of i) e
  named e en at =
      let w = (one_call m ok).1 e en at in
      let p = nth_to m.calls w.0 w.1 w.2 (all_ours w.0 w.1 w.2) in
      let at_y : slice_get ys p.0 ≡ Some (shown w.1) = ap (λ cs. slice_get cs p.0) (sym shows)
      ∙ p.2 in
      let lt = slice_get_within ys p.0 (shown w.1) at_y in
      let x = get_within xs p.0 (omega (arith, lt, many)) in
      let b = behind p.0 x.0 x.1 in
      let at_z : slice_get m.calls w.0 ≡ Some b.z = ap (slice_get m.calls) (sym p.1) ∙ b.at in
      let same : b.z ≡ w.1 = same_Some b.z w.1 (sym at_z ∙ w.2) in
      let place : w.1.place ≡ place_of p.0 = ap (λ (z : Call). z.place) (sym same) ∙ b.place in
      (p.0, x.0, x.1, elim w.3 [ inl q ↦ inl (sym place ∙ q) | inr q ↦ inr (sym place ∙ q) ])

  silent : (i : ℕ) (x : Record) → IsOne i x → x.asked.more_to_come ≡ true → (x.state ≡ Sent)
      × (x.parts ≡ [])
  silent i x at is = by b.agrees
    where
      b : Behind i x
      b = behind i x at

      w : (b.z.state ≡ Sent) × (b.z.parts ≡ [])
      w = silent_none m ok (nth_of m.calls i) b.z b.at (all_ours (nth_of m.calls i) b.z b.at)
          (ap (λ z. z.more_to_come) ((of_call i x b).1)
          ∙ is)

      by : Agree ps i x b.y → (x.state ≡ Sent) × (x.parts ≡ [])
      by (inl e) = (
        ap (λ (r : Record). r.state) (sym (b.same ∙ e.0)) ∙ w.0,
        ap (λ (r : Record). r.parts) (sym (b.same ∙ e.0))
            ∙ w.1,
      )
      by (inr a) =
          absurd (some_more x.parts a.m.content
          (ap (λ (r : Record). r.parts) (sym (b.same ∙ a.given)) ∙ w.1))

  beginning : (i : ℕ) (x : Record) → IsOne i x → (x.state ≡ Pending) ⊎ (x.state ≡ Lost)
      → HoldsBeginning m.log (place_of i) x
  unfolding entry_is
  beginning i x at how = by b.agrees
    where
      b : Behind i x
      b = behind i x at

      j : ℕ
      j = nth_of m.calls i

      -- the place names the entry that the machine's call names
      names : (e : ℕ) → (b.z.place ≡ Answered e) ⊎ (b.z.place ≡ Mute e) → Names (place_of i) e
      names e (inl q) = inl (sym b.place ∙ q)
      names e (inr q) = inr (sym b.place ∙ q)

      -- what the machine's call holds, if the record holds the same or less
      from : (b.z.state ≡ Pending) ⊎ (b.z.state ≡ Lost)
          → ((answers : _) → Owes answers b.z.parts → Owes answers x.parts)
          → (b.z.parts ≡ [] → x.parts ≡ []) → HoldsBeginning m.log (place_of i) x
      from state less none = elim (beginnings m ok j b.z b.at state) [
        | inl w ↦
            let p = (ok.each j b.z b.at).entry w.0 w.2 in
            let same : p.0 ≡ w.1 = same_Some p.0 w.1 (sym p.1 ∙ w.3) in
            inl (
              w.0,
              entry_is i x b w.0 p.0 p.1 p.2 p.3,
              names w.0 w.2,
              less p.0.answers
                  (subst (λ (z : LogEntry). Owes z.answers b.z.parts) (sym same) w.4),
            )
        | inr w ↦ inr (
          none w.0,
          λ e n.
              let p = (ok.each j b.z b.at).entry e (named_by i x b e n) in
              (entry_is i x b e p.0 p.1 p.2 p.3, w.1 e p.0 (named_by i x b e n) p.1),
        )
      ]

      ahead : (a : IsAhead ps i x b.y) (last : Bool) → a.is.reply.last ≡ last
          → HoldsBeginning m.log (place_of i) x
      ahead a true e =
          let state : b.z.state ≡ Done = ap (λ (r : Record). r.state) (b.same ∙ a.given)
          ∙ ap (λ l. if l then Done else x.state) e in
          let w = done_whole m ok j b.z b.at state in
          inl (
            w.0,
            entry_is i x b w.0 w.1 w.3 w.4 w.5,
            names w.0 (inl w.2),
            (
              a.m.content,
              [],
              w.6
                  ∙ ap (λ (r : Record). Some r.parts) (b.same ∙ a.given),
            ),
          )
      ahead a false e =
          let parts : b.z.parts ≡ x.parts ++ a.m.content ∷ [] = ap (λ (r : Record). r.parts)
          (b.same ∙ a.given) in
          let state : b.z.state ≡ x.state = ap (λ (r : Record). r.state) (b.same ∙ a.given)
          ∙ ap (λ l. if l then Done else x.state) e in
          from (elim how [ inl q ↦ inl (state ∙ q) | inr q ↦ inr (state ∙ q) ])
          (λ answers o. (
            a.m.content,
            o.0 ∷ o.1,
            o.2 ∙ ap (λ ps. Some (ps ++ o.0 ∷ o.1)) parts
                ∙ ap (λ ps. Some ps) (append_assoc x.parts (a.m.content ∷ []) (o.0 ∷ o.1)),
          ))
          (λ none. absurd (some_more x.parts a.m.content (sym parts ∙ none)))

      by : Agree ps i x b.y → HoldsBeginning m.log (place_of i) x
      by (inl e) =
          let same : shown b.z ≡ x = b.same ∙ e.0 in
          let state : b.z.state ≡ x.state = ap (λ (r : Record). r.state) same in
          let parts : b.z.parts ≡ x.parts = ap (λ (r : Record). r.parts) same in
          from (elim how [ inl q ↦ inl (state ∙ q) | inr q ↦ inr (state ∙ q) ])
          (λ answers o. subst (Owes answers) parts o) (λ none. sym parts ∙ none)
      by (inr a) = ahead a a.is.reply.last refl

  mute : (i : ℕ) (x : Record) → IsOne i x → ((e : ℕ) × (place_of i ≡ Mute e))
      ⊎ (place_of i ≡ Never)
      → (x.parts ≡ []) × (x.state ≡ Done → ⊥)
  mute i x at how = by b.agrees
    where
      b : Behind i x
      b = behind i x at

      okay : CallOk m b.z
      okay = ok.each (nth_of m.calls i) b.z b.at

      early : ((e : ℕ) × (place_of i ≡ Mute e)) ⊎ (place_of i ≡ Never) → Early b.z
      early (inl p) = holds_as m b.z (Mute p.0) okay (b.place ∙ p.1)
      early (inr p) = holds_as m b.z Never okay (b.place ∙ p)

      by : Agree ps i x b.y → (x.parts ≡ []) × (x.state ≡ Done → ⊥)
      by (inl e) =
          let same : shown b.z ≡ x = b.same ∙ e.0 in (
            ap (λ (r : Record). r.parts) (sym same) ∙ (early how).0,
            λ done. (early how).1 (ap (λ (r : Record). r.state) same ∙ done),
          )
      by (inr a) =
          absurd (some_more x.parts a.m.content
          (ap (λ (r : Record). r.parts) (sym (b.same ∙ a.given)) ∙ (early how).0))

  pub owned_calls : Owned m (λ (i : ℕ) (x : Record). slice_get xs i ≡ Some x)
  owned_calls = record {
    number = nth_of m.calls;
    place = place_of;
    is =
        λ i x at. let b = behind i x at in let a = of_call i x b in (b.z, b.at, a.0, a.1, b.place);
    once = once;
    entry = entry;
    whole = whole;
    one_call = one;
    named = named;
    silent = silent;
    beginning = beginning;
    mute = mute;
  }
