-- Call numbers go up, so no reply to a call follows its last one.
use Rattle.std.proofs.Common.{◌≡◌, ℕ, suc, ◌+◌, ◌-◌, ◌^◌, ◌<◌, ℤ, Bool, true, false, cond, List, [], ◌∷◌, ◌++◌, refl, sym, ◌∙◌, ap, subst, arith, Contains, Option, Some, None, Result, Ok, Err}
use Rattle.std.specs.Prelude.{◌==◌, ◌&&◌, ◌||◌, not, if◌then◌else◌}
use Rattle.std.specs.Map.{set_value}
use Rattle.std.specs.Ordering.{int_eq}
use Rattle.std.proofs.lemmas.Bool.Decides.{Decides-int_eq}
use Rattle.std.proofs.lemmas.Option.{none-some, same_Some}
use Rattle.wire_msg.specs.{Message}
use Rattle.wire_peer.specs.{Table, after_part, after_reply, allowed, allows_more, awaits_reply, bearer, ids, number_after, owner, reply_to, stream, without}
use Rattle.wire_peer.specs.CallTables.{has_part, is_last_part, of_bearer, owner_by}
use Rattle.wire_peer.specs.declared.call_table.Outstanding.{Outstanding}
use Rattle.wire_peer.specs.declared.call_table.ReadyReply.{ReadyReply}
use Rattle.wire_peer.specs.declared.calls.CallKind.{CallKind}
use Rattle.wire_peer.specs.declared.calls.CallNo.{CallNo}
use Rattle.wire_peer.specs.declared.client_state.ClientCause.{ClientCause}
use Rattle.wire_peer.specs.declared.client_state.ClientCause.TheVariants.{MoreNotAllowed, StreamBroken}
use Rattle.wire_model.specs.Alone.{Got, Hearing, Made, NoneBehind, NoneTo, hear, replied, silence}

-- ---- lists

abbrev pub Each : {A : Type 0} → (A → Type 0) → List A → Type 0
Each P [] = Unit {0}
Each P (x ∷ xs) = P x × Each P xs

each_weaker : {A : Type 0} (P Q : A → Type 0) (xs : List A) → ((x : A) → P x → Q x) → Each P xs
    → Each Q xs
each_weaker P Q [] f p = tt
each_weaker P Q (x ∷ xs) f p = (f x p.0, each_weaker P Q xs f p.1)

each_push : {A : Type 0} (P : A → Type 0) (xs : List A) (y : A) → Each P xs → P y
    → Each P (xs ++ y ∷ [])
each_push P [] y p q = (q, tt)
each_push P (x ∷ xs) y p q = (p.0, each_push P xs y p.1 q)

-- ---- what is known of a table: the id and the number of each call

abbrev Entry : Type 0
Entry = ℤ × Outstanding

-- neither the id nor the number is that of the call before
abbrev Differs : Entry → Entry → Type 0
Differs e f = (int_eq f.0 e.0 ≡ false) × (f.1.call ≡ e.1.call → ⊥)

abbrev Apart : Table → Type 0
Apart [] = Unit {0}
Apart (e ∷ t) = Each (Differs e) t × Apart t

same_int : (x y : ℤ) → int_eq x y ≡ true → x ≡ y
same_int x y e = grind (arith, Decides-int_eq x y)

eq_int : (x y : ℤ) → x ≡ y → int_eq x y ≡ true
eq_int x y e = grind (arith, Decides-int_eq x y)

true_false : (b : Bool) → b ≡ true → b ≡ false → ⊥
true_false b t f = let no_ : true ≡ false = sym t ∙ f in cc

-- what holds of each entry of the table holds of the call with an id
each_bearer : (P : Entry → Type 0) (id : ℤ) (t : Table) (o : Outstanding) → Each P t
    → bearer id t ≡ Some o → (i : ℤ) × (int_eq id i ≡ true) × P (i, o)
each_bearer P id [] o p is = absurd (none-some o is)
each_bearer P id (e ∷ t) o p is = by (int_eq id e.0) refl is (λ g. each_bearer P id t o p.1 g)
  where
    by : (b : Bool) → int_eq id e.0 ≡ b → cond b (Some e.1) (bearer id t) ≡ Some o
        → (bearer id t ≡ Some o → (i : ℤ) × (int_eq id i ≡ true) × P (i, o))
        → (i : ℤ) × (int_eq id i ≡ true) × P (i, o)
    by true eq g later = (e.0, eq, subst (λ z. P (e.0, z)) (same_Some e.1 o g) p.0)
    by false eq g later = later g

-- ---- the owner of a reply has the id that it answers

stream_differs : (e : Entry) (t : Table) (o : Entry) → Each (Differs e) t → stream t ≡ Some o
    → int_eq o.0 e.0 ≡ false
stream_differs e [] o d g = absurd (none-some o g)
stream_differs e (f ∷ t) o d g = by (has_part f) g (λ h. stream_differs e t o d.1 h)
  where
    by : (b : Bool) → (if b then Some f else stream t) ≡ Some o
        → (stream t ≡ Some o → int_eq o.0 e.0 ≡ false) → int_eq o.0 e.0 ≡ false
    by true h later = subst (λ (z : Entry). int_eq z.0 e.0 ≡ false) (same_Some f o h) d.0.0
    by false h later = later h

stream_bears : (t : Table) (o : Entry) → Apart t → stream t ≡ Some o → bearer o.0 t ≡ Some o.1
stream_bears [] o a is = absurd (none-some o is)
stream_bears (e ∷ t) o a is = by (has_part e) is (λ g. stream_bears t o a.1 g)
  where
    by : (b : Bool) → (if b then Some e else stream t) ≡ Some o
        → (stream t ≡ Some o → bearer o.0 t ≡ Some o.1)
        → cond (int_eq o.0 e.0) (Some e.1) (bearer o.0 t) ≡ Some o.1
    by true g later =
        let same = same_Some e o g in
        ap (λ b. cond b (Some e.1) (bearer o.0 t))
        (eq_int o.0 e.0 (ap (λ (z : Entry). z.0) (sym same)))
        ∙ ap (λ (z : Entry). Some z.1) same
    by false g later =
        ap (λ b. cond b (Some e.1) (bearer o.0 t)) (stream_differs e t o a.0 g) ∙ later g

abbrev OkIs : Result Entry ClientCause → Entry → Type 0
OkIs (Ok x) y = x ≡ y
OkIs (Err e) y = ⊥

ok_inside : (r : Result Entry ClientCause) (o : Entry) → r ≡ Ok o → OkIs r o
ok_inside r o e = subst (λ z. OkIs z o) (sym e) refl

owner_bears : (t : Table) (to : ℤ) (more : Bool) (o : Entry) → Apart t
    → allowed more (owner t to) ≡ Ok o → bearer o.0 t ≡ Some o.1
owner_bears t to more o a is = by (stream t) refl (unallowed (owner t to) is)
  where
    unallowed : (r : Result Entry ClientCause) → allowed more r ≡ Ok o → OkIs r o
    unallowed (Ok x) e = here (more && not (allows_more x.1.kind)) e
      where
        here : (b : Bool) → (if b then Err MoreNotAllowed else Ok x) ≡ Ok o → x ≡ o
        here true e = absurd (ok_inside (Err MoreNotAllowed) o e)
        here false e = ok_inside (Ok x) o e
    unallowed (Err cause) e = ok_inside (Err cause) o e

    streams : (x : Entry) (b : Bool) → OkIs (if b then Ok x else Err StreamBroken) o → x ≡ o
    streams x true e = e
    streams x false e = absurd e

    bears : (b : Option Outstanding) → bearer to t ≡ b → OkIs (of_bearer b to) o
        → bearer o.0 t ≡ Some o.1
    bears None g e = absurd e
    bears (Some x) g e =
        ap (λ (z : Entry). bearer z.0 t) (sym e) ∙ g ∙ ap (λ (z : Entry). Some z.1) e

    by : (s : Option Entry) → stream t ≡ s → OkIs (owner_by s t to) o → bearer o.0 t ≡ Some o.1
    by None g e = bears (bearer to t) refl e
    by (Some x) g e =
        stream_bears t o a (g ∙ ap (λ z. Some z)
        (streams x (int_eq x.0 to || is_last_part x.1.last to) e))

-- ---- one more call, another part, or one call fewer

apart_push : (t : Table) (e : Entry) → Apart t
    → Each (λ (f : Entry). (int_eq e.0 f.0 ≡ false) × (e.1.call ≡ f.1.call → ⊥)) t
    → Apart (t ++ e ∷ [])
apart_push [] e a n = (tt, tt)
apart_push (f ∷ t) e a n = (each_push (Differs f) t e a.0 n.0, apart_push t e a.1 n.1)

free_each : (id : ℤ) (t : Table) → (Contains (ids t) id → ⊥)
    → Each (λ (e : Entry). int_eq id e.0 ≡ false) t
free_each id [] free = tt
free_each id (e ∷ t) free =
    (by (int_eq id e.0) refl, free_each id t (λ c. free (suc c.0, omega (arith, c.1), c.2)))
  where
    by : (b : Bool) → int_eq id e.0 ≡ b → int_eq id e.0 ≡ false
    by true eq = absurd (free (0, omega arith, sym (same_int id e.0 eq)))
    by false eq = eq

each_both : {A : Type 0} (P Q : A → Type 0) (xs : List A) → Each P xs → Each Q xs
    → Each (λ x. P x × Q x) xs
each_both P Q [] p q = tt
each_both P Q (x ∷ xs) p q = ((p.0, q.0), each_both P Q xs p.1 q.1)

each_set : (P : Entry → Type 0) (id : ℤ) (t : Table) (o w : Outstanding)
    → ((i : ℤ) → P (i, o) → P (i, w)) → bearer id t ≡ Some o → Each P t
    → Each P (set_value (int_eq id) t w)
each_set P id [] o w f is p = tt
each_set P id (e ∷ t) o w f is p = by (int_eq id e.0) is (λ g. each_set P id t o w f g p.1)
  where
    by : (b : Bool) → cond b (Some e.1) (bearer id t) ≡ Some o
        → (bearer id t ≡ Some o → Each P (set_value (int_eq id) t w))
        → Each P (cond b ((e.0, w) ∷ t) (e ∷ set_value (int_eq id) t w))
    by true g later = (f e.0 (subst (λ z. P (e.0, z)) (same_Some e.1 o g) p.0), p.1)
    by false g later = (p.0, later g)

apart_set : (id : ℤ) (t : Table) (o w : Outstanding) → w.call ≡ o.call → bearer id t ≡ Some o
    → Apart t → Apart (set_value (int_eq id) t w)
apart_set id [] o w same is a = tt
apart_set id (e ∷ t) o w same is a = by (int_eq id e.0) is (λ g. apart_set id t o w same g a.1)
  where
    by : (b : Bool) → cond b (Some e.1) (bearer id t) ≡ Some o
        → (bearer id t ≡ Some o → Apart (set_value (int_eq id) t w))
        → Apart (cond b ((e.0, w) ∷ t) (e ∷ set_value (int_eq id) t w))
    by true g later =
        let call : w.call ≡ e.1.call = same ∙ ap (λ (z : Outstanding). z.call)
        (sym (same_Some e.1 o g)) in (
          each_weaker (Differs e) (Differs (e.0, w)) t (λ f d. (d.0, λ is. d.1 (is ∙ call))) a.0,
          a.1,
        )
    by false g later =
        (each_set (Differs e) id t o w (λ i d. (d.0, λ is. d.1 (sym same ∙ is))) g a.0, later g)

each_without : (P : Entry → Type 0) (id : ℤ) (t : Table) → Each P t → Each P (without id t)
each_without P id [] p = tt
each_without P id (e ∷ t) p = by (int_eq id e.0) (each_without P id t p.1)
  where
    by : (b : Bool) → Each P (without id t) → Each P (cond b t (e ∷ without id t))
    by true later = p.1
    by false later = (p.0, later)

apart_without : (id : ℤ) (t : Table) → Apart t → Apart (without id t)
apart_without id [] a = tt
apart_without id (e ∷ t) a = by (int_eq id e.0) (apart_without id t a.1)
  where
    by : (b : Bool) → Apart (without id t) → Apart (cond b t (e ∷ without id t))
    by true later = a.1
    by false later = (each_without (Differs e) id t a.0, later)

-- the call is gone
gone : (id : ℤ) (t : Table) (o : Outstanding) → Apart t → bearer id t ≡ Some o
    → Each (λ (e : Entry). e.1.call ≡ o.call → ⊥) (without id t)
gone id [] o a is = tt
gone id (e ∷ t) o a is = by (int_eq id e.0) is (λ g. gone id t o a.1 g)
  where
    by : (b : Bool) → cond b (Some e.1) (bearer id t) ≡ Some o
        → (bearer id t ≡ Some o → Each (λ (e : Entry). e.1.call ≡ o.call → ⊥) (without id t))
        → Each (λ (e : Entry). e.1.call ≡ o.call → ⊥) (cond b t (e ∷ without id t))
    by true g later =
        each_weaker (Differs e) (λ (f : Entry). f.1.call ≡ o.call → ⊥) t
        (λ f d is. d.1 (is ∙ ap (λ (z : Outstanding). z.call) (sym (same_Some e.1 o g)))) a.0
    by false g later =
        let d = each_bearer (Differs e) id t o a.0 g in ((λ is. d.2.1 (sym is)), later g)

-- ---- what was handed out

none_to_push : (call : ℕ) (rs : List (ReadyReply × Message)) (x : ReadyReply × Message)
    → NoneTo call rs → (x.0.call ≡ call → ⊥) → NoneTo call (rs ++ x ∷ [])
none_to_push call [] x n no_ = (no_, tt)
none_to_push call (r ∷ rs) x n no_ = (n.0, none_to_push call rs x n.1 no_)

none_push : (rs : List (ReadyReply × Message)) (x : ReadyReply × Message) → NoneBehind rs
    → Each (λ (r : ReadyReply × Message). r.0.last ≡ true → x.0.call ≡ r.0.call → ⊥) rs
    → NoneBehind (rs ++ x ∷ [])
none_push [] x n e = ((λ l. tt), tt)
none_push (r ∷ rs) x n e =
    ((λ l. none_to_push r.0.call rs x (n.0 l) (e.0 l)), none_push rs x n.1 e.1)

-- no outstanding call has this number
abbrev IsOver : Table → ℕ → Type 0
IsOver t c = Each (λ (e : Entry). e.1.call ≡ c → ⊥) t

-- what holds of a client that heard this, after it made this many calls
pub record Tidy (h : Hearing) (count : ℕ) : Type 0 where
  pub apart : Apart h.table
  pub below : Each (λ (e : Entry). e.1.call < count) h.table
  pub past : Each (λ (r : ReadyReply × Message). r.0.call < count) h.replies
  pub over : Each (λ (r : ReadyReply × Message). r.0.last ≡ true → IsOver h.table r.0.call)
      h.replies
  pub none : NoneBehind h.replies

pub after_is : (n k : ℕ) → number_after n ≡ Some k → k ≡ suc n
after_is n k e = by (n == 2 ^ 64 - 1) e
  where
    by : (b : Bool) → (if b then None else Some (n + 1)) ≡ Some k → k ≡ suc n
    by true g = absurd (none-some k g)
    by false g = let same = same_Some (n + 1) k g in omega (arith, same)

pub tidy_made : (h : Hearing) (count : ℕ) (kind : CallKind) (call : CallNo) → Tidy h count
    → call.number ≡ count → (Contains (ids h.table) call.id → ⊥)
    → Tidy (hear h (Made kind call)) (suc count)
tidy_made h count kind call t is free = by (awaits_reply kind)
  where
    x : Entry
    x = (call.id, record { call = call.number; kind = kind; last = None })

    past : Each (λ (r : ReadyReply × Message). r.0.call < suc count) h.replies
    past =
        each_weaker (λ (r : ReadyReply × Message). r.0.call < count)
        (λ (r : ReadyReply × Message). r.0.call < suc count) h.replies (λ r lt. omega (arith, lt))
        t.past

    below : Each (λ (e : Entry). e.1.call < suc count) h.table
    below =
        each_weaker (λ (e : Entry). e.1.call < count) (λ (e : Entry). e.1.call < suc count) h.table
        (λ e lt. omega (arith, lt)) t.below

    new : (n : ℕ) → call.number ≡ n → n < count → ⊥
    new n same lt = omega (arith, lt, same, is)

    by : (b : Bool)
        → Tidy (record {
          table = if b then h.table ++ x ∷ [] else h.table;
          replies = h.replies;
          cause = h.cause;
        }) (suc count)
    by false = record { apart = t.apart; below = below; past = past; over = t.over; none = t.none }
    by true = record {
      apart =
          apart_push h.table x t.apart
          (each_both (λ (f : Entry). int_eq call.id f.0 ≡ false)
          (λ (f : Entry). call.number ≡ f.1.call → ⊥) h.table
          (free_each call.id h.table free)
          (each_weaker (λ (e : Entry). e.1.call < count) (λ (f : Entry). call.number ≡ f.1.call
          → ⊥) h.table (λ e b same. new e.1.call same b) t.below));
      below =
          each_push (λ (e : Entry). e.1.call < suc count) h.table x below (omega (arith, is));
      past = past;
      over =
          each_weaker (λ (r : ReadyReply × Message). (r.0.last ≡ true → IsOver h.table r.0.call)
          × r.0.call < count)
          (λ (r : ReadyReply × Message). r.0.last ≡ true → IsOver (h.table ++ x ∷ []) r.0.call)
          h.replies
          (λ r p l. each_push (λ (e : Entry). e.1.call ≡ r.0.call → ⊥) h.table x (p.0 l)
          (λ same. new r.0.call same p.1))
          (each_both (λ (r : ReadyReply × Message). r.0.last ≡ true → IsOver h.table r.0.call)
          (λ (r : ReadyReply × Message). r.0.call < count) h.replies t.over t.past);
      none = t.none;
    }

module _ (h : Hearing) (count : ℕ) (t : Tidy h count) (m : Message) (o : Entry)
    (bears : bearer o.0 h.table ≡ Some o.1) where
  -- replies that were the last ones are to other calls
  others : Each (λ (r : ReadyReply × Message). r.0.last ≡ true → o.1.call ≡ r.0.call → ⊥) h.replies
  others =
      each_weaker (λ (r : ReadyReply × Message). r.0.last ≡ true → IsOver h.table r.0.call)
      (λ (r : ReadyReply × Message). r.0.last ≡ true → o.1.call ≡ r.0.call → ⊥) h.replies
      (λ r over l. (each_bearer (λ (e : Entry). e.1.call ≡ r.0.call → ⊥) o.0 h.table o.1 (over l)
      bears).2) t.over

  low : o.1.call < count
  low = (each_bearer (λ (e : Entry). e.1.call < count) o.0 h.table o.1 t.below bears).2

  tidy_reply : (id : ℤ) (more : Bool)
      → Tidy (record {
        table = after_reply h.table o id more;
        replies = h.replies ++
            (reply_to o more, m) ∷ [];
        cause = h.cause;
      }) count
  tidy_reply id true = record {
    apart = apart_set o.0 h.table o.1 (after_part o.1 id) refl bears t.apart;
    below =
        each_set (λ (e : Entry). e.1.call < count) o.0 h.table o.1 (after_part o.1 id) (λ i b. b)
        bears t.below;
    past =
        each_push (λ (r : ReadyReply × Message). r.0.call < count) h.replies (reply_to o true, m)
        t.past low;
    over =
        each_push (λ (r : ReadyReply × Message). r.0.last ≡ true
        → IsOver (after_reply h.table o id true) r.0.call) h.replies (reply_to o true, m)
        (each_weaker (λ (r : ReadyReply × Message). r.0.last ≡ true → IsOver h.table r.0.call)
        (λ (r : ReadyReply × Message). r.0.last ≡ true → IsOver (after_reply h.table o id true)
        r.0.call) h.replies
        (λ r over l. each_set (λ (e : Entry). e.1.call ≡ r.0.call → ⊥) o.0 h.table o.1
        (after_part o.1 id) (λ i n. n) bears (over l)) t.over)
        (λ l. cc);
    none = none_push h.replies (reply_to o true, m) t.none others;
  }
  tidy_reply id false = record {
    apart = apart_without o.0 h.table t.apart;
    below = each_without (λ (e : Entry). e.1.call < count) o.0 h.table t.below;
    past =
        each_push (λ (r : ReadyReply × Message). r.0.call < count) h.replies (reply_to o false, m)
        t.past low;
    over =
        each_push (λ (r : ReadyReply × Message). r.0.last ≡ true → IsOver (without o.0 h.table)
        r.0.call) h.replies (reply_to o false, m)
        (each_weaker (λ (r : ReadyReply × Message). r.0.last ≡ true → IsOver h.table r.0.call)
        (λ (r : ReadyReply × Message). r.0.last ≡ true → IsOver (without o.0 h.table) r.0.call)
        h.replies
        (λ r over l. each_without (λ (e : Entry). e.1.call ≡ r.0.call → ⊥) o.0 h.table (over l))
        t.over)
        (λ l. gone o.0 h.table o.1 t.apart bears);
    none = none_push h.replies (reply_to o false, m) t.none others;
  }

pub tidy_got : (h : Hearing) (count : ℕ) (m : Message) → Tidy h count → Tidy (hear h (Got m)) count
tidy_got h count m t = by (allowed m.flags.more_to_come (owner h.table m.response_to)) refl
  where
    by : (r : Result Entry ClientCause) → allowed m.flags.more_to_come (owner h.table m.response_to) ≡ r
        → Tidy (replied h m r) count
    by (Ok o) e =
        tidy_reply h count t m o (owner_bears h.table m.response_to m.flags.more_to_come o t.apart e) m.id
        m.flags.more_to_come
    by (Err cause) e =
        record { apart = t.apart; below = t.below; past = t.past; over = t.over; none = t.none }

pub tidy_start : Tidy silence 0
tidy_start = record { apart = tt; below = tt; past = tt; over = tt; none = tt }
