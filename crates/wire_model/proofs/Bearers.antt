-- Which call has an id in the table, as calls are made, get parts and are complete.
use Rattle.std.proofs.Common.{◌≡◌, suc, ℤ, Bool, true, false, cond, List, [], ◌∷◌, ◌++◌, refl, sym, ◌∙◌, ap, arith, Option, Some, None, Contains}
use Rattle.std.specs.Prelude.{if◌then◌else◌}
use Rattle.std.specs.List.{AllByRecursion, IsDistinct}
use Rattle.std.specs.Map.{set_value}
use Rattle.std.specs.Ordering.{int_eq}
use Rattle.std.proofs.lemmas.Option.{none-some, same_Some}
use Rattle.std.proofs.lemmas.Bool.Decides.{Decides-int_eq}
use Rattle.wire_peer.specs.{Table, after_part, after_reply, bearer, ids, stream, without}
use Rattle.wire_peer.specs.CallTables.{has_part}
use Rattle.wire_peer.specs.declared.call_table.Outstanding.{Outstanding}
use Rattle.wire_model.proofs.Lists.{Each, Each-push}

pub same_int : (x y : ℤ) → int_eq x y ≡ true → x ≡ y
same_int x y e = grind (arith, Decides-int_eq x y)

pub eq_int : (x y : ℤ) → x ≡ y → int_eq x y ≡ true
eq_int x y e = grind (arith, Decides-int_eq x y)

pub other_int : (x y : ℤ) → (x ≡ y → ⊥) → int_eq x y ≡ false
other_int x y n = grind (arith, Decides-int_eq x y)

-- ---- bearers

-- a call that has an id keeps it when another call is added
pub bearer-push : (t : Table) (o : ℤ × Outstanding) (a : Outstanding) (id : ℤ) → bearer id t ≡ Some a → bearer id (t ++ o ∷ []) ≡ Some a
bearer-push [] o a id e = absurd (none-some a e)
bearer-push (p ∷ t) o a id e = elim (int_eq id p.0) as (λ b. cond b (Some p.1) (bearer id t) ≡ Some a → cond b (Some p.1) (bearer id (t ++ o ∷ [])) ≡ Some a) [
  | true ↦ λ h. h
  | false ↦ λ h. bearer-push t o a id h
] e

-- a call that is added under a free id has that id
pub bearer-last : (t : Table) (id : ℤ) (o : Outstanding) → bearer id t ≡ None → bearer id (t ++ (id, o) ∷ []) ≡ Some o
bearer-last [] id o e = ap (λ (b : Bool). cond b (Some o) None) (eq_int id id refl)
bearer-last (p ∷ t) id o e = elim (int_eq id p.0) as (λ b. cond b (Some p.1) (bearer id t) ≡ None → cond b (Some p.1) (bearer id (t ++ (id, o) ∷ [])) ≡ Some o) [
  | true ↦ λ h. absurd (none-some p.1 (sym h))
  | false ↦ λ h. bearer-last t id o h
] e

-- without one id, the calls of the other ids are the same
pub bearer-without_other : (id other : ℤ) (t : Table) → (other ≡ id → ⊥) → bearer other (without id t) ≡ bearer other t
bearer-without_other id other [] n = refl
bearer-without_other id other (o ∷ t) n = by (int_eq id o.0) refl (bearer-without_other id other t n)
  where
    by : (b : Bool) → int_eq id o.0 ≡ b → bearer other (without id t) ≡ bearer other t → bearer other (cond b t (o ∷ without id t)) ≡ cond (int_eq other o.0) (Some o.1) (bearer other t)
    by true same later = sym (ap (λ (b : Bool). cond b (Some o.1) (bearer other t)) (other_int other o.0 (λ e. n (e ∙ sym (same_int id o.0 same)))))
    by false same later = ap (λ (z : Option Outstanding). cond (int_eq other o.0) (Some o.1) z) later

pub bearer-noted_other : (id other : ℤ) (w : Outstanding) (t : Table) → (other ≡ id → ⊥) → bearer other (set_value (int_eq id) t w) ≡ bearer other t
bearer-noted_other id other w [] n = refl
bearer-noted_other id other w (o ∷ t) n = by (int_eq id o.0) refl (bearer-noted_other id other w t n)
  where
    by : (b : Bool) → int_eq id o.0 ≡ b → bearer other (set_value (int_eq id) t w) ≡ bearer other t → bearer other (cond b ((o.0, w) ∷ t) (o ∷ set_value (int_eq id) t w)) ≡ cond (int_eq other o.0) (Some o.1) (bearer other t)
    by true same later =
        let no_other : int_eq other o.0 ≡ false = other_int other o.0 (λ e. n (e ∙ sym (same_int id o.0 same))) in
        ap (λ (b : Bool). cond b (Some w) (bearer other t)) no_other ∙ sym (ap (λ (b : Bool). cond b (Some o.1) (bearer other t)) no_other)
    by false same later = ap (λ (z : Option Outstanding). cond (int_eq other o.0) (Some o.1) z) later

-- what is written under an id is found under it
pub bearer-noted : (id : ℤ) (w : Outstanding) (t : Table) (a : Outstanding) → bearer id t ≡ Some a → bearer id (set_value (int_eq id) t w) ≡ Some w
bearer-noted id w [] a e = absurd (none-some a e)
bearer-noted id w (o ∷ t) a e = by (int_eq id o.0) refl e (λ h. bearer-noted id w t a h)
  where
    by : (b : Bool) → int_eq id o.0 ≡ b → cond b (Some o.1) (bearer id t) ≡ Some a → (bearer id t ≡ Some a → bearer id (set_value (int_eq id) t w) ≡ Some w)
        → bearer id (cond b ((o.0, w) ∷ t) (o ∷ set_value (int_eq id) t w)) ≡ Some w
    by true same e later = ap (λ (b : Bool). cond b (Some w) (bearer id t)) same
    by false same e later = ap (λ (b : Bool). cond b (Some o.1) (bearer id (set_value (int_eq id) t w))) same ∙ later e

-- two different calls of the table have different ids
pub ids_apart : (t : Table) (id other : ℤ) (a b : Outstanding) → bearer id t ≡ Some a → bearer other t ≡ Some b → (b.call ≡ a.call → ⊥) → other ≡ id → ⊥
ids_apart t id other a b ea eb n same =
    let one : b ≡ a = same_Some b a (sym eb ∙ ap (λ (i : ℤ). bearer i t) same ∙ ea) in n (ap (λ (z : Outstanding). z.call) one)

-- ---- streams

-- no call has had a part
abbrev pub Idle : Table → Type 0
Idle t = Each (λ (o : ℤ × Outstanding). o.1.last ≡ None) t

pub stream-idle : (t : Table) → Idle t → stream t ≡ None
stream-idle [] e = refl
stream-idle (o ∷ t) e = rw e.0 (stream-idle t e.1)

-- the one call that has had a part
pub stream-one : (id last : ℤ) (t : Table) (a : Outstanding) → bearer id t ≡ Some a → a.last ≡ Some last → Idle (without id t) → stream t ≡ Some (id, a)
stream-one id last [] a e l idle = absurd (none-some a e)
stream-one id last (o ∷ t) a e l idle = by (int_eq id o.0) refl e idle (λ h i. stream-one id last t a h l i)
  where
    begun : (p : ℤ × Outstanding) (rest : Option (ℤ × Outstanding)) → p.1.last ≡ Some last → (if has_part p then Some p else rest) ≡ Some p
    begun p rest e = rw e refl

    not_begun : (p : ℤ × Outstanding) (rest : Option (ℤ × Outstanding)) → p.1.last ≡ None → (if has_part p then Some p else rest) ≡ rest
    not_begun p rest e = rw e refl

    by : (b : Bool) → int_eq id o.0 ≡ b → cond b (Some o.1) (bearer id t) ≡ Some a → Idle (cond b t (o ∷ without id t)) → (bearer id t ≡ Some a → Idle (without id t) → stream t ≡ Some (id, a)) → stream (o ∷ t) ≡ Some (id, a)
    by true same e idle later =
        let is : o.1 ≡ a = same_Some o.1 a e in
        begun o (stream t) (ap (λ (z : Outstanding). z.last) is ∙ l) ∙ (λ i. Some (sym (same_int id o.0 same) i, is i))
    by false same e idle later = not_begun o (stream t) idle.0 ∙ later e idle.1

pub idle-without : (id : ℤ) (t : Table) → Idle t → Idle (without id t)
idle-without id [] e = tt
idle-without id (o ∷ t) e = elim (int_eq id o.0) as (λ b. Idle (cond b t (o ∷ without id t))) [ true ↦ e.1 | false ↦ (e.0, idle-without id t e.1) ]

pub idle-push : (t : Table) (o : ℤ × Outstanding) → Idle t → o.1.last ≡ None → Idle (t ++ o ∷ [])
idle-push t o e l = Each-push (λ (p : ℤ × Outstanding). p.1.last ≡ None) t o e l

pub idle-without_push : (id : ℤ) (t : Table) (o : ℤ × Outstanding) (a : Outstanding) → bearer id t ≡ Some a → Idle (without id t) → o.1.last ≡ None → Idle (without id (t ++ o ∷ []))
idle-without_push id [] o a e idle l = absurd (none-some a e)
idle-without_push id (p ∷ t) o a e idle l = elim (int_eq id p.0) as (λ b. cond b (Some p.1) (bearer id t) ≡ Some a → Idle (cond b t (p ∷ without id t)) → Idle (cond b (t ++ o ∷ []) (p ∷ without id (t ++ o ∷ [])))) [
  | true ↦ λ h i. idle-push t o i l
  | false ↦ λ h i. (i.0, idle-without_push id t o a h i.1 l)
] e idle

-- what is written under an id doesn't matter to the others
pub without-noted : (id : ℤ) (w : Outstanding) (t : Table) → without id (set_value (int_eq id) t w) ≡ without id t
without-noted id w [] = refl
without-noted id w (o ∷ t) = by (int_eq id o.0) refl (without-noted id w t)
  where
    by : (b : Bool) → int_eq id o.0 ≡ b → without id (set_value (int_eq id) t w) ≡ without id t → without id (cond b ((o.0, w) ∷ t) (o ∷ set_value (int_eq id) t w)) ≡ cond b t (o ∷ without id t)
    by true same later = ap (λ (b : Bool). cond b t ((o.0, w) ∷ without id t)) same
    by false same later = ap (λ (b : Bool). cond b (set_value (int_eq id) t w) (o ∷ without id (set_value (int_eq id) t w))) same ∙ ap (λ (z : Table). o ∷ z) later

-- ---- no two calls have the same id

-- no call has a free id
pub no_bearer : (id : ℤ) (t : Table) → (Contains (ids t) id → ⊥) → bearer id t ≡ None
no_bearer id [] free = refl
no_bearer id (e ∷ t) free = by (int_eq id e.0) refl (no_bearer id t (λ c. free (suc c.0, omega (arith, c.1), c.2)))
  where
    by : (b : Bool) → int_eq id e.0 ≡ b → bearer id t ≡ None → cond b (Some e.1) (bearer id t) ≡ None
    by true eq rest = absurd (free (0, omega arith, sym (same_int id e.0 eq)))
    by false eq rest = rest

-- no call of the table has this id
abbrev NoneBears : ℤ → Table → Type 0
NoneBears id t = AllByRecursion (λ y. int_eq id y ≡ false) (ids t)

none_push : (id : ℤ) (t : Table) (o : ℤ × Outstanding) → int_eq id o.0 ≡ false → NoneBears id t → NoneBears id (t ++ o ∷ [])
none_push id [] o e n = (e, tt)
none_push id (p ∷ t) o e n = (n.0, none_push id t o e n.1)

none_without : (id other : ℤ) (t : Table) → NoneBears id t → NoneBears id (without other t)
none_without id other [] n = tt
none_without id other (o ∷ t) n = elim (int_eq other o.0) as (λ b. NoneBears id (cond b t (o ∷ without other t))) [ true ↦ n.1 | false ↦ (n.0, none_without id other t n.1) ]

-- a write leaves the ids as they are
pub ids-noted : (id : ℤ) (w : Outstanding) (t : Table) → ids (set_value (int_eq id) t w) ≡ ids t
ids-noted id w [] = refl
ids-noted id w (o ∷ t) = elim (int_eq id o.0) as (λ b. ids (cond b ((o.0, w) ∷ t) (o ∷ set_value (int_eq id) t w)) ≡ o.0 ∷ ids t) [
  | true ↦ refl
  | false ↦ ap (λ (is : List ℤ). o.0 ∷ is) (ids-noted id w t)
]

pub distinct-push : (t : Table) (o : ℤ × Outstanding) → IsDistinct int_eq (ids t) → (Contains (ids t) o.0 → ⊥) → IsDistinct int_eq (ids (t ++ o ∷ []))
unfolding IsDistinct
distinct-push [] o d free = (tt, tt)
distinct-push (p ∷ t) o d free =
    let apart : int_eq p.0 o.0 ≡ false = other_int p.0 o.0 (λ e. free (0, omega arith, e)) in
    (none_push p.0 t o apart d.0, distinct-push t o d.1 (λ c. free (suc c.0, omega (arith, c.1), c.2)))

pub distinct-without : (id : ℤ) (t : Table) → IsDistinct int_eq (ids t) → IsDistinct int_eq (ids (without id t))
unfolding IsDistinct
distinct-without id [] d = tt
distinct-without id (o ∷ t) d = elim (int_eq id o.0) as (λ b. IsDistinct int_eq (ids (cond b t (o ∷ without id t)))) [
  | true ↦ d.1
  | false ↦ (none_without o.0 id t d.0, distinct-without id t d.1)
]

pub distinct-noted : (id : ℤ) (w : Outstanding) (t : Table) → IsDistinct int_eq (ids t) → IsDistinct int_eq (ids (set_value (int_eq id) t w))
distinct-noted id w t d = rw (ids-noted id w t) d

-- the ids are distinct after a reply, too
pub distinct-reply : (t : Table) (o : ℤ × Outstanding) (part : ℤ) (more : Bool) → IsDistinct int_eq (ids t) → IsDistinct int_eq (ids (after_reply t o part more))
distinct-reply t o part true d = distinct-noted o.0 (after_part o.1 part) t d
distinct-reply t o part false d = distinct-without o.0 t d
