-- The table of outstanding calls: which of them has had a part, and what adding, changing and removing one does to that.
use Rattle.std.proofs.Common.{◌≡◌, inl, inr, ℕ, ◌≤◌, ℤ, Bool, true, false, cond, refl, sym, ap, ◌∙◌, List, [], ◌∷◌, ◌++◌, filter, length, Option, Some, None, is_some, Contains, get_or, take, zero, suc, ◌<◌, IsSome, length-append, arith}
use Rattle.std.proofs.lemmas.Bool.{false≢true}
use Rattle.std.proofs.Math.Seq.{take-append_seam}
use Rattle.std.proofs.lemmas.Bool.Decides.{Decides-int_eq}
use Rattle.std.specs.Map.{set_value}
use Rattle.std.specs.Ordering.{int_eq}
use Rattle.std.specs.Option.{option_to_list, unwrap_or}
use Rattle.indexmap.specs.IndexMap.{insert_entry}
use Rattle.wire_peer.specs.declared.call_table.Outstanding.{Outstanding}
use Rattle.wire_peer.specs.Begun.{IsAlone, IsBegun, NoneBegun, OneBegun}
use Rattle.wire_peer.specs.CallTables.{after_part, bearer, has_part, ids, stream, Table, without}
use Rattle.wire_peer.specs.FreeIds.{IsFirstFree}

same_int : (x y : ℤ) → int_eq x y ≡ true → x ≡ y
same_int x y e = grind (arith, Decides-int_eq x y)

eq_int : (x y : ℤ) → x ≡ y → int_eq x y ≡ true
eq_int x y e = grind (arith, Decides-int_eq x y)

pub none_of_some : {A : Type 0} (o : Option A) (x : A) → o ≡ None → o ≡ Some x → ⊥
none_of_some None x e f = grind arith
none_of_some (Some y) x e f = grind arith

pub some_inside : {A : Type 0} (x y : A) → Some x ≡ Some y → x ≡ y
some_inside {A = A} x y e = ap (λ (o : Option A). unwrap_or o x) e

-- ---- what is read

pub none_stream : (t : Table) → NoneBegun t → stream t ≡ None
none_stream [] n = refl
none_stream (e ∷ t) n = rw n.0 (none_stream t n.1)

pub one_stream : (id : ℤ) (o : Outstanding) (part : ℤ) (t : Table) → o.last ≡ Some part → OneBegun id o t → stream t ≡ Some (id, o)
one_stream id o part [] p n = absurd n
one_stream id o part (e ∷ t) p (inl h) = rw h.1 (rw p refl)
one_stream id o part (e ∷ t) p (inr h) = rw h.1 (one_stream id o part t p h.2)

pub one_bearer : (id : ℤ) (o : Outstanding) (t : Table) → OneBegun id o t → bearer id t ≡ Some o
one_bearer id o [] n = absurd n
one_bearer id o (e ∷ t) (inl h) = rw h.0 (ap (λ (x : ℤ × Outstanding). Some x.1) h.1)
one_bearer id o (e ∷ t) (inr h) = rw h.0 (one_bearer id o t h.2)

none_filter : (t : Table) → NoneBegun t → filter has_part t ≡ []
none_filter [] n = refl
none_filter (e ∷ t) n = rw n.0 (none_filter t n.1)

one_filter : (id : ℤ) (o : Outstanding) (t : Table) → OneBegun id o t → length (filter has_part t) ≤ 1
one_filter id o [] n = absurd n
one_filter id o (e ∷ t) (inl h) = by (has_part e)
  where
    by : (b : Bool) → length (cond b (e ∷ filter has_part t) (filter has_part t)) ≤ 1
    by true = omega (arith, ap length (none_filter t h.2))
    by false = omega (arith, ap length (none_filter t h.2))
one_filter id o (e ∷ t) (inr h) = rw h.1 (one_filter id o t h.2)

-- at most one call has had a part
pub begun_filter : (t : Table) (b : Option ℤ) → IsBegun t b → length (filter has_part t) ≤ 1
begun_filter t None n = omega (arith, ap length (none_filter t n))
begun_filter t (Some id) n = one_filter id n.0 t n.3

-- ---- a call more

none_push : (t : Table) (x : ℤ × Outstanding) → x.1.last ≡ None → NoneBegun t → NoneBegun (t ++ x ∷ [])
none_push [] x e n = (e, tt)
none_push (y ∷ t) x e n = (n.0, none_push t x e n.1)

one_push : (id : ℤ) (o : Outstanding) (t : Table) (x : ℤ × Outstanding) → x.1.last ≡ None → OneBegun id o t → OneBegun id o (t ++ x ∷ [])
one_push id o [] x e n = absurd n
one_push id o (y ∷ t) x e (inl h) = inl (h.0, h.1, none_push t x e h.2)
one_push id o (y ∷ t) x e (inr h) = inr (h.0, h.1, one_push id o t x e h.2)

pub begun_push : (t : Table) (x : ℤ × Outstanding) (b : Option ℤ) → x.1.last ≡ None → IsBegun t b → IsBegun (t ++ x ∷ []) b
begun_push t x None e n = none_push t x e n
begun_push t x (Some id) e n = (n.0, n.1, n.2, one_push id n.0 t x e n.3)

none_pop : (t : Table) (x : ℤ × Outstanding) → NoneBegun (t ++ x ∷ []) → NoneBegun t
none_pop [] x n = tt
none_pop (y ∷ t) x n = (n.0, none_pop t x n.1)

one_pop : (id : ℤ) (o : Outstanding) (part : ℤ) (t : Table) (x : ℤ × Outstanding) → o.last ≡ Some part → x.1.last ≡ None → OneBegun id o (t ++ x ∷ []) → OneBegun id o t
one_pop id o part [] x p e (inl h) = absurd (none_of_some x.1.last part e (ap (λ (y : ℤ × Outstanding). y.1.last) h.1 ∙ p))
one_pop id o part [] x p e (inr h) = absurd h.2
one_pop id o part (y ∷ t) x p e (inl h) = inl (h.0, h.1, none_pop t x h.2)
one_pop id o part (y ∷ t) x p e (inr h) = inr (h.0, h.1, one_pop id o part t x p e h.2)

-- the last call, which has had no part, goes
pub begun_pop : (t : Table) (x : ℤ × Outstanding) (b : Option ℤ) → x.1.last ≡ None → IsBegun (t ++ x ∷ []) b → IsBegun t b
begun_pop t x None e n = none_pop t x n
begun_pop t x (Some id) e n = (n.0, n.1, n.2, one_pop id n.0 n.1 t x n.2 e n.3)

-- ---- a part

none_part : (id : ℤ) (o w : Outstanding) (t : Table) → bearer id t ≡ Some o → NoneBegun t → OneBegun id w (set_value (int_eq id) t w)
none_part id o w [] is n = absurd (none_of_some None o refl is)
none_part id o w (e ∷ t) is n = by (int_eq id e.0) refl is (λ rest. none_part id o w t rest n.1)
  where
    by : (b : Bool) → int_eq id e.0 ≡ b → cond b (Some e.1) (bearer id t) ≡ Some o → (bearer id t ≡ Some o → OneBegun id w (set_value (int_eq id) t w))
        → OneBegun id w (cond b ((e.0, w) ∷ t) (e ∷ set_value (int_eq id) t w))
    by true eq _ _ = inl (eq, ap (λ (z : ℤ). (z, w)) (sym (same_int id e.0 eq)), n.1)
    by false eq rest later = inr (eq, n.0, later rest)

one_part : (id : ℤ) (o w : Outstanding) (t : Table) → OneBegun id o t → OneBegun id w (set_value (int_eq id) t w)
one_part id o w [] n = absurd n
one_part id o w (e ∷ t) (inl h) = rw h.0 (inl (h.0, ap (λ (x : ℤ × Outstanding). (x.0, w)) h.1, h.2))
one_part id o w (e ∷ t) (inr h) = rw h.0 (inr (h.0, h.1, one_part id o w t h.2))

-- a part came, and it is the one call that has had one
pub part_begun : (id : ℤ) (o : Outstanding) (part : ℤ) (t : Table) → IsAlone t id o → IsBegun (set_value (int_eq id) t (after_part o part)) (Some id)
part_begun id o part t (is, inl n) = (after_part o part, part, refl, none_part id o (after_part o part) t is n)
part_begun id o part t (is, inr n) = (after_part o part, part, refl, one_part id o (after_part o part) t n)

pub insert_present : (id : ℤ) (o w : Outstanding) (t : Table) → bearer id t ≡ Some o → insert_entry int_eq t id w ≡ set_value (int_eq id) t w
insert_present id o w [] is = absurd (none_of_some None o refl is)
insert_present id o w (e ∷ t) is = by (int_eq id e.0) is (insert_present id o w t)
  where
    by : (b : Bool) → cond b (Some e.1) (bearer id t) ≡ Some o → (bearer id t ≡ Some o → insert_entry int_eq t id w ≡ set_value (int_eq id) t w)
        → cond b ((e.0, w) ∷ t) (e ∷ insert_entry int_eq t id w) ≡ cond b ((e.0, w) ∷ t) (e ∷ set_value (int_eq id) t w)
    by true _ _ = refl
    by false rest later = ap (λ (u : Table). e ∷ u) (later rest)

-- ---- a call goes

none_without : (id : ℤ) (t : Table) → NoneBegun t → NoneBegun (without id t)
none_without id [] n = tt
none_without id (e ∷ t) n = by (int_eq id e.0) (none_without id t n.1)
  where
    by : (b : Bool) → NoneBegun (without id t) → NoneBegun (cond b t (e ∷ without id t))
    by true later = n.1
    by false later = (n.0, later)

one_without : (id : ℤ) (o : Outstanding) (t : Table) → OneBegun id o t → NoneBegun (without id t)
one_without id o [] n = absurd n
one_without id o (e ∷ t) (inl h) = rw h.0 h.2
one_without id o (e ∷ t) (inr h) = rw h.0 (h.1, one_without id o t h.2)

-- the last reply to the one call that has had a part, where there is one, came
pub without_begun : (id : ℤ) (o : Outstanding) (t : Table) → IsAlone t id o → NoneBegun (without id t)
without_begun id o t (is, inl n) = none_without id t n
without_begun id o t (is, inr n) = one_without id o t n

-- ---- a table that is given as the map tells it

pub insert_absent : (id : ℤ) (w : Outstanding) (t : Table) → bearer id t ≡ None → insert_entry int_eq t id w ≡ t ++ (id, w) ∷ []
insert_absent id w [] is = refl
insert_absent id w (e ∷ t) is = by (int_eq id e.0) is (insert_absent id w t)
  where
    by : (b : Bool) → cond b (Some e.1) (bearer id t) ≡ None → (bearer id t ≡ None → insert_entry int_eq t id w ≡ t ++ (id, w) ∷ [])
        → cond b ((e.0, w) ∷ t) (e ∷ insert_entry int_eq t id w) ≡ e ∷ (t ++ (id, w) ∷ [])
    by true none _ = absurd (none_of_some (Some e.1) e.1 none refl)
    by false rest later = ap (λ (u : Table). e ∷ u) (later rest)

pub popped : {X : Type 0} (r : Option X) (before new : List X) (last : X) → IsSome r → before ++ last ∷ [] ≡ new ++ option_to_list r → new ≡ before
popped None before new last some e = absurd (false≢true some)
popped (Some x) before new last some e = one_end before new last x e
  where
    one_end : {X : Type 0} (before new : List X) (last x : X) → before ++ last ∷ [] ≡ new ++ x ∷ [] → new ≡ before
    one_end before new last x e =
        let len : length new ≡ length before = omega (arith, ap length e, length-append before (last ∷ []), length-append new (x ∷ [])) in
        sym (take-append_seam new (x ∷ [])) ∙ ap (λ (n : ℕ). take n (new ++ x ∷ [])) len ∙ ap (take (length before)) (sym e) ∙ take-append_seam before (last ∷ [])

-- nobody bears the id, so the id itself is the first that is free
none_behind : {A : Type 0} (b : Bool) (x : A) (rest : Option A) → cond b (Some x) rest ≡ None → (b ≡ false) × (rest ≡ None)
none_behind true x rest e = absurd (none_of_some (Some x) x e refl)
none_behind false x rest e = (refl, e)

not_borne_at : (k : ℕ) (id : ℤ) (t : Table) → bearer id t ≡ None → k < length (ids t) → get_or (ids t) k id ≡ id → ⊥
not_borne_at k id [] none lt same = absurd (omega arith)
not_borne_at zero id (e ∷ t) none lt same =
    let n : (int_eq id e.0 ≡ false) × (bearer id t ≡ None) = none_behind (int_eq id e.0) e.1 (bearer id t) none in
    false≢true (sym n.0 ∙ eq_int id e.0 (sym same))
not_borne_at (suc k) id (e ∷ t) none lt same =
    let n : (int_eq id e.0 ≡ false) × (bearer id t ≡ None) = none_behind (int_eq id e.0) e.1 (bearer id t) none in
    not_borne_at k id t n.1 (omega arith) same

pub not_borne : (id : ℤ) (t : Table) → bearer id t ≡ None → Contains (ids t) id → ⊥
not_borne id t none c = not_borne_at c.0 id t none c.1 c.2

pub free_at_once : (id : ℤ) (t : Table) → bearer id t ≡ None → IsFirstFree id (ids t) id
free_at_once id t none = record { places = 0; is = refl; free = not_borne id t none; before = λ k lt. absurd (omega arith) }

-- an id that isn't among those of the table has no bearer
pub no_bearer : (id : ℤ) (t : Table) → (Contains (ids t) id → ⊥) → bearer id t ≡ None
no_bearer id [] free = refl
no_bearer id (e ∷ t) free = by (int_eq id e.0) refl (no_bearer id t (λ c. free (suc c.0, omega (arith, c.1), c.2)))
  where
    by : (b : Bool) → int_eq id e.0 ≡ b → bearer id t ≡ None → cond b (Some e.1) (bearer id t) ≡ None
    by true eq rest = absurd (free (0, omega arith, sym (same_int id e.0 eq)))
    by false eq rest = rest

pub none_told : {A : Type 0} (o : Option A) → is_some o ≡ false → o ≡ None
none_told None e = refl
none_told (Some x) e = absurd (false≢true (sym e))
