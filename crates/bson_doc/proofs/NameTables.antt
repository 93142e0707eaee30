-- A table of names, as one more name comes, and as one is looked for in its slot, from the last name there to those before.
use Rattle.std.proofs.Common.{◌≡◌, ℕ, ◌+◌, ◌<◌, ◌≤◌, List, [], ◌∷◌, ◌++◌, None, length, map, get_or, sym, ap, ◌∙◌, arith, String, string_bytes, ◌⊎◌, inl, inr}
use Rattle.std.specs.declared.alloc.Global.{Global}
use Rattle.std.proofs.lemmas.Bool.{cases_lt, cases_eq}
use Rattle.std.proofs.lemmas.List.{get_or-map, get_or_append_left, get_or_push, length-map, map-append}
use Rattle.bson_doc.specs.NameSlots.{IsLast, HasNames, slot_of}
use Rattle.bson_doc.specs.NameList.{index_of}
use Rattle.bson_doc.proofs.NameLists.{absent_index, nowhere_any}

abbrev Names : Type 0
Names = List (String Global)

-- ---- one more name

last_grown : (slots slot count : ℕ) (names more : List (List ℕ)) (last : ℕ) → count ≤ length names → IsLast slots slot count names last → IsLast slots slot count (names ++ more) last
last_grown slots slot count names more last le h = record {
  within = h.within;
  there = λ i e. let short : i < length names = omega (arith, e, h.within, le) in rw (get_or_append_left names more [] i short) (h.there i e);
  none_behind = λ i from less e.
      let short : i < length names = omega (arith, less, le) in
      h.none_behind i from less (ap (slot_of slots) (sym (get_or_append_left names more [] i short)) ∙ e);
}

has_grown : (slots count : ℕ) (last before : List ℕ) (names more : List (List ℕ)) → count ≤ length names → HasNames slots last before count names → HasNames slots last before count (names ++ more)
has_grown slots count last before names more le h = record {
  room = h.room;
  lasts = λ s lt. last_grown slots s count names more (get_or last s 0) le (h.lasts s lt);
  befores = λ i lt.
      let short : i < length names = omega (arith, lt, le) in
      rw (get_or_append_left names more [] i short)
      (last_grown slots (slot_of slots (get_or names i [])) i names more (get_or before i 0) (omega (arith, short)) (h.befores i lt));
}

-- the table has the names before one more
pub behind_them : (slots : ℕ) (last before : List ℕ) (ks : Names) (k : String Global) → HasNames slots last before (length ks) (map string_bytes ks) → HasNames slots last before (length ks) (map string_bytes (ks ++ k ∷ []))
behind_them slots last before ks k h =
    rw (map-append string_bytes ks (k ∷ []))
    (has_grown slots (length ks) last before (map string_bytes ks) (string_bytes k ∷ []) (omega (arith, length-map ks string_bytes)) h)

pub at_end : (ks : Names) (k : String Global) → get_or (map string_bytes (ks ++ k ∷ [])) (length ks) [] ≡ string_bytes k
at_end ks k = rw (map-append string_bytes ks (k ∷ [])) (get_or_push (map string_bytes ks) (string_bytes k) [] (length ks) (length-map ks string_bytes))

-- ---- the way through a slot

-- the name that was read at an index
pub name_at : (ks : Names) (i : ℕ) (k : String Global) → i < length ks → k ≡ get_or ks i k → get_or (map string_bytes ks) i [] ≡ string_bytes k
name_at ks i k lt e = get_or-map string_bytes ks i k [] lt ∙ ap string_bytes (sym e)

-- `last` is 0, or one more than the index of a name in the slot; and the name that is looked for is none of those behind.
pub record Rest (slots slot : ℕ) (ks : Names) (q : List ℕ) (last : ℕ) : Type 0 where
  pub within : last ≤ length ks
  pub there : (i : ℕ) → last ≡ i + 1 → slot_of slots (get_or (map string_bytes ks) i []) ≡ slot
  pub others : (i : ℕ) → last ≤ i → i < length ks → get_or (map string_bytes ks) i [] ≡ q → ⊥

-- the name at `i` is another one
pub walk_on : (slots slot : ℕ) (last before : List ℕ) (ks : Names) (q : List ℕ) (from i : ℕ) → HasNames slots last before (length ks) (map string_bytes ks) → slot ≡ slot_of slots q → Rest slots slot ks q from → from ≡ i + 1
    → (get_or (map string_bytes ks) i [] ≡ q → ⊥) → Rest slots slot ks q (get_or before i 0)
walk_on slots slot last before ks q from i h here w e differs = record {
  within = omega (arith, chain.within, w.within, e);
  there = λ j f. chain.there j f ∙ w.there i e;
  others = λ j le less is. other j le less is (cases_lt j i) (cases_eq j i);
}
  where
    short : i < length ks
    short = omega (arith, w.within, e)

    chain : IsLast slots (slot_of slots (get_or (map string_bytes ks) i [])) i (map string_bytes ks) (get_or before i 0)
    chain = h.befores i short

    other : (j : ℕ) → get_or before i 0 ≤ j → j < length ks → get_or (map string_bytes ks) j [] ≡ q → (j < i) ⊎ (i ≤ j) → (j ≡ i) ⊎ (j ≡ i → ⊥) → ⊥
    other j le less is (inl lt) same = chain.none_behind j le lt (ap (slot_of slots) is ∙ sym here ∙ sym (w.there i e))
    other j le less is (inr ge) (inl same) = differs (ap (λ (n : ℕ). get_or (map string_bytes ks) n []) (sym same) ∙ is)
    other j le less is (inr ge) (inr apart) = w.others j (omega (arith, ge, apart, e)) less is

-- no name of the slot is left
pub nowhere : (slots slot : ℕ) (ks : Names) (q : List ℕ) (from : ℕ) → Rest slots slot ks q from → from ≡ 0 → index_of q ks ≡ None
nowhere slots slot ks q from w e = absent_index q ks (nowhere_any q ks (λ i less is. w.others i (omega (arith, e)) less is))
