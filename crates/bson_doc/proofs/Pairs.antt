-- The index of a name, and the pair there.
use Rattle.std.proofs.Common.{◌≡◌, ℕ, suc, ◌+◌, ◌<◌, ◌≤◌, List, [], ◌∷◌, ◌++◌, length, map, get_or, set, refl, ap, arith, Some, None, true, false, cond, not, String, string_bytes}
use Rattle.std.specs.declared.alloc.Global.{Global}
use Rattle.std.specs.Prelude.{bytes_eq, remove, position, nat_lt}
use Rattle.std.proofs.lemmas.Grind.{common_steps}
use Rattle.std.specs.List.{position_or_len, AllZip}
use Rattle.std.proofs.lemmas.List.Edits.{length-remove}
use Rattle.bson_doc.specs.declared.bson_values.Bson.{Bson}
use Rattle.bson_raw.specs.Pairs.{TreeValue}
use Rattle.bson_doc.specs.Bson.{value_of}
use Rattle.bson_doc.specs.Document.{paired, value_named, put, without}

abbrev index_of : List ℕ → List (String Global) → ℕ
index_of name ks = position_or_len (λ k. bytes_eq name (string_bytes k)) ks

abbrev seen : List (String Global) → List Bson → List (List ℕ × TreeValue)
seen ks vs = paired (map string_bytes ks) (map value_of vs)

pub length-seen : (ks : List (String Global)) (vs : List Bson) → length ks ≡ length vs → length (seen ks vs) ≡ length vs
length-seen [] [] e = refl
length-seen [] (v ∷ vs) e = absurd (omega arith)
length-seen (k ∷ ks) [] e = absurd (omega arith)
length-seen (k ∷ ks) (v ∷ vs) e = ap suc (length-seen ks vs (omega arith))

index_of-cons : (name : List ℕ) (k : String Global) (ks : List (String Global)) → index_of name (k ∷ ks) ≡ cond (bytes_eq name (string_bytes k)) 0 (suc (index_of name ks))
index_of-cons name k ks = elim (bytes_eq name (string_bytes k)) as (λ b. cond (not b) (1 + index_of name ks) 0 ≡ cond b 0 (suc (index_of name ks))) [ true ↦ refl | false ↦ omega arith ]

-- a name that has an index
pub value_there : (name : List ℕ) (ks : List (String Global)) (vs : List Bson) (d : Bson) → length ks ≡ length vs → index_of name ks < length ks
    → value_named name (seen ks vs) ≡ Some (value_of (get_or vs (index_of name ks) d))
value_there name [] vs d e h = absurd (omega arith)
value_there name (k ∷ ks) [] d e h = absurd (omega arith)
value_there name (k ∷ ks) (v ∷ vs) d e h =
    rw (index_of-cons name k ks) ((elim (bytes_eq name (string_bytes k)) as (λ b. cond b 0 (suc (index_of name ks)) < suc (length ks)
    → cond b (Some (value_of v)) (value_named name (seen ks vs)) ≡ Some (value_of (get_or (v ∷ vs) (cond b 0 (suc (index_of name ks))) d)))
    [ true ↦ λ _. refl | false ↦ λ lt. value_there name ks vs d (omega arith) (omega arith) ]) (rw (index_of-cons name k ks) at h))

-- a name that has none
pub value_nowhere : (name : List ℕ) (ks : List (String Global)) (vs : List Bson) → index_of name ks ≡ length ks → value_named name (seen ks vs) ≡ None
value_nowhere name [] vs h = refl
value_nowhere name (k ∷ ks) [] h = refl
value_nowhere name (k ∷ ks) (v ∷ vs) h =
    (elim (bytes_eq name (string_bytes k)) as (λ b. cond b 0 (suc (index_of name ks)) ≡ suc (length ks)
    → cond b (Some (value_of v)) (value_named name (seen ks vs)) ≡ None)
    [ true ↦ λ q. absurd (omega arith) | false ↦ λ q. value_nowhere name ks vs (omega arith) ]) (rw (index_of-cons name k ks) at h)

-- a value put where its name stands
pub put_there : (name : List ℕ) (ks : List (String Global)) (vs : List Bson) (v' : Bson) → length ks ≡ length vs → index_of name ks < length ks
    → seen ks (set vs (index_of name ks) v') ≡ put name (value_of v') (seen ks vs)
put_there name [] vs v' e h = absurd (omega arith)
put_there name (k ∷ ks) [] v' e h = absurd (omega arith)
put_there name (k ∷ ks) (v ∷ vs) v' e h =
    rw (index_of-cons name k ks) ((elim (bytes_eq name (string_bytes k)) as (λ b. cond b 0 (suc (index_of name ks)) < suc (length ks)
    → seen (k ∷ ks) (set (v ∷ vs) (cond b 0 (suc (index_of name ks))) v') ≡ cond b ((string_bytes k, value_of v') ∷ seen ks vs) ((string_bytes k, value_of v) ∷ put name (value_of v') (seen ks vs)))
    [ true ↦ λ _. refl | false ↦ λ lt. ap (λ q. (string_bytes k, value_of v) ∷ q) (put_there name ks vs v' (omega arith) (omega arith)) ]) (rw (index_of-cons name k ks) at h))

-- a value put last, whose name is new
pub put_last : (name : String Global) (ks : List (String Global)) (vs : List Bson) (v' : Bson) → length ks ≡ length vs → index_of (string_bytes name) ks ≡ length ks
    → seen (ks ++ name ∷ []) (vs ++ v' ∷ []) ≡ put (string_bytes name) (value_of v') (seen ks vs)
put_last name [] [] v' e h = refl
put_last name [] (v ∷ vs) v' e h = absurd (omega arith)
put_last name (k ∷ ks) [] v' e h = absurd (omega arith)
put_last name (k ∷ ks) (v ∷ vs) v' e h =
    (elim (bytes_eq (string_bytes name) (string_bytes k)) as (λ b. cond b 0 (suc (index_of (string_bytes name) ks)) ≡ suc (length ks)
    → seen ((k ∷ ks) ++ name ∷ []) ((v ∷ vs) ++ v' ∷ []) ≡ cond b ((string_bytes k, value_of v') ∷ seen ks vs) ((string_bytes k, value_of v) ∷ put (string_bytes name) (value_of v') (seen ks vs)))
    [ true ↦ λ q. absurd (omega arith) | false ↦ λ q. ap (λ r. (string_bytes k, value_of v) ∷ r) (put_last name ks vs v' (omega arith) (omega arith)) ]) (rw (index_of-cons (string_bytes name) k ks) at h)

-- a name taken out
pub taken_out : (name : List ℕ) (ks : List (String Global)) (vs : List Bson) → length ks ≡ length vs → index_of name ks < length ks
    → seen (remove ks (index_of name ks)) (remove vs (index_of name ks)) ≡ without name (seen ks vs)
taken_out name [] vs e h = absurd (omega arith)
taken_out name (k ∷ ks) [] e h = absurd (omega arith)
taken_out name (k ∷ ks) (v ∷ vs) e h =
    rw (index_of-cons name k ks) ((elim (bytes_eq name (string_bytes k)) as (λ b. cond b 0 (suc (index_of name ks)) < suc (length ks)
    → seen (remove (k ∷ ks) (cond b 0 (suc (index_of name ks)))) (remove (v ∷ vs) (cond b 0 (suc (index_of name ks)))) ≡ cond b (seen ks vs) ((string_bytes k, value_of v) ∷ without name (seen ks vs)))
    [ true ↦ λ _. refl | false ↦ λ lt. ap (λ q. (string_bytes k, value_of v) ∷ q) (taken_out name ks vs (omega arith) (omega arith)) ]) (rw (index_of-cons name k ks) at h))

found_by : (p n i : ℕ) → cond (nat_lt p n) (Some p) None ≡ Some i → (p ≡ i) × (p < n)
found_by p n i e = (grind (arith, common_steps), grind (arith, common_steps))

absent_by : (p n : ℕ) → p ≤ n → cond (nat_lt p n) (Some p) None ≡ None → p ≡ n
absent_by p n le e = grind (arith, common_steps)

index_of-le : (name : List ℕ) (ks : List (String Global)) → index_of name ks ≤ length ks
index_of-le name [] = omega arith
index_of-le name (k ∷ ks) = rw (index_of-cons name k ks) ((elim (bytes_eq name (string_bytes k)) as (λ b. cond b 0 (suc (index_of name ks)) ≤ suc (length ks)) [ true ↦ omega arith | false ↦ (let l = index_of-le name ks in omega arith) ]))

-- what a search for a name found
pub index_found : (name : List ℕ) (ks : List (String Global)) (i : ℕ) → position (λ k. bytes_eq name (string_bytes k)) ks ≡ Some i → (index_of name ks ≡ i) × (index_of name ks < length ks)
index_found name ks i e = found_by (index_of name ks) (length ks) i e

pub index_absent : (name : List ℕ) (ks : List (String Global)) → position (λ k. bytes_eq name (string_bytes k)) ks ≡ None → index_of name ks ≡ length ks
index_absent name ks e = absent_by (index_of name ks) (length ks) (index_of-le name ks) e

-- nothing is taken out where the name has no index_of
pub nothing_out : (name : List ℕ) (ks : List (String Global)) (vs : List Bson) → index_of name ks ≡ length ks → without name (seen ks vs) ≡ seen ks vs
nothing_out name [] vs h = refl
nothing_out name (k ∷ ks) [] h = refl
nothing_out name (k ∷ ks) (v ∷ vs) h =
    (elim (bytes_eq name (string_bytes k)) as (λ b. cond b 0 (suc (index_of name ks)) ≡ suc (length ks)
    → cond b (seen ks vs) ((string_bytes k, value_of v) ∷ without name (seen ks vs)) ≡ seen (k ∷ ks) (v ∷ vs))
    [ true ↦ λ q. absurd (omega arith) | false ↦ λ q. ap (λ r. (string_bytes k, value_of v) ∷ r) (nothing_out name ks vs (omega arith)) ]) (rw (index_of-cons name k ks) at h)

-- names and values stay as many
pub both_removed : {A B : Type 0} (ks : List A) (vs : List B) (i : ℕ) → length ks ≡ length vs → i < length vs → length (remove ks i) ≡ length (remove vs i)
both_removed ks vs i e h = omega (arith, length-remove ks i (omega arith), length-remove vs i h)

-- copies of names are the same bytes
pub names_copied : (ks copies : List (String Global)) → AllZip (λ s t. string_bytes t ≡ string_bytes s) ks copies → map string_bytes copies ≡ map string_bytes ks
names_copied [] [] h = refl
names_copied [] (m ∷ ms) h = absurd h
names_copied (k ∷ ks) [] h = absurd h
names_copied (k ∷ ks) (m ∷ ms) h = λ i. h.0 i ∷ names_copied ks ms h.1 i
