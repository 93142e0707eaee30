-- Lists of connections, by their numbers, and of records.
use Rattle.std.proofs.Common.{◌≡◌, ℕ, zero, suc, ◌+◌, ◌-◌, ◌<◌, List, [], ◌∷◌, ◌++◌, length, map, get_or, take, drop, ap, refl, sym, ◌∙◌, arith}
use Rattle.std.specs.Prelude.{slice_get, slice_set}
use Rattle.std.proofs.lemmas.List.{length-map, map-set}
use Rattle.std.proofs.lemmas.List.Edits.{map_over_more}
use Rattle.std.proofs.Math.ListN as math
use Rattle.wire_model.specs.{Conn, all_cut, conn_at, conn_set, cut_at}

-- a loop that writes over each element, with one more element written
pub values_over_more : {A B : Type 0} (g : A → B) (f : B → B) (xs items : List A) (i : ℕ) (x new : A) → i < length xs → x ≡ get_or items i x
    → map g items ≡ map f (take i (map g xs)) ++ drop i (map g xs) → g new ≡ f (g x) → map g (slice_set items i new) ≡ map f (take (i + 1) (map g xs)) ++ drop (i + 1) (map g xs)
values_over_more g f xs items i x new lt at so is =
    let within : i < length (map g xs) = rw (length-map xs g) lt in
    map-set g items i new ∙ ap (λ y. slice_set (map g items) i y) is
    ∙ map_over_more f (map g xs) (map g items) i (g x) within so (ap g at ∙ sym (math.get_or-map g items i x))

-- ---- connections by their numbers

pub conn_at_place : (ks : List Conn) (c : ℕ) → 0 < c → conn_at ks c ≡ slice_get ks (c - 1)
conn_at_place ks zero lt = absurd (omega arith)
conn_at_place ks (suc i) lt = let e : suc i - 1 ≡ i = omega arith in rw e refl

pub conn_set_place : (ks : List Conn) (c : ℕ) (k : Conn) → 0 < c → conn_set ks c k ≡ slice_set ks (c - 1) k
conn_set_place ks zero k lt = absurd (omega arith)
conn_set_place ks (suc i) k lt = let e : suc i - 1 ≡ i = omega arith in rw e refl

-- one more number of a list of them
pub all_cut_more : {A : Type 0} (f : A → ℕ) (xs : List A) (x : A) (ks : List Conn) → cut_at (f x) (all_cut (map f xs) ks) ≡ all_cut (map f (xs ++ x ∷ [])) ks
all_cut_more f [] x ks = refl
all_cut_more f (y ∷ xs) x ks = all_cut_more f xs x (cut_at (f y) ks)
