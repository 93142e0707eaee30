-- Names that are put into a set.
use Rattle.std.proofs.Common.{◌≡◌, ℕ, ◌||◌, ◌&&◌, List, [], ◌∷◌, map, refl, String, string_bytes, nat_eq}
use Rattle.std.specs.declared.alloc.Global.{Global}
use Rattle.std.specs.List.{list_any}
use Rattle.std.specs.Str.{bytes_eq}
use Rattle.std.proofs.lemmas.Bool.Decides.{nat_tests}
use Rattle.std.proofs.Common.{arith}
use Rattle.bson_raw.specs.Pairs.{is_among}

nat_eq-sym : (x y : ℕ) → nat_eq x y ≡ nat_eq y x
nat_eq-sym x y = grind (arith, nat_tests)

pub bytes_eq-sym : (xs ys : List ℕ) → bytes_eq xs ys ≡ bytes_eq ys xs
bytes_eq-sym [] [] = refl
bytes_eq-sym [] (y ∷ ys) = refl
bytes_eq-sym (x ∷ xs) [] = refl
bytes_eq-sym (x ∷ xs) (y ∷ ys) = λ i. nat_eq-sym x y i && bytes_eq-sym xs ys i

-- whether the set has the name
pub among_keys : (n : List ℕ) (ks : List (String Global)) → list_any (λ k. bytes_eq n (string_bytes k)) ks ≡ is_among n (map string_bytes ks)
among_keys n [] = refl
among_keys n (x ∷ xs) = λ i. bytes_eq-sym n (string_bytes x) i || among_keys n xs i
