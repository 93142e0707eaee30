-- The answers that count, and the bytes of one.
use Rattle.std.proofs.Common.{◌≡◌, ℕ, zero, suc, ◌+◌, ◌<◌, [], ◌∷◌, ◌++◌, refl, ap, sym, ◌∙◌, arith}
use lib.Utf8.{encode}
use Rattle.std.specs.Prelude.{IsUtf8, codes, pos, get_or}
use Rattle.std.specs.Int.{w32, to_le_bytes}
use Rattle.std.proofs.lemmas.Nat.{le_bytes_4}
use Rattle.bson_elem.specs.declared.kinds.Kind.TheVariants.{Int32}
use Rattle.bson_elem.specs.{Spells, Tree, leaf_pair, no_pairs, number_value}
use Rattle.wire_peer.specs.Counting.{numbered, numbers_from}

abbrev pub one_pair : ℕ → Tree
one_pair k = leaf_pair (codes "n") Int32 (number_value (pos k)) no_pairs

four : (k : ℕ) → k < 256 → to_le_bytes w32 k ≡ k ∷ 0 ∷ 0 ∷ 0 ∷ []
four k small = le_bytes_4 (k ∷ 0 ∷ 0 ∷ 0 ∷ []) k refl below (omega arith)
  where
    below : (i : ℕ) → get_or (k ∷ 0 ∷ 0 ∷ 0 ∷ []) i 0 < 256
    below zero = small
    below (suc zero) = omega arith
    below (suc (suc zero)) = omega arith
    below (suc (suc (suc zero))) = omega arith
    below (suc (suc (suc (suc i)))) = omega arith

named : IsUtf8 (codes "n")
unfolding encode
named = (110 ∷ [], (refl, refl))

pub one_pair_spelled : (k : ℕ) → k < 256 → Spells (one_pair k) (12 ∷ 0 ∷ 0 ∷ 0 ∷ 16 ∷ 110 ∷ 0 ∷ k ∷ 0 ∷ 0 ∷ 0 ∷ 0 ∷ [])
one_pair_spelled k small = record {
  parts = ap (λ bs. 12 ∷ 0 ∷ 0 ∷ 0 ∷ 16 ∷ 110 ∷ 0 ∷ (bs ++ 0 ∷ [])) (sym (four k small));
  short = omega arith;
  fits = (record { is_text = named; no_zero = (omega arith, tt) }, record { sfits = omega (arith, small) }, tt);
}

-- one more number
pub numbers_from-push : (k count : ℕ) → numbers_from k (count + 1) ≡ numbers_from k count ++ numbered (k + count) ∷ []
numbers_from-push k zero = ap (λ n. numbered n ∷ []) (omega arith)
numbers_from-push k (suc count) =
    let long : suc count + 1 ≡ suc (count + 1) = omega arith in
    let next : (k + 1) + count ≡ k + suc count = omega arith in
    ap (numbers_from k) long ∙ ap (λ ns. numbered k ∷ ns) (numbers_from-push (k + 1) count ∙ ap (λ n. numbers_from (k + 1) count ++ numbered n ∷ []) next)
