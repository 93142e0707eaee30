-- Ids, and the places where they stand.
use Rattle.std.proofs.Common.{◌≡◌, ℕ, zero, suc, ◌+◌, ◌-◌, ◌<◌, ◌≤◌, ◌^◌, ℤ, sym, pos, ap, ◌∙◌, arith, subst, List, Contains}
use Rattle.std.proofs.Math.Decide.{dec_lt}
use Rattle.wire_peer.specs.FreeIds.{IsFirstFree, id_following, id_past}

-- one id after another, up to the greatest
pub id_after_next : (n : ℕ) → n < 2 ^ 31 - 1 → id_following (pos n) ≡ pos (n + 1)
id_after_next n lt = grind arith

pub id_after_last : (n : ℕ) → n ≡ 2 ^ 31 - 1 → id_following (pos n) ≡ pos 1
id_after_last n e = grind arith

-- before the greatest id the places count up
pub id_past_low : (n k : ℕ) → n + k < 2 ^ 31 → id_past (pos n) k ≡ pos (n + k)
id_past_low n zero lt = ap pos (omega arith)
id_past_low n (suc k) lt = ap id_following (id_past_low n k (omega arith)) ∙ id_after_next (n + k) (omega arith) ∙ ap pos (omega arith)

-- behind it they begin at 1 again
pub id_past_high : (n k : ℕ) → n < 2 ^ 31 → k < 2 ^ 31 → 2 ^ 31 ≤ n + k → id_past (pos n) k ≡ pos (n + k - (2 ^ 31 - 1))
id_past_high n zero m l le = absurd (omega arith)
id_past_high n (suc k) m l le =
    elim (dec_lt (n + k) (2 ^ 31)) [
      | yes q ↦ ap id_following (id_past_low n k q) ∙ id_after_last (n + k) (omega arith) ∙ ap pos (omega arith)
      | no q ↦ ap id_following (id_past_high n k m (omega arith) (omega arith)) ∙ id_after_next (n + k - (2 ^ 31 - 1)) (omega arith) ∙ ap pos (omega arith)
    ]

pos_inside : (m n : ℕ) → pos m ≡ pos n → m ≡ n
pos_inside m n e = grind arith

-- of all places below the number of ids just one has an id
pub one_place : (n m j k : ℕ) → n < 2 ^ 31 → j < 2 ^ 31 - 1 → k < 2 ^ 31 - 1 → pos m ≡ id_past (pos n) j → pos m ≡ id_past (pos n) k → 1 ≤ n → j ≡ k
one_place n m j k l a b e f g =
    elim (dec_lt (n + j) (2 ^ 31)) [
      | yes p ↦ elim (dec_lt (n + k) (2 ^ 31)) [
        | yes q ↦ omega (arith, pos_inside _ _ (e ∙ id_past_low n j p), pos_inside _ _ (f ∙ id_past_low n k q))
        | no q ↦ omega (arith, pos_inside _ _ (e ∙ id_past_low n j p), pos_inside _ _ (f ∙ id_past_high n k l (omega arith) (omega arith)))
      ]
      | no p ↦ elim (dec_lt (n + k) (2 ^ 31)) [
        | yes q ↦ omega (arith, pos_inside _ _ (e ∙ id_past_high n j l (omega arith) (omega arith)), pos_inside _ _ (f ∙ id_past_low n k q))
        | no q ↦ omega (arith, pos_inside _ _ (e ∙ id_past_high n j l (omega arith) (omega arith)), pos_inside _ _ (f ∙ id_past_high n k l (omega arith) (omega arith)))
      ]
    ]

-- the ids are from 1 to the greatest
pub id_past_range : (n k : ℕ) → 1 ≤ n → n < 2 ^ 31 → k < 2 ^ 31 → (m : ℕ) × (id_past (pos n) k ≡ pos m) × (1 ≤ m) × (m < 2 ^ 31)
id_past_range n k g l a =
    elim (dec_lt (n + k) (2 ^ 31)) [
      | yes q ↦ (n + k, id_past_low n k q, omega arith, q)
      | no q ↦ (n + k - (2 ^ 31 - 1), id_past_high n k l a (omega arith), omega arith, omega arith)
    ]

-- an id that comes first isn't free before another one that does
not_later : (next a b : ℤ) (used : List ℤ) (f : IsFirstFree next used a) (g : IsFirstFree next used b) → f.places < g.places → ⊥
not_later next a b used f g lt = f.free (subst (Contains used) (sym f.is) (g.before f.places lt))

-- there is one first free id
pub one_first_free : (next a b : ℤ) (used : List ℤ) → IsFirstFree next used a → IsFirstFree next used b → a ≡ b
one_first_free next a b used f g =
    elim (dec_lt f.places g.places) [
      | yes p ↦ absurd (not_later next a b used f g p)
      | no p ↦ elim (dec_lt g.places f.places) [
        | yes q ↦ absurd (not_later next b a used g f q)
        | no q ↦ let same : f.places ≡ g.places = omega arith in f.is ∙ ap (id_past next) same ∙ sym g.is
      ]
    ]
