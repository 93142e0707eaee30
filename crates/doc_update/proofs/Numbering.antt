-- The numbers of ids that are made.
use Rattle.std.proofs.Common.{◌≡◌, ℕ, suc, ◌+◌, ◌-◌, ◌<◌, Bool, true, false, ◌||◌, List, Some, refl, ap, ◌∙◌, arith}
use Rattle.std.specs.Prelude.{if◌then◌else◌}
use Rattle.bson_raw.specs.{TreeValue}
use Rattle.doc_update.specs.Identity.{free_from, is_taken, made_id}

-- one of the documents has the `_id` of this number
abbrev pub taken : ℕ → List TreeValue → List TreeValue → Bool
taken n vs ws = is_taken (Some (made_id n)) vs || is_taken (Some (made_id n)) ws

at_next : (b : Bool) (x y : ℕ) → b ≡ true → (if b then x else y) ≡ x
at_next true x y e = refl
at_next false x y e = absurd cc

at_this : (b : Bool) (x y : ℕ) → b ≡ false → (if b then x else y) ≡ y
at_this true x y e = absurd cc
at_this false x y e = refl

pub past_taken : (left i n : ℕ) (vs ws : List TreeValue) → i < left → taken n vs ws ≡ true → free_from (left - i) n vs ws ≡ free_from (left - (i + 1)) (n + 1) vs ws
past_taken left i n vs ws lt is =
    let more : left - i ≡ suc (left - (i + 1)) = omega arith in
    ap (λ (k : ℕ). free_from k n vs ws) more ∙ at_next (taken n vs ws) (free_from (left - (i + 1)) (n + 1) vs ws) n is

pub at_free : (left i n : ℕ) (vs ws : List TreeValue) → i < left → taken n vs ws ≡ false → free_from (left - i) n vs ws ≡ n
at_free left i n vs ws lt is =
    let more : left - i ≡ suc (left - (i + 1)) = omega arith in
    ap (λ (k : ℕ). free_from k n vs ws) more ∙ at_this (taken n vs ws) (free_from (left - (i + 1)) (n + 1) vs ws) n is

pub none_left : (left i n : ℕ) (vs ws : List TreeValue) → left - i ≡ 0 → free_from (left - i) n vs ws ≡ n
none_left left i n vs ws is = ap (λ (k : ℕ). free_from k n vs ws) is

-- a value that is the `_id` of a number is taken where that is
pub taken_by : (v : TreeValue) (n : ℕ) (vs ws : List TreeValue) → v ≡ made_id n → (is_taken (Some v) vs || is_taken (Some v) ws) ≡ (is_taken (Some (made_id n)) vs || is_taken (Some (made_id n)) ws)
taken_by v n vs ws e = ap (λ (w : TreeValue). is_taken (Some w) vs || is_taken (Some w) ws) e
