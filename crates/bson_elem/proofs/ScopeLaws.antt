-- A code and its scope, from what each step read.
use Rattle.std.proofs.Common.{◌≡◌, ℕ, ◌+◌, ◌-◌, ◌≤◌, List, length, take, Ok, Err, refl, arith}
use Rattle.std.specs.Prelude.{IsOk}
use Rattle.std.specs.Int.{w32, from_le_bytes}
use Rattle.std.proofs.lemmas.Bool.{le-ltb, eq-eqb}
use Rattle.bson_elem.specs.Trees.{Leaf, with_code}
use Rattle.bson_elem.specs.declared.kinds.Kind.{Kind}
use Rattle.bson_elem.specs.declared.kinds.Kind.TheVariants as kinds
use Rattle.bson_elem.specs.Kinds.{form_of}
use Rattle.bson_elem.specs.Checks.{◌>>=◌, Read, a_leaf, length_at, text_at, document_at, scope_at, leaf_at, told_at, value_at, opens}
use Rattle.bson_elem.specs.Items.{as_value}

pub scope_read : (p q : ℕ) (bytes : List ℕ) (total : ℕ) (a : List ℕ) (n : ℕ) (b words c body d : List ℕ) → length_at 14 bytes ≡ Ok (total, a) → total ≤ length bytes → length_at 1 a ≡ Ok (n, b) → n ≤ total - 13 → text_at (n - 1) b ≡ Ok (words, c) → from_le_bytes w32 (take 4 c) ≡ total - 8 - n → document_at p (q + 8 + n) c ≡ Ok (body, d) → scope_at p q bytes ≡ Ok (opens (q + 8 + n) (with_code words) body, d)
unfolding scope_at
scope_read p q bytes total a n b words c body d e0 long e1 room e2 same e3 =
    let t0 = le-ltb (length bytes) total long in
    let t1 = le-ltb (total - 13) n room in
    let t2 = eq-eqb _ _ same in
    rw (e0, t0, e1, t1, e2, t2, e3) refl

-- the same, where the checks are known to succeed
pub checked_scope : (p q : ℕ) (bytes : List ℕ) (total : ℕ) (a : List ℕ) (n : ℕ) (b words c body d : List ℕ) → IsOk (scope_at p q bytes) → length_at 14 bytes ≡ Ok (total, a) → length_at 1 a ≡ Ok (n, b) → text_at (n - 1) b ≡ Ok (words, c) → document_at p (q + 8 + n) c ≡ Ok (body, d) → scope_at p q bytes ≡ Ok (opens (q + 8 + n) (with_code words) body, d)
unfolding scope_at
checked_scope p q bytes total a n b words c body d ok e0 e1 e2 e3 = grind arith

part_bind : (p : ℕ) (r : Read Leaf) → (told_at p r >>= λ v. Ok (a_leaf v.0, v.1)) ≡ told_at p (as_value r)
part_bind p (Ok v) = refl
part_bind p (Err c) = refl

-- A value of a kind that holds no document is read as a leaf.
pub leaf_value_at : (depth p q : ℕ) (k : Kind) (bytes : List ℕ) → (k ≡ kinds.Document → ⊥) → (k ≡ kinds.Array → ⊥) → (k ≡ kinds.CodeWithScope → ⊥) → value_at depth p q (form_of k) bytes ≡ told_at p (as_value (leaf_at (form_of k) bytes))
unfolding value_at
leaf_value_at depth p q kinds.Document bytes a b c = absurd (a refl)
leaf_value_at depth p q kinds.Array bytes a b c = absurd (b refl)
leaf_value_at depth p q kinds.CodeWithScope bytes a b c = absurd (c refl)
leaf_value_at depth p q _ bytes a b c = part_bind p _

pub ruleset parts = (leaf_value_at)
