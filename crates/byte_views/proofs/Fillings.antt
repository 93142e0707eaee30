-- Pairs whose value is written after the name.
use Rattle.std.proofs.Common.{◌≡◌, ◌≢◌, ℕ, ◌-◌, List, length, refl, sym, ap, ◌∙◌}
use Rattle.std.specs.Prelude.{Some, if◌then◌else◌, nat_eq}
use Rattle.std.proofs.lemmas.Bool.{ne_eqb}
use Rattle.bson_elem.specs.declared.kinds.Kind.{Kind}
use Rattle.bson_elem.specs.Kinds.{kind_of}
use Rattle.byte_views.specs.declared.build.builder.Builder.{Builder}
use Rattle.byte_views.specs.declared.build.built.Built.{Built}
use Rattle.byte_views.specs.declared.build.given.ValueNumbers.{ValueNumbers}
use Rattle.byte_views.specs.Appends.{IsAppended, is_named, no_value}
use Rattle.byte_views.specs.Builders.{IsInRange}
use Rattle.byte_views.specs.BuildFilling.{IsLeafPushed, filled, is_leaf, no_leaf}
use Rattle.byte_views.specs.Placing.{placed}

-- the value is written, or nothing is
pub filled_put : (w : Built) (after : Builder) (value room new : List ℕ) (len : ℕ) → w.refusal ≡ 0 → len ≡ length value → new ≡ placed (after.end - len) value room → filled w after value room ≡ new
filled_put w after value room new len none len-is is =
    ap (λ (n : ℕ). if nat_eq n 0 then placed (after.end - length value) value room else room) none ∙ ap (λ (n : ℕ). placed (after.end - n) value room) (sym len-is) ∙ sym is

pub not_filled : (w : Built) (after : Builder) (value room : List ℕ) → w.refusal ≢ 0 → filled w after value room ≡ room
not_filled w after value room some = rw (ne_eqb w.refusal 0 some) refl

-- a leaf that is put, or isn't one, of a kind that is known
pub appends_as : (room new : List ℕ) (b after : Builder) (k : Kind) (name text rest : List ℕ) (n : ValueNumbers) (w : Built) → IsInRange b → kind_of n.kind ≡ Some k → IsLeafPushed room b k name n text rest new after w
    → IsAppended room b name n text rest new after w
appends_as room new b after k name text rest n w range known (is_leaf fits pushed) = is_named k range known fits pushed
appends_as room new b after k name text rest n w range known (no_leaf misfits told new-is after-is) = no_value k range known misfits told new-is after-is
