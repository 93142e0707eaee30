use Rattle.std.proofs.Common.{ℕ, zero, suc, ◌≤◌, List, [], ◌∷◌, length, get_or, false, true, refl, subst, sym, arith}
use Rattle.bson_elem.specs.declared.kinds.Kind.TheVariants as kinds
use Rattle.bson_elem.specs.Checks.{a_leaf, boolean_at, leaf_at, value_at}
use Rattle.bson_elem.specs.Trees.{boolean_value}
use Rattle.byte_views.specs.declared.element.Element.{Element}
use Rattle.byte_views.specs.Quick.{IsValueAt}
use Rattle.byte_views.proofs.quick.boolean.Goals as goal

truth_read : (depth at from : ℕ) (rest : List ℕ) (e : Element) → 1 ≤ length rest → get_or rest 0 0 ≤ 1
    → IsValueAt depth at from kinds.Boolean rest e (record e { bits = get_or rest 0 0 }) 1
unfolding value_at leaf_at boolean_at
truth_read depth at from [] e some low = absurd (omega arith)
truth_read depth at from (zero ∷ after) e some low =
    record { value = a_leaf (boolean_value false); after = after; read = refl; size = omega arith; place = refl }
truth_read depth at from (suc zero ∷ after) e some low =
    record { value = a_leaf (boolean_value true); after = after; read = refl; size = omega arith; place = refl }
truth_read depth at from (suc (suc n) ∷ after) e some low = absurd (omega arith)

pub returns : goal.returns
returns c = λ depth at from.
    subst (λ (bits : ℕ). IsValueAt depth at from kinds.Boolean c.args.rest.now c.args.bare (record c.args.bare { bits = bits }) 1) (sym c.from-bits.ensures)
    (truth_read depth at from c.args.rest.now c.args.bare (omega arith) (omega arith))
