-- The values and the elements of a tree in canonical form.
use Rattle.std.proofs.Common.{◌≡◌, ℕ, ◌+◌, ◌≤◌, Bool, List, [], ◌∷◌, ◌++◌, length, refl, sym, ap, ◌∙◌, arith, append_assoc, length-append}
use Rattle.bson_elem.specs.declared.kinds.Kind.{Kind}
use Rattle.bson_elem.specs.Trees.{Beside, Tree}
use Rattle.bson_elem.specs.Spelling.{elements, Spells}
use Rattle.bson_raw.specs.declared.value.RawBson.{RawBson}
use Rattle.bson_raw.specs.declared.value.RawBson.TheVariants as values
use Rattle.bson_raw.specs.Pairs.{TreeValue, leaf_value, document_value, with_first}
use Rattle.bson_raw.specs.RawBson.{Shows, kind_of_value}
use Rattle.bson_raw.specs.Naming.{name_at}
use Rattle.bson_doc.specs.Plain.{plain_from}
use Rattle.bson_doc.specs.Values.{plain_value, value_kind, element_bytes}

abbrev kind_is : TreeValue → Kind
kind_is v = value_kind (plain_value v)

holds_kind : (k : Kind) (b : Beside) (bytes : List ℕ) (v : TreeValue) → (inner : Tree) × (v ≡ document_value k b inner) × Spells inner bytes → k ≡ kind_is v
holds_kind k b bytes v shown = sym (ap kind_is shown.1)

-- the kind of a value is that of the value in the tree
pub kind_shown : (value : RawBson) (v : TreeValue) → Shows value v → kind_of_value value ≡ value_kind (plain_value v)
kind_shown (values.Document d) v shown = holds_kind _ _ _ v shown
kind_shown (values.Array a) v shown = holds_kind _ _ _ v shown
kind_shown (values.CodeWithScope code scope) v shown = holds_kind _ _ _ v shown
kind_shown _ v shown = sym (ap kind_is shown)

-- the first element, and the others
pub elements-first : (in_array : Bool) (index : ℕ) (name : List ℕ) (v : TreeValue) (ps : Tree) → elements (plain_from in_array index (with_first name v ps)) ≡ element_bytes (name_at in_array index name) (plain_value v) ++ elements (plain_from in_array (index + 1) ps)
elements-first in_array index name (leaf_value k leaf) ps = refl
elements-first in_array index name (document_value k b inner) ps = refl

-- four bytes and more were added
pub four_more : (before begun after added : List ℕ) → begun ≡ before ++ (0 ∷ 0 ∷ 0 ∷ 0 ∷ []) → after ≡ begun ++ added → length before + 4 ≤ length after
four_more before begun after added e f =
    omega (arith, ap length e, length-append before (0 ∷ 0 ∷ 0 ∷ 0 ∷ []), ap length f, length-append begun added)

pub no_fewer : (before after added : List ℕ) → after ≡ before ++ added → length before ≤ length after
no_fewer before after added e = omega (arith, ap length e, length-append before added)

-- a type byte, a name and a value, one after another
pub one_element : (before headed : List ℕ) (byte kind : ℕ) (name value : List ℕ) → byte ≡ kind → headed ≡ before ++ (byte ∷ name) → headed ++ value ≡ before ++ (kind ∷ (name ++ value))
one_element before headed byte kind name value is e =
    ap (λ (x : List ℕ). x ++ value) e ∙ append_assoc before (byte ∷ name) value
    ∙ ap (λ (n : ℕ). before ++ (n ∷ (name ++ value))) is
