-- What is made of a value that shows no document.
use Rattle.std.proofs.Common.{◌≡◌, Option, Some, None, ap, subst, refl, ◌∙◌}
use Rattle.std.specs.Prelude.{MatchOption}
use Rattle.bson_elem.specs.declared.kinds.Kind.{Kind}
use Rattle.bson_elem.specs.declared.kinds.Kind.TheVariants as kinds
use Rattle.bson_elem.specs.{Beside, Leaf, Tree}
use Rattle.bson_raw.specs.declared.document.RawDocument.{RawDocument}
use Rattle.bson_raw.specs.declared.value.RawBson.{RawBson}
use Rattle.bson_raw.specs.declared.value.RawBson.TheVariants as values
use Rattle.bson_raw.specs.{Shows, ShowsFound, TreeValue, document_value, leaf_value}

module _ {A : Type 0} (f : Option TreeValue → A) (e : A)
    (leaf : (k : Kind) (x : Leaf) → f (Some (leaf_value k x)) ≡ e)
    (array : (b : Beside) (t : Tree) → f (Some (document_value kinds.Array b t)) ≡ e)
    (scope : (b : Beside) (t : Tree) → f (Some (document_value kinds.CodeWithScope b t)) ≡ e) where
  shown : (value : RawBson) (v : TreeValue) → ((d : RawDocument) → value ≡ values.Document d → ⊥) → Shows value v → f (Some v) ≡ e
  shown (values.Document d) v other s = absurd (other d refl)
  shown (values.Array a) v other s = ap (λ w. f (Some w)) s.1 ∙ array _ _
  shown (values.CodeWithScope c d) v other s = ap (λ w. f (Some w)) s.1 ∙ scope _ _
  shown _ v other s = ap (λ w. f (Some w)) s ∙ leaf _ _

  pub no_document : (o : Option RawBson) (value : RawBson) (found : Option TreeValue) → o ≡ Some value → ((d : RawDocument) → value ≡ values.Document d → ⊥)
      → MatchOption o (found ≡ None) (λ v. ShowsFound v found) → f found ≡ e
  no_document o value found is other m =
      let s : ShowsFound value found = subst (λ p. MatchOption p (found ≡ None) (λ v. ShowsFound v found)) is m in
      ap f s.1 ∙ shown value s.0 other s.2
