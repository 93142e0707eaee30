-- The names of the forms.
use Rattle.std.proofs.Common.{◌≡◌, ℕ, List, Bool, true, false, cond, Option, Some, None, refl, subst, codes, ap, sym, ◌∙◌}
use Rattle.std.specs.Bool.{Decides}
use Rattle.std.specs.Str.{bytes_eq}
use Rattle.std.proofs.lemmas.Slice.Eq.{bytes_eq-Decides}
use Rattle.bson_json_read.specs.declared.form.Form.{Form}
use Rattle.bson_json_read.specs.declared.form.Form.TheVariants as forms
use Rattle.bson_json_read.specs.Forms.{begins_with_dollar, form_name, form_named}

-- a name that doesn't begin as another one does is another one
other : (name word : List ℕ) → begins_with_dollar word ≡ true → begins_with_dollar name ≡ false → bytes_eq name word ≡ false
other name word w n =
    (elim (bytes_eq name word) as (λ b. Decides b (name ≡ word) → b ≡ false) [
      | true ↦ λ d. absurd (clash (sym n ∙ ap begins_with_dollar (d.0 refl) ∙ w))
      | false ↦ λ _. refl
    ]) (bytes_eq-Decides name word)
  where
    clash : false ≡ true → ⊥
    clash e = cc

-- a name that doesn't begin with a dollar sign is that of no form
pub not_named : (name : List ℕ) → begins_with_dollar name ≡ false → form_named name ≡ None
not_named name n =
    rw
    (other name (codes "$oid") refl n, other name (codes "$symbol") refl n, other name (codes "$numberInt") refl n, other name (codes "$numberLong") refl n, other name (codes "$numberDouble") refl n, other name (codes "$numberDecimal") refl n, other name (codes "$binary") refl n, other name (codes "$uuid") refl n, other name (codes "$code") refl n, other name (codes "$timestamp") refl n, other name (codes "$regularExpression") refl n, other name (codes "$dbPointer") refl n, other name (codes "$date") refl n, other name (codes "$minKey") refl n, other name (codes "$maxKey") refl n, other name (codes "$undefined") refl n)
    refl

same : (name word : List ℕ) → bytes_eq name word ≡ true → name ≡ word
same name word e =
    (elim (bytes_eq name word) as (λ b. Decides b (name ≡ word) → b ≡ true → name ≡ word) [
      | true ↦ λ d _. d.0 refl
      | false ↦ λ d f. absurd cc
    ]) (bytes_eq-Decides name word) e

some_form : {f g : Form} → Some g ≡ Some f → g ≡ f
some_form e = cc

-- one name of the table, and those behind it
row : (name : List ℕ) (g f : Form) (b : Bool) (behind : Option Form) → bytes_eq name (form_name g) ≡ b → (behind ≡ Some f → name ≡ form_name f) → cond b (Some g) behind ≡ Some f → name ≡ form_name f
row name g f true behind e later h = subst (λ (x : Form). name ≡ form_name x) (some_form h) (same name (form_name g) e)
row name g f false behind e later h = later h

none_there : {A : Type 0} {f : Form} → None ≡ Some f → A
none_there e = absurd cc

-- what has a form is its name
pub named : (name : List ℕ) (f : Form) → form_named name ≡ Some f → name ≡ form_name f
named name f =
    row name forms.ObjectId f _ _ refl
    (row name forms.Symbol f _ _ refl
    (row name forms.Int32 f _ _ refl
    (row name forms.Int64 f _ _ refl
    (row name forms.Double f _ _ refl
    (row name forms.Decimal128 f _ _ refl
    (row name forms.Binary f _ _ refl
    (row name forms.Uuid f _ _ refl
    (row name forms.Code f _ _ refl
    (row name forms.Timestamp f _ _ refl
    (row name forms.Regex f _ _ refl
    (row name forms.DbPointer f _ _ refl
    (row name forms.DateTime f _ _ refl
    (row name forms.MinKey f _ _ refl
    (row name forms.MaxKey f _ _ refl
    (row name forms.Undefined f _ _ refl none_there)))))))))))))))
