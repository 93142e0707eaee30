-- The rows of the table of forms, by what the one member is.
use Rattle.std.proofs.Common.{◌≡◌, ◌≢◌, ℕ, List, Some, None, ap, refl, sym}
use Rattle.json.specs.Find.{as_object, as_str}
use Rattle.json.specs.Json.{Json, Members, array, boolean, null, number, object, string}
use Rattle.bson_raw.specs.Pairs.{TreeValue}
use Rattle.bson_json_read.specs.declared.form.Form.{Form}
use Rattle.bson_json_read.specs.declared.form.Form.TheVariants as forms
use Rattle.bson_json_read.specs.Table.{leaf_text, member_value}

some_is : {A : Type 0} {x y : A} → Some x ≡ Some y → x ≡ y
some_is e = cc

-- a text that needs no memory is read in the same way
pub of_text : (f : Form) (t : List ℕ) → f ≢ forms.Symbol → f ≢ forms.Code → f ≢ forms.Uuid → leaf_text f t ≡ member_value f (string t)
of_text forms.ObjectId t s c u = refl
of_text forms.Symbol t s c u = absurd (s refl)
of_text forms.Int32 t s c u = refl
of_text forms.Int64 t s c u = refl
of_text forms.Double t s c u = refl
of_text forms.Decimal128 t s c u = refl
of_text forms.Binary t s c u = refl
of_text forms.Uuid t s c u = absurd (u refl)
of_text forms.Code t s c u = absurd (c refl)
of_text forms.Timestamp t s c u = refl
of_text forms.Regex t s c u = refl
of_text forms.DbPointer t s c u = refl
of_text forms.DateTime t s c u = refl
of_text forms.MinKey t s c u = refl
of_text forms.MaxKey t s c u = refl
of_text forms.Undefined t s c u = refl

-- the value of a text that needs no memory
pub leaf_member : (f : Form) (t : List ℕ) (v : TreeValue) → leaf_text f t ≡ Some v → member_value f (string t) ≡ Some v
leaf_member forms.ObjectId t v e = e
leaf_member forms.Symbol t v e = absurd cc
leaf_member forms.Int32 t v e = e
leaf_member forms.Int64 t v e = e
leaf_member forms.Double t v e = e
leaf_member forms.Decimal128 t v e = e
leaf_member forms.Binary t v e = absurd cc
leaf_member forms.Uuid t v e = absurd cc
leaf_member forms.Code t v e = absurd cc
leaf_member forms.Timestamp t v e = absurd cc
leaf_member forms.Regex t v e = absurd cc
leaf_member forms.DbPointer t v e = absurd cc
leaf_member forms.DateTime t v e = e
leaf_member forms.MinKey t v e = absurd cc
leaf_member forms.MaxKey t v e = absurd cc
leaf_member forms.Undefined t v e = absurd cc

-- an object stands for no value of the other forms
pub of_object : (f : Form) (ms : Members) → f ≢ forms.Binary → f ≢ forms.Regex → f ≢ forms.DbPointer → f ≢ forms.Timestamp → f ≢ forms.DateTime → member_value f (object ms) ≡ None
of_object forms.ObjectId ms b r p t d = refl
of_object forms.Symbol ms b r p t d = refl
of_object forms.Int32 ms b r p t d = refl
of_object forms.Int64 ms b r p t d = refl
of_object forms.Double ms b r p t d = refl
of_object forms.Decimal128 ms b r p t d = refl
of_object forms.Binary ms b r p t d = absurd (b refl)
of_object forms.Uuid ms b r p t d = refl
of_object forms.Code ms b r p t d = refl
of_object forms.Timestamp ms b r p t d = absurd (t refl)
of_object forms.Regex ms b r p t d = absurd (r refl)
of_object forms.DbPointer ms b r p t d = absurd (p refl)
of_object forms.DateTime ms b r p t d = absurd (d refl)
of_object forms.MinKey ms b r p t d = refl
of_object forms.MaxKey ms b r p t d = refl
of_object forms.Undefined ms b r p t d = refl

-- nor does what is neither a text nor an object
pub of_word : (f : Form) (j : Json) → as_str j ≡ None → as_object j ≡ None → f ≢ forms.MinKey → f ≢ forms.MaxKey → f ≢ forms.Undefined → member_value f j ≡ None
of_word forms.ObjectId j s o n x u = rw s refl
of_word forms.Symbol j s o n x u = rw s refl
of_word forms.Int32 j s o n x u = rw s refl
of_word forms.Int64 j s o n x u = rw s refl
of_word forms.Double j s o n x u = rw s refl
of_word forms.Decimal128 j s o n x u = rw s refl
of_word forms.Binary j s o n x u = rw o refl
of_word forms.Uuid j s o n x u = rw s refl
of_word forms.Code j s o n x u = rw s refl
of_word forms.Timestamp j s o n x u = rw o refl
of_word forms.Regex j s o n x u = rw o refl
of_word forms.DbPointer j s o n x u = rw o refl
of_word forms.DateTime j s o n x u = rw (s, o) refl
of_word forms.MinKey j s o n x u = absurd (n refl)
of_word forms.MaxKey j s o n x u = absurd (x refl)
of_word forms.Undefined j s o n x u = absurd (u refl)

-- a text of the other forms takes memory, or stands for no value
pub no_leaf : (f : Form) (s : List ℕ) → f ≢ forms.ObjectId → f ≢ forms.Int32 → f ≢ forms.Int64 → f ≢ forms.Double → f ≢ forms.Decimal128 → f ≢ forms.DateTime → leaf_text f s ≡ None
no_leaf forms.ObjectId s o i l d m t = absurd (o refl)
no_leaf forms.Symbol s o i l d m t = refl
no_leaf forms.Int32 s o i l d m t = absurd (i refl)
no_leaf forms.Int64 s o i l d m t = absurd (l refl)
no_leaf forms.Double s o i l d m t = absurd (d refl)
no_leaf forms.Decimal128 s o i l d m t = absurd (m refl)
no_leaf forms.Binary s o i l d m t = refl
no_leaf forms.Uuid s o i l d m t = refl
no_leaf forms.Code s o i l d m t = refl
no_leaf forms.Timestamp s o i l d m t = refl
no_leaf forms.Regex s o i l d m t = refl
no_leaf forms.DbPointer s o i l d m t = refl
no_leaf forms.DateTime s o i l d m t = absurd (t refl)
no_leaf forms.MinKey s o i l d m t = refl
no_leaf forms.MaxKey s o i l d m t = refl
no_leaf forms.Undefined s o i l d m t = refl

-- what a value is, by its text or its members
pub as_text : (f : Form) (j : Json) (t : List ℕ) → as_str j ≡ Some t → member_value f (string t) ≡ member_value f j
as_text f null t e = absurd cc
as_text f (boolean b) t e = absurd cc
as_text f (number s) t e = absurd cc
as_text f (string s) t e = ap (λ (x : List ℕ). member_value f (string x)) (sym (some_is e))
as_text f (array js) t e = absurd cc
as_text f (object ms) t e = absurd cc

pub as_members : (f : Form) (j : Json) (ns : Members) → as_object j ≡ Some ns → member_value f (object ns) ≡ member_value f j
as_members f null ns e = absurd cc
as_members f (boolean b) ns e = absurd cc
as_members f (number s) ns e = absurd cc
as_members f (string s) ns e = absurd cc
as_members f (array js) ns e = absurd cc
as_members f (object ms) ns e = ap (λ (x : Members). member_value f (object x)) (sym (some_is e))
