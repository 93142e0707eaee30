-- What follows a value of a fixed size.
use Rattle.std.proofs.Common.{◌≡◌, ℕ, List, length, Some, refl, subst, arith, inl, inr, ltb}
use Rattle.std.proofs.lemmas.Bool.{cases_Bool}
use Rattle.std.proofs.lemmas.List.{drop-drop, length-drop}
use Rattle.bson_elem.specs.Kinds.{Form, raw_form, int32_form, int64_form, timestamp_form}
use Rattle.bson_elem.specs.Checks.{bytes_at, leaf_at}
use Rattle.bson_elem.specs.Extents.{fixed_size, rest_of}

-- what follows a value of this form is what follows n bytes
abbrev pub IsFixed : Form → ℕ → Type 0
IsFixed form n = (bytes : List ℕ) → rest_of (leaf_at form bytes) ≡ rest_of (bytes_at n bytes)

some_is : (m n : ℕ) → Some m ≡ Some n → m ≡ n
some_is m n e = cc

fixed_raw : (n : ℕ) → IsFixed (raw_form n) n
unfolding leaf_at
fixed_raw n bytes = elim (cases_Bool (ltb (length bytes) n)) [ inl t ↦ rw t refl | inr f ↦ rw f refl ]

fixed_int32 : IsFixed int32_form 4
unfolding leaf_at
fixed_int32 bytes = elim (cases_Bool (ltb (length bytes) 4)) [ inl t ↦ rw t refl | inr f ↦ rw f refl ]

fixed_int64 : IsFixed int64_form 8
unfolding leaf_at
fixed_int64 bytes = elim (cases_Bool (ltb (length bytes) 8)) [ inl t ↦ rw t refl | inr f ↦ rw f refl ]

fixed_timestamp : IsFixed timestamp_form 8
unfolding leaf_at
fixed_timestamp bytes = grind (arith, drop-drop, length-drop)

-- what follows a value of a form of fixed size n is what follows n bytes
pub fixed_rest : (form : Form) (n : ℕ) → fixed_size form ≡ Some n → IsFixed form n
fixed_rest (raw_form m) n e = subst (IsFixed (raw_form m)) (some_is m n e) (fixed_raw m)
fixed_rest int32_form n e = subst (IsFixed int32_form) (some_is 4 n e) fixed_int32
fixed_rest int64_form n e = subst (IsFixed int64_form) (some_is 8 n e) fixed_int64
fixed_rest timestamp_form n e = subst (IsFixed timestamp_form) (some_is 8 n e) fixed_timestamp
fixed_rest _ n e = absurd cc
