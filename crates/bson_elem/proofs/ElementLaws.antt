-- Values that hold no document: what is read begins with its own spelling, and each spelling is
-- read back.
use Rattle.std.proofs.Common.{◌≡◌, ℕ, suc, ◌+◌, ◌-◌, ◌^◌, ◌<◌, ◌≤◌, ℤ, Bool, true, false, cond, ltb, eqb, List, [], ◌∷◌, ◌++◌, length, get_or, take, drop, Ok, Err, refl, sym, ap, subst, ◌∙◌, append_assoc, arith, inl, inr, add-one, lit<}
use Rattle.std.specs.Prelude.{FitsSigned}
use Rattle.std.proofs.Math.Facts.{sfits_to_z, Fits-of_z}
use mir.Val.{bits}
use Rattle.std.specs.Int.{Width, w32, w64, from_le_bytes, to_le_bytes, cast_signed, cast_unsigned}
use Rattle.std.proofs.lemmas.Bool.{ltb-false, eqb-true, le-ltb, eq-eqb, cases_Bool}
use Rattle.std.proofs.lemmas.List.{take_at, drop_at, take-append-drop, length-append, length-take, length-drop}
use Rattle.std.proofs.lemmas.Nat.{le_bytes_4, le_bytes_8, from_le_bytes-to_le_bytes_4, from_le_bytes-to_le_bytes_8}
use Rattle.std.proofs.lemmas.Int.{to_z-of_z, of_z-to_z}
use Rattle.bson_elem.specs.declared.fault.BsonCause.{BsonCause}
use Rattle.bson_elem.specs.declared.fault.BsonCause.TheVariants.{Truncated}
use Rattle.bson_elem.specs.declared.fault.BsonCause.TheVariants as causes
use Rattle.bson_elem.specs.Kinds.{Form, raw_form, boolean_form, int32_form, int64_form, timestamp_form, string_form, pointer_form, binary_form, regex_form, document_form, scope_form}
use Rattle.bson_elem.specs.Trees.{Leaf, raw_value, boolean_value, number_value, timestamp_value, text_value, pointer_value, binary_value, regex_value}
use Rattle.bson_elem.specs.Spelling.{little, cstring, string, leaf_bytes, IsBytes, IsBinary, AreBytes, IsOfForm}
use Rattle.bson_elem.specs.Checks.{◌>>=◌, bytes_at, little_at, little64_at, length_at, string_at, cstring_at, boolean_at, binary_of, leaf_at}
use Rattle.bson_elem.proofs.FieldLaws.{IsBytes-drop, IsBytes-take, bind_ok, guard_else, guard_then, ok_is, Takes, Takes-then, little_takes, little_again, length_takes, length_again, string_takes, string_again, cstring_takes, cstring_again}

bytes_take : (n : ℕ) (bytes : List ℕ) (x : List ℕ × List ℕ) → IsBytes bytes → bytes_at n bytes ≡ Ok x → Takes bytes x.0 x.1 × AreBytes n x.0
bytes_take n bytes x fits e =
    let g = guard_else (ltb (length bytes) n) Truncated (Ok (take n bytes, drop n bytes)) x e in
    let long : n ≤ length bytes = ltb-false _ _ g.0 in
    subst (λ (y : List ℕ × List ℕ). Takes bytes y.0 y.1 × AreBytes n y.0) (ok_is {E = BsonCause} (take n bytes, drop n bytes) x g.1)
    (record { parts = sym (take-append-drop n bytes); rest_fits = IsBytes-drop n bytes fits }, record { count_is = omega (arith, length-take n bytes); are_bytes = IsBytes-take n bytes fits })

bytes_again : (front rest : List ℕ) (n : ℕ) → length front ≡ n → bytes_at n (front ++ rest) ≡ Ok (front, rest)
bytes_again front rest n len =
    let long : ltb (length (front ++ rest)) n ≡ false = le-ltb _ _ (omega (arith, length-append front rest)) in
    rw (long, take_at front rest n len, drop_at front rest n len) refl

little64_takes : (bytes : List ℕ) (x : ℕ × List ℕ) → IsBytes bytes → little64_at bytes ≡ Ok x → Takes bytes (to_le_bytes w64 x.0) x.1 × (x.0 < 2 ^ 64)
little64_takes bytes x fits e =
    let g = guard_else (ltb (length bytes) 8) Truncated (Ok (from_le_bytes w64 (take 8 bytes), drop 8 bytes)) x e in
    let long : 8 ≤ length bytes = ltb-false _ _ g.0 in
    let front : to_le_bytes w64 (from_le_bytes w64 (take 8 bytes)) ≡ take 8 bytes = le_bytes_8 (take 8 bytes) _ (omega (arith, length-take 8 bytes)) (IsBytes-take 8 bytes fits) refl in
    let below : from_le_bytes w64 (take 8 bytes) < 2 ^ 64 = let f = IsBytes-take 8 bytes fits in omega (arith, f 0, f 1, f 2, f 3, f 4, f 5, f 6, f 7) in
    subst (λ (y : ℕ × List ℕ). Takes bytes (to_le_bytes w64 y.0) y.1 × (y.0 < 2 ^ 64)) (ok_is {E = BsonCause} (from_le_bytes w64 (take 8 bytes), drop 8 bytes) x g.1)
    (record { parts = sym (ap (λ (t : List ℕ). t ++ drop 8 bytes) front ∙ take-append-drop 8 bytes); rest_fits = IsBytes-drop 8 bytes fits }, below)

wide_front : (front rest : List ℕ) → length front ≡ 8 → little64_at (front ++ rest) ≡ Ok (from_le_bytes w64 front, rest)
wide_front front rest len =
    let long : ltb (length (front ++ rest)) 8 ≡ false = le-ltb _ _ (omega (arith, length-append front rest)) in
    rw (long, take_at front rest 8 len, drop_at front rest 8 len) refl

little64_again : (n : ℕ) (rest : List ℕ) → n < 2 ^ 64 → little64_at (to_le_bytes w64 n ++ rest) ≡ Ok (n, rest)
little64_again n rest lt = wide_front (to_le_bytes w64 n) rest refl ∙ ap (λ (k : ℕ). Ok (k, rest)) (from_le_bytes-to_le_bytes_8 n lt)

boolean_takes : (bytes : List ℕ) (x : Leaf × List ℕ) → IsBytes bytes → boolean_at bytes ≡ Ok x → Takes bytes (leaf_bytes boolean_form x.0) x.1 × IsOfForm boolean_form x.0
unfolding boolean_at
boolean_takes [] x fits e = absurd cc
boolean_takes (b ∷ rest) x fits e =
    let there : IsBytes rest = λ i. fits (suc i) in
    elim (cases_Bool (eqb b 0)) [
      | inl zero_is ↦
          let r : boolean_at (b ∷ rest) ≡ Ok (boolean_value false, rest) = rw zero_is refl in
          subst (λ (y : Leaf × List ℕ). Takes (b ∷ rest) (leaf_bytes boolean_form y.0) y.1 × IsOfForm boolean_form y.0) (ok_is {E = BsonCause} (boolean_value false, rest) x (sym r ∙ e))
          (record { parts = ap (λ (k : ℕ). k ∷ rest) (eqb-true _ _ zero_is); rest_fits = there }, tt)
      | inr nonzero ↦
          let r : cond (eqb b 1) (Ok (boolean_value true, rest)) (Err causes.Boolean) ≡ Ok x = rw nonzero at e in
          let g = guard_then (eqb b 1) causes.Boolean (Ok (boolean_value true, rest)) x r in
          subst (λ (y : Leaf × List ℕ). Takes (b ∷ rest) (leaf_bytes boolean_form y.0) y.1 × IsOfForm boolean_form y.0) (ok_is {E = BsonCause} (boolean_value true, rest) x g.1)
          (record { parts = ap (λ (k : ℕ). k ∷ rest) (eqb-true _ _ g.0); rest_fits = there }, tt)
    ]

boolean_again : (b : Bool) (rest : List ℕ) → boolean_at (leaf_bytes boolean_form (boolean_value b) ++ rest) ≡ Ok (boolean_value b, rest)
unfolding boolean_at
boolean_again true rest = refl
boolean_again false rest = refl

-- ---- binaries

old_takes : (bytes rest : List ℕ) (x : Leaf × List ℕ) → IsBytes bytes → length bytes < 2 ^ 31 → binary_of 2 bytes rest ≡ Ok x → (inside : List ℕ) × (x ≡ (binary_value 2 inside, rest)) × (bytes ≡ little (length inside) ++ inside) × (length inside + 4 ≡ length bytes) × IsBytes inside
unfolding binary_of
old_takes bytes rest x fits short e =
    let g = guard_else (ltb (length bytes) 4) causes.OldBinary (cond (eqb (from_le_bytes w32 (take 4 bytes)) (length bytes - 4)) (Ok (binary_value 2 (drop 4 bytes), rest)) (Err causes.OldBinary)) x e in
    let h = guard_then (eqb (from_le_bytes w32 (take 4 bytes)) (length bytes - 4)) causes.OldBinary (Ok (binary_value 2 (drop 4 bytes), rest)) x g.1 in
    let long : 4 ≤ length bytes = ltb-false _ _ g.0 in
    let n : from_le_bytes w32 (take 4 bytes) ≡ length bytes - 4 = eqb-true _ _ h.0 in
    let len : from_le_bytes w32 (take 4 bytes) ≡ length (drop 4 bytes) = omega (arith, n, length-drop 4 bytes) in
    let front : little (from_le_bytes w32 (take 4 bytes)) ≡ take 4 bytes = le_bytes_4 (take 4 bytes) _ (omega (arith, length-take 4 bytes)) (IsBytes-take 4 bytes fits) refl in
    let again : little (length (drop 4 bytes)) ≡ take 4 bytes = ap little (sym len) ∙ front in
    (drop 4 bytes, sym (ok_is {E = BsonCause} (binary_value 2 (drop 4 bytes), rest) x h.1), sym (ap (λ (t : List ℕ). t ++ drop 4 bytes) again ∙ take-append-drop 4 bytes), omega (arith, length-drop 4 bytes), IsBytes-drop 4 bytes fits)

-- the spelling of a binary with this subtype and data
abbrev binary_text : ℕ → List ℕ → List ℕ
binary_text subtype bytes = leaf_bytes binary_form (binary_value subtype bytes)

other_binary : (subtype : ℕ) (bytes rest : List ℕ) → eqb subtype 2 ≡ false → binary_of subtype bytes rest ≡ Ok (binary_value subtype bytes, rest)
unfolding binary_of
other_binary subtype bytes rest e = rw e refl

other_text : (subtype : ℕ) (bytes : List ℕ) → eqb subtype 2 ≡ false → binary_text subtype bytes ≡ little (length bytes) ++ (subtype ∷ bytes)
other_text subtype bytes e = rw e refl

other_size : (subtype : ℕ) (bytes : List ℕ) → eqb subtype 2 ≡ false → subtype < 256 → IsBytes bytes → length bytes < 2 ^ 31 → IsBinary subtype bytes
other_size subtype bytes e low fits short = record { one_byte = low; are_bytes = fits; short = rw e short }

old_front : (front bytes rest : List ℕ) → length front ≡ 4 → from_le_bytes w32 front ≡ length bytes → binary_of 2 (front ++ bytes) rest ≡ Ok (binary_value 2 bytes, rest)
unfolding binary_of
old_front front bytes rest len n =
    let long : ltb (length (front ++ bytes)) 4 ≡ false = le-ltb _ _ (omega (arith, length-append front bytes)) in
    let same : eqb (from_le_bytes w32 front) (length (front ++ bytes) - 4) ≡ true = eq-eqb _ _ (omega (arith, n, len, length-append front bytes)) in
    rw (long, take_at front bytes 4 len, drop_at front bytes 4 len, same) refl

old_again : (bytes rest : List ℕ) → length bytes < 2 ^ 32 → binary_of 2 (little (length bytes) ++ bytes) rest ≡ Ok (binary_value 2 bytes, rest)
old_again bytes rest short = old_front (little (length bytes)) bytes rest refl (from_le_bytes-to_le_bytes_4 (length bytes) short)

-- the first byte, the n bytes after it, and the rest
cells : (n : ℕ) (bytes : List ℕ) → n + 1 ≤ length bytes → bytes ≡ (get_or bytes 0 0 ∷ take n (drop 1 bytes)) ++ drop (n + 1) bytes
cells n [] le = absurd (omega (arith, le))
cells n (b ∷ bytes) le = rw add-one (ap (λ (t : List ℕ). b ∷ t) (sym (take-append-drop n bytes)))

by_subtype : (bytes bytes' rest : List ℕ) (subtype : ℕ) (x : Leaf × List ℕ) → subtype < 256 → IsBytes bytes' → length bytes' < 2 ^ 31 → Takes bytes (little (length bytes') ++ (subtype ∷ bytes')) rest → binary_of subtype bytes' rest ≡ Ok x → Takes bytes (leaf_bytes binary_form x.0) x.1 × IsOfForm binary_form x.0
by_subtype bytes bytes' rest subtype x low fits short whole e =
    elim (cases_Bool (eqb subtype 2)) [
      | inl two ↦
          let is : subtype ≡ 2 = eqb-true _ _ two in
          let o = old_takes bytes' rest x fits short (ap (λ (k : ℕ). binary_of k bytes' rest) (sym is) ∙ e) in
          let text_is : little (length bytes') ++ (subtype ∷ bytes') ≡ leaf_bytes binary_form (binary_value 2 o.0) = ap (λ (k : ℕ). little (length bytes') ++ (k ∷ bytes')) is ∙ ap (λ (k : ℕ). little k ++ (2 ∷ bytes')) (sym o.3) ∙ ap (λ (t : List ℕ). little (length o.0 + 4) ++ (2 ∷ t)) o.2 in
          subst (λ (y : Leaf × List ℕ). Takes bytes (leaf_bytes binary_form y.0) y.1 × IsOfForm binary_form y.0) (sym o.1)
          (subst (λ (t : List ℕ). Takes bytes t rest) text_is whole, record { one_byte = lit< tt; are_bytes = o.4; short = omega (arith, o.3, short) })
      | inr not_two ↦
          subst (λ (y : Leaf × List ℕ). Takes bytes (leaf_bytes binary_form y.0) y.1 × IsOfForm binary_form y.0) (ok_is {E = BsonCause} (binary_value subtype bytes', rest) x (sym (other_binary subtype bytes' rest not_two) ∙ e))
          (subst (λ (t : List ℕ). Takes bytes t rest) (sym (other_text subtype bytes' not_two)) whole, other_size subtype bytes' not_two low fits short)
    ]

binary_takes : (bytes : List ℕ) (x : Leaf × List ℕ) → IsBytes bytes → leaf_at binary_form bytes ≡ Ok x → Takes bytes (leaf_bytes binary_form x.0) x.1 × IsOfForm binary_form x.0
unfolding leaf_at
binary_takes bytes x fits e =
    let a = bind_ok (length_at 0 bytes) (λ n. cond (ltb (length n.1) (n.0 + 1)) (Err Truncated) (binary_of (get_or n.1 0 0) (take n.0 (drop 1 n.1)) (drop (n.0 + 1) n.1))) x e in
    let n = a.0 in
    let t = length_takes 0 bytes n fits a.1 in
    let g = guard_else (ltb (length n.1) (n.0 + 1)) Truncated (binary_of (get_or n.1 0 0) (take n.0 (drop 1 n.1)) (drop (n.0 + 1) n.1)) x a.2 in
    let long : n.0 + 1 ≤ length n.1 = ltb-false _ _ g.0 in
    let subtype = get_or n.1 0 0 in
    let bytes' = take n.0 (drop 1 n.1) in
    let rest = drop (n.0 + 1) n.1 in
    let fits' : IsBytes bytes' = IsBytes-take n.0 (drop 1 n.1) (IsBytes-drop 1 n.1 t.0.rest_fits) in
    let len : length bytes' ≡ n.0 = omega (arith, length-take n.0 (drop 1 n.1), length-drop 1 n.1, long) in
    let second : Takes n.1 (subtype ∷ bytes') rest = record { parts = cells n.0 n.1 long; rest_fits = IsBytes-drop (n.0 + 1) n.1 t.0.rest_fits } in
    let both : Takes bytes (little n.0 ++ (subtype ∷ bytes')) rest = Takes-then bytes (little n.0) n.1 (subtype ∷ bytes') rest t.0 second in
    let whole : Takes bytes (little (length bytes') ++ (subtype ∷ bytes')) rest = subst (λ (k : ℕ). Takes bytes (little k ++ (subtype ∷ bytes')) rest) (sym len) both in
    by_subtype bytes bytes' rest subtype x (t.0.rest_fits 0) fits' (omega (arith, len, t.2)) whole g.1

binary_front : (subtype : ℕ) (bytes rest : List ℕ) → length bytes < 2 ^ 31 → leaf_at binary_form ((little (length bytes) ++ (subtype ∷ bytes)) ++ rest) ≡ binary_of subtype bytes rest
unfolding leaf_at
binary_front subtype bytes rest short =
    let regrouped : (little (length bytes) ++ (subtype ∷ bytes)) ++ rest ≡ little (length bytes) ++ ((subtype ∷ bytes) ++ rest) = append_assoc (little (length bytes)) (subtype ∷ bytes) rest in
    let long : ltb (length ((subtype ∷ bytes) ++ rest)) (length bytes + 1) ≡ false = le-ltb _ _ (omega (arith, length-append bytes rest)) in
    ap (leaf_at binary_form) regrouped ∙ rw (length_again 0 (length bytes) ((subtype ∷ bytes) ++ rest) (omega arith) short, long, take_at bytes rest (length bytes) refl, drop_at (subtype ∷ bytes) rest (length bytes + 1) (omega arith)) refl

binary_again : (subtype : ℕ) (bytes rest : List ℕ) → IsOfForm binary_form (binary_value subtype bytes) → leaf_at binary_form (leaf_bytes binary_form (binary_value subtype bytes) ++ rest) ≡ Ok (binary_value subtype bytes, rest)
binary_again subtype bytes rest fits =
    elim (cases_Bool (eqb subtype 2)) [
      | inl two ↦
          let is : subtype ≡ 2 = eqb-true _ _ two in
          let short : length bytes + 4 < 2 ^ 31 = rw two at fits.short in
          let len : length (little (length bytes) ++ bytes) ≡ length bytes + 4 = omega (arith, length-append (little (length bytes)) bytes) in
          let text_is : leaf_bytes binary_form (binary_value 2 bytes) ≡ little (length (little (length bytes) ++ bytes)) ++ (2 ∷ (little (length bytes) ++ bytes)) = ap (λ (k : ℕ). little k ++ (2 ∷ (little (length bytes) ++ bytes))) (sym len) in
          subst (λ (k : ℕ). leaf_at binary_form (leaf_bytes binary_form (binary_value k bytes) ++ rest) ≡ Ok (binary_value k bytes, rest)) (sym is)
          (ap (λ (t : List ℕ). leaf_at binary_form (t ++ rest)) text_is ∙ binary_front 2 (little (length bytes) ++ bytes) rest (omega (arith, len, short)) ∙ old_again bytes rest (omega (arith, short)))
      | inr not_two ↦
          let short : length bytes < 2 ^ 31 = rw not_two at fits.short in
          ap (λ (t : List ℕ). leaf_at binary_form (t ++ rest)) (other_text subtype bytes not_two) ∙ binary_front subtype bytes rest short ∙ other_binary subtype bytes rest not_two
    ]

-- ---- signed numbers and their bits

signed_fits : (w : Width) (n : ℕ) → n < 2 ^ bits w → FitsSigned w (cast_signed w n)
signed_fits w n lt = sfits_to_z (record { fits = lt })

unsigned_fits : (w : Width) (z : ℤ) → FitsSigned w z → cast_unsigned w z < 2 ^ bits w
unsigned_fits w z h = (Fits-of_z h).fits

-- ---- every leaf

pub leaf_takes : (form : Form) (bytes : List ℕ) (x : Leaf × List ℕ) → IsBytes bytes → leaf_at form bytes ≡ Ok x → Takes bytes (leaf_bytes form x.0) x.1 × IsOfForm form x.0
unfolding leaf_at
leaf_takes (raw_form n) bytes x fits e =
    let a = bind_ok (bytes_at n bytes) (λ v. Ok (raw_value v.0, v.1)) x e in
    let t = bytes_take n bytes a.0 fits a.1 in
    subst (λ (y : Leaf × List ℕ). Takes bytes (leaf_bytes (raw_form n) y.0) y.1 × IsOfForm (raw_form n) y.0) (ok_is {E = BsonCause} (raw_value a.0.0, a.0.1) x a.2) t
leaf_takes boolean_form bytes x fits e = boolean_takes bytes x fits e
leaf_takes int32_form bytes x fits e =
    let a = bind_ok (little_at bytes) (λ v. Ok (number_value (cast_signed w32 v.0), v.1)) x e in
    let t = little_takes bytes a.0 fits a.1 in
    let same : cast_unsigned w32 (cast_signed w32 a.0.0) ≡ a.0.0 = of_z-to_z w32 a.0.0 t.1 in
    subst (λ (y : Leaf × List ℕ). Takes bytes (leaf_bytes int32_form y.0) y.1 × IsOfForm int32_form y.0) (ok_is {E = BsonCause} (number_value (cast_signed w32 a.0.0), a.0.1) x a.2)
    (subst (λ (k : ℕ). Takes bytes (to_le_bytes w32 k) a.0.1) (sym same) t.0, signed_fits w32 a.0.0 t.1)
leaf_takes int64_form bytes x fits e =
    let a = bind_ok (little64_at bytes) (λ v. Ok (number_value (cast_signed w64 v.0), v.1)) x e in
    let t = little64_takes bytes a.0 fits a.1 in
    let same : cast_unsigned w64 (cast_signed w64 a.0.0) ≡ a.0.0 = of_z-to_z w64 a.0.0 t.1 in
    subst (λ (y : Leaf × List ℕ). Takes bytes (leaf_bytes int64_form y.0) y.1 × IsOfForm int64_form y.0) (ok_is {E = BsonCause} (number_value (cast_signed w64 a.0.0), a.0.1) x a.2)
    (subst (λ (k : ℕ). Takes bytes (to_le_bytes w64 k) a.0.1) (sym same) t.0, signed_fits w64 a.0.0 t.1)
leaf_takes timestamp_form bytes x fits e =
    let a = bind_ok (little_at bytes) (λ u. little_at u.1 >>= λ v. Ok (timestamp_value u.0 v.0, v.1)) x e in
    let b = bind_ok (little_at a.0.1) (λ v. Ok (timestamp_value a.0.0 v.0, v.1)) x a.2 in
    let t = little_takes bytes a.0 fits a.1 in
    let u = little_takes a.0.1 b.0 t.0.rest_fits b.1 in
    subst (λ (y : Leaf × List ℕ). Takes bytes (leaf_bytes timestamp_form y.0) y.1 × IsOfForm timestamp_form y.0) (ok_is {E = BsonCause} (timestamp_value a.0.0 b.0.0, b.0.1) x b.2)
    (Takes-then bytes (little a.0.0) a.0.1 (little b.0.0) b.0.1 t.0 u.0, (t.1, u.1))
leaf_takes string_form bytes x fits e =
    let a = bind_ok (string_at bytes) (λ v. Ok (text_value v.0, v.1)) x e in
    let t = string_takes bytes a.0 fits a.1 in
    subst (λ (y : Leaf × List ℕ). Takes bytes (leaf_bytes string_form y.0) y.1 × IsOfForm string_form y.0) (ok_is {E = BsonCause} (text_value a.0.0, a.0.1) x a.2) t
leaf_takes pointer_form bytes x fits e =
    let a = bind_ok (string_at bytes) (λ u. bytes_at 12 u.1 >>= λ v. Ok (pointer_value u.0 v.0, v.1)) x e in
    let b = bind_ok (bytes_at 12 a.0.1) (λ v. Ok (pointer_value a.0.0 v.0, v.1)) x a.2 in
    let t = string_takes bytes a.0 fits a.1 in
    let u = bytes_take 12 a.0.1 b.0 t.0.rest_fits b.1 in
    subst (λ (y : Leaf × List ℕ). Takes bytes (leaf_bytes pointer_form y.0) y.1 × IsOfForm pointer_form y.0) (ok_is {E = BsonCause} (pointer_value a.0.0 b.0.0, b.0.1) x b.2)
    (Takes-then bytes (string a.0.0) a.0.1 b.0.0 b.0.1 t.0 u.0, (t.1, u.1))
leaf_takes binary_form bytes x fits e = binary_takes bytes x fits e
leaf_takes regex_form bytes x fits e =
    let a = bind_ok (cstring_at bytes) (λ u. cstring_at u.1 >>= λ v. Ok (regex_value u.0 v.0, v.1)) x e in
    let b = bind_ok (cstring_at a.0.1) (λ v. Ok (regex_value a.0.0 v.0, v.1)) x a.2 in
    let t = cstring_takes bytes a.0 fits a.1 in
    let u = cstring_takes a.0.1 b.0 t.0.rest_fits b.1 in
    subst (λ (y : Leaf × List ℕ). Takes bytes (leaf_bytes regex_form y.0) y.1 × IsOfForm regex_form y.0) (ok_is {E = BsonCause} (regex_value a.0.0 b.0.0, b.0.1) x b.2)
    (Takes-then bytes (cstring a.0.0) a.0.1 (cstring b.0.0) b.0.1 t.0 u.0, (t.1, u.1))
leaf_takes document_form bytes x fits e = absurd cc
leaf_takes scope_form bytes x fits e = absurd cc

pub leaf_again : (form : Form) (v : Leaf) (rest : List ℕ) → IsOfForm form v → leaf_at form (leaf_bytes form v ++ rest) ≡ Ok (v, rest)
unfolding leaf_at
leaf_again (raw_form n) (raw_value bytes) rest h = rw (bytes_again bytes rest n h.count_is) refl
leaf_again boolean_form (boolean_value b) rest h = boolean_again b rest
leaf_again int32_form (number_value z) rest h =
    rw (little_again (cast_unsigned w32 z) rest (unsigned_fits w32 z h), to_z-of_z w32 z h) refl
leaf_again int64_form (number_value z) rest h =
    rw (little64_again (cast_unsigned w64 z) rest (unsigned_fits w64 z h), to_z-of_z w64 z h) refl
leaf_again timestamp_form (timestamp_value increment seconds) rest h =
    let regrouped : leaf_bytes timestamp_form (timestamp_value increment seconds) ++ rest ≡ little increment ++ (little seconds ++ rest) = append_assoc (little increment) (little seconds) rest in
    ap (leaf_at timestamp_form) regrouped ∙ rw (little_again increment (little seconds ++ rest) h.0, little_again seconds rest h.1) refl
leaf_again string_form (text_value words) rest h = rw (string_again words rest h) refl
leaf_again pointer_form (pointer_value words id) rest h =
    let regrouped : leaf_bytes pointer_form (pointer_value words id) ++ rest ≡ string words ++ (id ++ rest) = append_assoc (string words) id rest in
    ap (leaf_at pointer_form) regrouped ∙ rw (string_again words (id ++ rest) h.0, bytes_again id rest 12 h.1.count_is) refl
leaf_again binary_form (binary_value subtype bytes) rest h = binary_again subtype bytes rest h
leaf_again regex_form (regex_value words options) rest h =
    let regrouped : leaf_bytes regex_form (regex_value words options) ++ rest ≡ cstring words ++ (cstring options ++ rest) = append_assoc (cstring words) (cstring options) rest in
    ap (leaf_at regex_form) regrouped ∙ rw (cstring_again words (cstring options ++ rest) h.0, cstring_again options rest h.1) refl
leaf_again _ _ rest h = absurd h
