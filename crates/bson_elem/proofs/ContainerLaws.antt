-- Documents and elements: what is read begins with its own spelling, and each spelling is read
-- back.
use Rattle.std.proofs.Common.{◌≡◌, ℕ, suc, ◌+◌, ◌-◌, ◌^◌, ◌<◌, ◌≤◌, Bool, true, false, cond, ltb, leb, eqb, ◌||◌, List, [], ◌∷◌, ◌++◌, length, get_or, take, drop, Option, Some, None, Result, Ok, Err, refl, sym, ap, subst, ◌∙◌, append_assoc, arith}
use Rattle.std.specs.Prelude.{IsUtf8}
use Rattle.std.specs.Int.{w32, from_le_bytes}
use Rattle.std.proofs.lemmas.Bool.{ltb-false, ltb-true, leb-false, eqb-true, le-ltb, lt-ltb, eq-eqb, lt-leb, or_parts}
use Rattle.std.proofs.lemmas.List.{take_at, drop_at, take-append-drop, length-append, length-take, length-drop, get_or-drop, drop-drop, get_or_at}
use Rattle.std.proofs.lemmas.Nat.{le_bytes_4, from_le_bytes-to_le_bytes_4}
use Rattle.std.proofs.lemmas.Str.{is_utf8-from_IsUtf8}
use Rattle.bson_elem.specs.declared.kinds.Kind.{Kind}
use Rattle.bson_elem.specs.declared.kinds.Kind.TheVariants as kinds
use Rattle.bson_elem.specs.declared.fault.BsonCause.{BsonCause}
use Rattle.bson_elem.specs.declared.fault.BsonCause.TheVariants as causes
use Rattle.bson_elem.specs.declared.fault.BsonFault.{BsonFault}
use Rattle.bson_elem.specs.Kinds.{byte_of, all_kinds, kind_among, kind_of, Form, raw_form, boolean_form, int32_form, int64_form, timestamp_form, string_form, pointer_form, binary_form, regex_form, document_form, scope_form, form_of}
use Rattle.bson_elem.specs.Trees.{Leaf, Beside, no_code, with_code}
use Rattle.bson_elem.specs.Spelling.{IsBytes, leaf_bytes, little, cstring, string, document, inner_bytes, IsOfForm, StandsIn}
use Rattle.bson_elem.specs.Checks.{◌>>=◌, length_at, text_at, cstring_at, leaf_at, fault, told_at, document_at, Value, a_leaf, opens, scope_at, value_at, ElementRead, kinded_at, element_at}
pub use Rattle.bson_elem.specs.Elements.{value_bytes, ValueFits, offset_beside, TellsOffset, element_bytes, IsElement}
use Rattle.bson_elem.proofs.FieldLaws.{IsBytes-drop, IsBytes-take, bind_ok, guard_else, guard_then, ok_is, Takes, Takes-then, length_takes, length_again, text_takes, past_one, parts_of, cstring_takes, cstring_again}
use Rattle.bson_elem.proofs.ElementLaws.{leaf_takes, leaf_again}

told_at_ok : {A : Type 0} (p : ℕ) (r : Result A BsonCause) (x : A) → told_at p r ≡ Ok x → r ≡ Ok x
told_at_ok p (Ok y) x e = ap Ok (ok_is {E = BsonFault} y x e)
told_at_ok p (Err c) x e = absurd cc

-- ---- documents

abbrev ok_fault : {A : Type 0} → A → Result A BsonFault
ok_fault x = Ok x

document_parts : (bytes : List ℕ) (x : List ℕ × List ℕ) (n : ℕ) → IsBytes bytes → 4 ≤ length bytes → 5 ≤ n → n < 2 ^ 31 → n ≤ length bytes → get_or bytes (n - 1) 0 ≡ 0 → from_le_bytes w32 (take 4 bytes) ≡ n → ok_fault (take (n - 5) (drop 4 bytes), drop n bytes) ≡ Ok x → Takes bytes (document x.0) x.1 × (length x.0 + 5 < 2 ^ 31) × (from_le_bytes w32 (take 4 bytes) ≡ length x.0 + 5)
document_parts bytes x n fits four low high long zero_is n-is e =
    let body = take (n - 5) (drop 4 bytes) in
    let len : length body ≡ n - 5 = omega (arith, length-take (n - 5) (drop 4 bytes), length-drop 4 bytes, long) in
    let front : little n ≡ take 4 bytes = le_bytes_4 (take 4 bytes) n (omega (arith, length-take 4 bytes)) (IsBytes-take 4 bytes fits) (sym n-is) in
    let size : length body + 5 ≡ n = omega (arith, len, low) in
    let there : get_or (drop 4 bytes) (n - 5) 0 ≡ 0 = get_or-drop 4 bytes (n - 5) 0 ∙ ap (λ (k : ℕ). get_or bytes k 0) (let k : 4 + (n - 5) ≡ n - 1 = omega (arith, low) in k) ∙ zero_is in
    let split : drop 4 bytes ≡ (body ++ 0 ∷ []) ++ drop ((n - 5) + 1) (drop 4 bytes) = past_one (n - 5) (drop 4 bytes) 0 (omega (arith, length-drop 4 bytes, long, low)) there in
    let rest_is : drop ((n - 5) + 1) (drop 4 bytes) ≡ drop n bytes = drop-drop ((n - 5) + 1) 4 bytes ∙ ap (λ (k : ℕ). drop k bytes) (let k : 4 + ((n - 5) + 1) ≡ n = omega (arith, low) in k) in
    let second : Takes (drop 4 bytes) (body ++ 0 ∷ []) (drop n bytes) = record { parts = split ∙ ap (λ (t : List ℕ). (body ++ 0 ∷ []) ++ t) rest_is; rest_fits = IsBytes-drop n bytes fits } in
    let first : Takes bytes (little n) (drop 4 bytes) = record { parts = sym (ap (λ (t : List ℕ). t ++ drop 4 bytes) front ∙ take-append-drop 4 bytes); rest_fits = IsBytes-drop 4 bytes fits } in
    let both : Takes bytes (little n ++ (body ++ 0 ∷ [])) (drop n bytes) = Takes-then bytes (little n) (drop 4 bytes) (body ++ 0 ∷ []) (drop n bytes) first second in
    subst (λ (y : List ℕ × List ℕ). Takes bytes (document y.0) y.1 × (length y.0 + 5 < 2 ^ 31) × (from_le_bytes w32 (take 4 bytes) ≡ length y.0 + 5)) (ok_is {E = BsonFault} (body, drop n bytes) x e)
    (subst (λ (k : ℕ). Takes bytes (little k ++ (body ++ 0 ∷ [])) (drop n bytes)) (sym size) both, omega (arith, size, high), n-is ∙ sym size)

pub document_takes : (p q : ℕ) (bytes : List ℕ) (x : List ℕ × List ℕ) → IsBytes bytes → document_at p q bytes ≡ Ok x → Takes bytes (document x.0) x.1 × (length x.0 + 5 < 2 ^ 31) × (from_le_bytes w32 (take 4 bytes) ≡ length x.0 + 5)
unfolding document_at
document_takes p q bytes x fits e =
    let n = from_le_bytes w32 (take 4 bytes) in
    let read : Result (List ℕ × List ℕ) BsonFault = Ok (take (n - 5) (drop 4 bytes), drop n bytes) in
    let last : Result (List ℕ × List ℕ) BsonFault = cond (eqb (get_or bytes (n - 1) 0) 0) read (Err (fault q causes.End)) in
    let room : Result (List ℕ × List ℕ) BsonFault = cond (ltb (length bytes) n) (Err (fault p causes.Truncated)) last in
    let least : Result (List ℕ × List ℕ) BsonFault = cond (ltb n 5 || leb (2 ^ 31) n) (Err (fault q causes.Length)) room in
    let g0 = guard_else (ltb (length bytes) 4) (fault p causes.Truncated) least x e in
    let g1 = guard_else (ltb n 5 || leb (2 ^ 31) n) (fault q causes.Length) room x g0.1 in
    let g2 = guard_else (ltb (length bytes) n) (fault p causes.Truncated) last x g1.1 in
    let g3 = guard_then (eqb (get_or bytes (n - 1) 0) 0) (fault q causes.End) read x g2.1 in
    let four : 4 ≤ length bytes = ltb-false _ _ g0.0 in
    let o = or_parts _ _ g1.0 in
    let low : 5 ≤ n = ltb-false _ _ o.0 in
    let high : n < 2 ^ 31 = leb-false _ _ o.1 in
    let long : n ≤ length bytes = ltb-false _ _ g2.0 in
    let zero_is : get_or bytes (n - 1) 0 ≡ 0 = eqb-true _ _ g3.0 in
    document_parts bytes x n fits four low high long zero_is refl g3.1

document_front : (p q : ℕ) (front body rest : List ℕ) → length front ≡ 4 → from_le_bytes w32 front ≡ length body + 5 → length body + 5 < 2 ^ 31 → document_at p q (front ++ ((body ++ 0 ∷ []) ++ rest)) ≡ Ok (body, rest)
unfolding document_at
document_front p q front body rest len n short =
    let back : List ℕ = (body ++ 0 ∷ []) ++ rest in
    let back_is : back ≡ body ++ 0 ∷ rest = append_assoc body (0 ∷ []) rest in
    let whole : List ℕ = front ++ back in
    let size : length whole ≡ length body + 5 + length rest = omega (arith, length-append front back, length-append (body ++ 0 ∷ []) rest, length-append body (0 ∷ []), len) in
    let four : ltb (length whole) 4 ≡ false = le-ltb _ _ (omega (arith, size)) in
    let bounds : (ltb (length body + 5) 5 || leb (2 ^ 31) (length body + 5)) ≡ false = rw (le-ltb (length body + 5) 5 (omega arith), lt-leb (2 ^ 31) (length body + 5) short) refl in
    let long : ltb (length whole) (length body + 5) ≡ false = le-ltb _ _ (omega (arith, size)) in
    let at : length body + 5 - 1 ≡ 4 + length body = omega arith in
    let cell : get_or whole (4 + length body) 0 ≡ 0 = sym (get_or-drop 4 whole (length body) 0) ∙ ap (λ (t : List ℕ). get_or t (length body) 0) (drop_at front back 4 len ∙ back_is) ∙ get_or_at body 0 rest 0 (length body) refl in
    let five : length body + 5 - 5 ≡ length body = omega arith in
    let body_is : take (length body) back ≡ body = ap (take (length body)) back_is ∙ take_at body (0 ∷ rest) (length body) refl in
    let rest_is : drop (length body + 5) whole ≡ rest = ap (drop (length body + 5)) (sym (append_assoc front (body ++ 0 ∷ []) rest)) ∙ drop_at (front ++ (body ++ 0 ∷ [])) rest (length body + 5) (omega (arith, length-append front (body ++ 0 ∷ []), length-append body (0 ∷ []), len)) in
    rw (four, take_at front back 4 len, n, bounds, long, at, cell, five, drop_at front back 4 len, body_is, rest_is) refl

pub document_again : (p q : ℕ) (body rest : List ℕ) → length body + 5 < 2 ^ 31 → document_at p q (document body ++ rest) ≡ Ok (body, rest)
document_again p q body rest short =
    ap (document_at p q) (append_assoc (little (length body + 5)) (body ++ 0 ∷ []) rest)
    ∙ document_front p q (little (length body + 5)) body rest refl (from_le_bytes-to_le_bytes_4 (length body + 5) (omega (arith, short))) short

-- ---- the code and the scope

pub length-document : (body : List ℕ) → length (document body) ≡ length body + 5
length-document body = omega (arith, length-append (little (length body + 5)) (body ++ 0 ∷ []), length-append body (0 ∷ []))

length-string : (words : List ℕ) → length (string words) ≡ length words + 5
length-string words = omega (arith, length-append (little (length words + 1)) (cstring words), length-append words (0 ∷ []))

length-scope : (words body : List ℕ) → length (inner_bytes (with_code words) body) ≡ length body + length words + 14
length-scope words body = omega (arith, length-append (little (length body + length words + 14)) (string words ++ document body), length-append (string words) (document body), length-string words, length-document body)

scope_takes : (depth p q : ℕ) (bytes : List ℕ) (x : Value × List ℕ) → IsBytes bytes → depth < 200 → scope_at p q bytes ≡ Ok x → Takes bytes (value_bytes scope_form x.0) x.1 × ValueFits depth scope_form x.0 × TellsOffset q x.0
unfolding scope_at
scope_takes depth p q bytes x fits shallow e =
    let a = bind_ok (told_at p (length_at 14 bytes)) (λ total. cond (ltb (length bytes) total.0) (Err (fault p causes.Truncated)) (told_at p (length_at 1 total.1)) >>= λ n. cond (ltb (total.0 - 13) n.0) (Err (fault p causes.Scope)) (told_at p (text_at (n.0 - 1) n.1)) >>= λ words. cond (eqb (from_le_bytes w32 (take 4 words.1)) (total.0 - 8 - n.0)) (document_at p (q + 8 + n.0) words.1) (Err (fault p causes.Scope)) >>= λ d. Ok (opens (q + 8 + n.0) (with_code words.0) d.0, d.1)) x e in
    let total = a.0 in
    let b = bind_ok (cond (ltb (length bytes) total.0) (Err (fault p causes.Truncated)) (told_at p (length_at 1 total.1))) (λ n. cond (ltb (total.0 - 13) n.0) (Err (fault p causes.Scope)) (told_at p (text_at (n.0 - 1) n.1)) >>= λ words. cond (eqb (from_le_bytes w32 (take 4 words.1)) (total.0 - 8 - n.0)) (document_at p (q + 8 + n.0) words.1) (Err (fault p causes.Scope)) >>= λ d. Ok (opens (q + 8 + n.0) (with_code words.0) d.0, d.1)) x a.2 in
    let n = b.0 in
    let c = bind_ok (cond (ltb (total.0 - 13) n.0) (Err (fault p causes.Scope)) (told_at p (text_at (n.0 - 1) n.1))) (λ words. cond (eqb (from_le_bytes w32 (take 4 words.1)) (total.0 - 8 - n.0)) (document_at p (q + 8 + n.0) words.1) (Err (fault p causes.Scope)) >>= λ d. Ok (opens (q + 8 + n.0) (with_code words.0) d.0, d.1)) x b.2 in
    let words = c.0 in
    let d = bind_ok (cond (eqb (from_le_bytes w32 (take 4 words.1)) (total.0 - 8 - n.0)) (document_at p (q + 8 + n.0) words.1) (Err (fault p causes.Scope))) (λ d. Ok (opens (q + 8 + n.0) (with_code words.0) d.0, d.1)) x c.2 in
    let g1 = guard_else (ltb (length bytes) total.0) (fault p causes.Truncated) (told_at p (length_at 1 total.1)) n b.1 in
    let g2 = guard_else (ltb (total.0 - 13) n.0) (fault p causes.Scope) (told_at p (text_at (n.0 - 1) n.1)) words c.1 in
    let g3 = guard_then (eqb (from_le_bytes w32 (take 4 words.1)) (total.0 - 8 - n.0)) (fault p causes.Scope) (document_at p (q + 8 + n.0) words.1) d.0 d.1 in
    let t0 = length_takes 14 bytes total fits (told_at_ok p (length_at 14 bytes) total a.1) in
    let t1 = length_takes 1 total.1 n t0.0.rest_fits (told_at_ok p (length_at 1 total.1) n g1.1) in
    let long : total.0 ≤ length bytes = ltb-false _ _ g1.0 in
    let room : n.0 ≤ total.0 - 13 = ltb-false _ _ g2.0 in
    let l0 : length bytes ≡ 4 + length total.1 = ap length t0.0.parts ∙ length-append (little total.0) total.1 in
    let l1 : length total.1 ≡ 4 + length n.1 = ap length t1.0.parts ∙ length-append (little n.0) n.1 in
    let inside : n.0 - 1 < length n.1 = omega (arith, long, room, l0, l1, t0.1, t1.1) in
    let t2 = text_takes (n.0 - 1) n.1 words t1.0.rest_fits inside (told_at_ok p (text_at (n.0 - 1) n.1) words g2.1) in
    let t3 = document_takes p (q + 8 + n.0) words.1 d.0 t2.0.rest_fits g3.1 in
    let n-is : n.0 ≡ length words.0 + 1 = omega (arith, t2.2, t1.1) in
    let total-is : total.0 ≡ length d.0.0 + length words.0 + 14 = let f = eqb-true _ _ g3.0 in omega (arith, f, t3.2, n-is, room, t0.1) in
    let text1 : Takes total.1 (string words.0) words.1 = subst (λ (k : ℕ). Takes total.1 (little k ++ cstring words.0) words.1) n-is (Takes-then total.1 (little n.0) n.1 (cstring words.0) words.1 t1.0 t2.0) in
    let text2 : Takes total.1 (string words.0 ++ document d.0.0) d.0.1 = Takes-then total.1 (string words.0) words.1 (document d.0.0) d.0.1 text1 t3.0 in
    let text3 : Takes bytes (little total.0 ++ (string words.0 ++ document d.0.0)) d.0.1 = Takes-then bytes (little total.0) total.1 (string words.0 ++ document d.0.0) d.0.1 t0.0 text2 in
    let whole : Takes bytes (inner_bytes (with_code words.0) d.0.0) d.0.1 = subst (λ (k : ℕ). Takes bytes (little k ++ (string words.0 ++ document d.0.0)) d.0.1) total-is text3 in
    let size : length (inner_bytes (with_code words.0) d.0.0) < 2 ^ 31 = omega (arith, length-scope words.0 d.0.0, total-is, t0.2) in
    subst (λ (y : Value × List ℕ). Takes bytes (value_bytes scope_form y.0) y.1 × ValueFits depth scope_form y.0 × TellsOffset q y.0) (ok_is {E = BsonFault} (opens (q + 8 + n.0) (with_code words.0) d.0.0, d.0.1) x d.2)
    (whole, (t2.1, shallow, size), ap (λ (k : ℕ). q + 8 + k) n-is)

scope_again : (p q : ℕ) (words body rest : List ℕ) → IsUtf8 words → length (inner_bytes (with_code words) body) < 2 ^ 31 → scope_at p q (inner_bytes (with_code words) body ++ rest) ≡ Ok (opens (offset_beside q (with_code words)) (with_code words) body, rest)
unfolding scope_at
scope_again p q words body rest utf short =
    let total : ℕ = length body + length words + 14 in
    let n : ℕ = length words + 1 in
    let tail : List ℕ = document body ++ rest in
    let size = length-scope words body in
    let below : total < 2 ^ 31 = omega (arith, size, short) in
    let regrouped : inner_bytes (with_code words) body ++ rest ≡ little total ++ (little n ++ (cstring words ++ tail)) =
    append_assoc (little total) (string words ++ document body) rest ∙ ap (λ (t : List ℕ). little total ++ t) (append_assoc (string words) (document body) rest ∙ append_assoc (little n) (cstring words) tail) in
    let whole : List ℕ = little total ++ (little n ++ (cstring words ++ tail)) in
    let parts = parts_of words tail in
    let long : ltb (length whole) total ≡ false = le-ltb _ _ (omega (arith, ap length regrouped, length-append (inner_bytes (with_code words) body) rest, size)) in
    let room : ltb (total - 13) n ≡ false = le-ltb _ _ (omega arith) in
    let back : n - 1 ≡ length words = omega arith in
    let inside : text_at (length words) (cstring words ++ tail) ≡ Ok (words, tail) = rw (parts.0, parts.1, parts.2, is_utf8-from_IsUtf8 words utf) refl in
    let count_is : from_le_bytes w32 (take 4 tail) ≡ length body + 5 = ap (from_le_bytes w32) (ap (take 4) (append_assoc (little (length body + 5)) (body ++ 0 ∷ []) rest) ∙ take_at (little (length body + 5)) ((body ++ 0 ∷ []) ++ rest) 4 refl) ∙ from_le_bytes-to_le_bytes_4 (length body + 5) (omega (arith, below)) in
    let same : eqb (from_le_bytes w32 (take 4 tail)) (total - 8 - n) ≡ true = eq-eqb _ _ (omega (arith, count_is)) in
    ap (scope_at p q) regrouped
    ∙ rw (length_again 14 total (little n ++ (cstring words ++ tail)) (omega arith) below, long, length_again 1 n (cstring words ++ tail) (omega arith) (omega (arith, below)), room, back, inside, same, document_again p (q + 8 + n) body rest (omega (arith, below))) refl

-- ---- values

inner_takes : (depth p q : ℕ) (bytes : List ℕ) (x : Value × List ℕ) → IsBytes bytes → depth < 200 → (document_at p q bytes >>= λ d. Ok (opens q no_code d.0, d.1)) ≡ Ok x → Takes bytes (value_bytes document_form x.0) x.1 × ValueFits depth document_form x.0 × TellsOffset q x.0
inner_takes depth p q bytes x fits shallow e =
    let a = bind_ok (document_at p q bytes) (λ d. Ok (opens q no_code d.0, d.1)) x e in
    let t = document_takes p q bytes a.0 fits a.1 in
    subst (λ (y : Value × List ℕ). Takes bytes (value_bytes document_form y.0) y.1 × ValueFits depth document_form y.0 × TellsOffset q y.0) (ok_is {E = BsonFault} (opens q no_code a.0.0, a.0.1) x a.2)
    (t.0, (tt, shallow, omega (arith, length-document a.0.0, t.1)), refl)

whole_takes : (depth p q : ℕ) (form : Form) (bytes : List ℕ) (x : Value × List ℕ) → IsBytes bytes → (told_at p (leaf_at form bytes) >>= λ v. Ok (a_leaf v.0, v.1)) ≡ Ok x → Takes bytes (value_bytes form x.0) x.1 × ValueFits depth form x.0 × TellsOffset q x.0
whole_takes depth p q form bytes x fits e =
    let a = bind_ok (told_at p (leaf_at form bytes)) (λ v. Ok (a_leaf v.0, v.1)) x e in
    let t = leaf_takes form bytes a.0 fits (told_at_ok p (leaf_at form bytes) a.0 a.1) in
    subst (λ (y : Value × List ℕ). Takes bytes (value_bytes form y.0) y.1 × ValueFits depth form y.0 × TellsOffset q y.0) (ok_is {E = BsonFault} (a_leaf a.0.0, a.0.1) x a.2) (t.0, t.1, tt)

pub part_takes : (depth p q : ℕ) (form : Form) (bytes : List ℕ) (x : Value × List ℕ) → IsBytes bytes → value_at depth p q form bytes ≡ Ok x → Takes bytes (value_bytes form x.0) x.1 × ValueFits depth form x.0 × TellsOffset q x.0
unfolding value_at
part_takes depth p q document_form bytes x fits e =
    let g = guard_then (ltb depth 200) (fault p causes.Depth) (document_at p q bytes >>= λ d. Ok (opens q no_code d.0, d.1)) x e in
    inner_takes depth p q bytes x fits (ltb-true _ _ g.0) g.1
part_takes depth p q scope_form bytes x fits e =
    let g = guard_then (ltb depth 200) (fault p causes.Depth) (scope_at p q bytes) x e in
    scope_takes depth p q bytes x fits (ltb-true _ _ g.0) g.1
part_takes depth p q (raw_form n) bytes x fits e = whole_takes depth p q (raw_form n) bytes x fits e
part_takes depth p q boolean_form bytes x fits e = whole_takes depth p q boolean_form bytes x fits e
part_takes depth p q int32_form bytes x fits e = whole_takes depth p q int32_form bytes x fits e
part_takes depth p q int64_form bytes x fits e = whole_takes depth p q int64_form bytes x fits e
part_takes depth p q timestamp_form bytes x fits e = whole_takes depth p q timestamp_form bytes x fits e
part_takes depth p q string_form bytes x fits e = whole_takes depth p q string_form bytes x fits e
part_takes depth p q pointer_form bytes x fits e = whole_takes depth p q pointer_form bytes x fits e
part_takes depth p q binary_form bytes x fits e = whole_takes depth p q binary_form bytes x fits e
part_takes depth p q regex_form bytes x fits e = whole_takes depth p q regex_form bytes x fits e

leaf_value_at : (depth p q : ℕ) (form : Form) (v : Leaf) (rest : List ℕ) → IsOfForm form v → value_at depth p q form (leaf_bytes form v ++ rest) ≡ Ok (a_leaf v, rest)
unfolding value_at
leaf_value_at depth p q document_form v rest h = absurd h
leaf_value_at depth p q scope_form v rest h = absurd h
leaf_value_at depth p q (raw_form n) v rest h = rw (leaf_again (raw_form n) v rest h) refl
leaf_value_at depth p q boolean_form v rest h = rw (leaf_again boolean_form v rest h) refl
leaf_value_at depth p q int32_form v rest h = rw (leaf_again int32_form v rest h) refl
leaf_value_at depth p q int64_form v rest h = rw (leaf_again int64_form v rest h) refl
leaf_value_at depth p q timestamp_form v rest h = rw (leaf_again timestamp_form v rest h) refl
leaf_value_at depth p q string_form v rest h = rw (leaf_again string_form v rest h) refl
leaf_value_at depth p q pointer_form v rest h = rw (leaf_again pointer_form v rest h) refl
leaf_value_at depth p q binary_form v rest h = rw (leaf_again binary_form v rest h) refl
leaf_value_at depth p q regex_form v rest h = rw (leaf_again regex_form v rest h) refl

held_part : (depth p q : ℕ) (form : Form) (b : Beside) (body rest : List ℕ) → StandsIn form b → depth < 200 → length (inner_bytes b body) < 2 ^ 31 → value_at depth p q form (inner_bytes b body ++ rest) ≡ Ok (opens (offset_beside q b) b body, rest)
unfolding value_at
held_part depth p q document_form no_code body rest h shallow short = rw (lt-ltb depth 200 shallow, document_again p q body rest (omega (arith, length-document body, short))) refl
held_part depth p q scope_form (with_code words) body rest h shallow short = rw (lt-ltb depth 200 shallow, scope_again p q words body rest h short) refl
held_part depth p q _ _ body rest h shallow short = absurd h

pub part_again : (depth p q : ℕ) (form : Form) (part : Value) (rest : List ℕ) → ValueFits depth form part → TellsOffset q part → value_at depth p q form (value_bytes form part ++ rest) ≡ Ok (part, rest)
part_again depth p q form (a_leaf v) rest h told = leaf_value_at depth p q form v rest h
part_again depth p q form (opens offset b body) rest h told = held_part depth p q form b body rest h.0 h.1 h.2 ∙ ap (λ (k : ℕ). Ok (opens k b body, rest)) (sym told)

-- ---- elements

kind_back : (k : Kind) → kind_of (byte_of k) ≡ Some k
kind_back kinds.Double = refl
kind_back _ = refl

kind_nonzero : (k : Kind) → eqb (byte_of k) 0 ≡ false
kind_nonzero kinds.Double = refl
kind_nonzero _ = refl

kind_here : (j k : Kind) (b : ℕ) (o : Option Kind) (t : Bool) → eqb b (byte_of j) ≡ t → cond t (Some j) o ≡ Some k → (o ≡ Some k → b ≡ byte_of k) → b ≡ byte_of k
kind_here j k b o true is f later = let same : j ≡ k = cc in eqb-true _ _ is ∙ ap byte_of same
kind_here j k b o false is f later = later f

pub kind_is : (ks : List Kind) (b : ℕ) (k : Kind) → kind_among ks b ≡ Some k → b ≡ byte_of k
kind_is [] b k e = absurd cc
kind_is (j ∷ ks) b k e = kind_here j k b (kind_among ks b) (eqb b (byte_of j)) refl e (kind_is ks b k)

abbrev pub made : List ℕ → Kind → Value → List ℕ → ElementRead
made name k part rest = record { name = name; kind = k; value = part; rest = rest }

kinded_takes : (depth p b : ℕ) (o : Option Kind) (bytes : List ℕ) (e : ElementRead) → kind_of b ≡ o → IsBytes bytes → kinded_at depth p o bytes ≡ Ok e → Takes (b ∷ bytes) (element_bytes e) e.rest × IsElement depth p e
kinded_takes depth p b None bytes e o fits h = absurd cc
kinded_takes depth p b (Some k) bytes e o fits h =
    let a = bind_ok (told_at p (cstring_at bytes)) (λ name. value_at depth p (p + length name.0 + 2) (form_of k) name.1 >>= λ value. Ok (made name.0 k value.0 value.1)) e h in
    let v = bind_ok (value_at depth p (p + length a.0.0 + 2) (form_of k) a.0.1) (λ value. Ok (made a.0.0 k value.0 value.1)) e a.2 in
    let t = cstring_takes bytes a.0 fits (told_at_ok p (cstring_at bytes) a.0 a.1) in
    let u = part_takes depth p (p + length a.0.0 + 2) (form_of k) a.0.1 v.0 t.0.rest_fits v.1 in
    let both = Takes-then bytes (cstring a.0.0) a.0.1 (value_bytes (form_of k) v.0.0) v.0.1 t.0 u.0 in
    let byte_is : b ≡ byte_of k = kind_is all_kinds b k o in
    subst (λ (y : ElementRead). Takes (b ∷ bytes) (element_bytes y) y.rest × IsElement depth p y) (ok_is {E = BsonFault} (made a.0.0 k v.0.0 v.0.1) e v.2)
    (record { parts = ap (λ (t : List ℕ). b ∷ t) both.parts ∙ ap (λ (j : ℕ). j ∷ ((cstring a.0.0 ++ value_bytes (form_of k) v.0.0) ++ v.0.1)) byte_is; rest_fits = both.rest_fits }, record { name = t.1; part = u.1; offset = u.2 })

-- Bytes from which an element is read begin with that element's spelling.
pub element_takes : (depth s p : ℕ) (bytes : List ℕ) (e : ElementRead) → IsBytes bytes → element_at depth s p bytes ≡ Ok e → Takes bytes (element_bytes e) e.rest × IsElement depth p e
unfolding element_at
element_takes depth s p [] e fits h = absurd cc
element_takes depth s p (b ∷ bytes) e fits h =
    let g = guard_else (eqb b 0) (fault s causes.End) (kinded_at depth p (kind_of b) bytes) e h in
    kinded_takes depth p b (kind_of b) bytes e refl (λ i. fits (suc i)) g.1

-- The spelling of an element is read as that element.
pub element_again : (depth s p : ℕ) (e : ElementRead) → IsElement depth p e → element_at depth s p (element_bytes e ++ e.rest) ≡ Ok e
unfolding element_at
element_again depth s p e h =
    let regrouped : element_bytes e ++ e.rest ≡ byte_of e.kind ∷ (cstring e.name ++ (value_bytes (form_of e.kind) e.value ++ e.rest)) = ap (λ (t : List ℕ). byte_of e.kind ∷ t) (append_assoc (cstring e.name) (value_bytes (form_of e.kind) e.value) e.rest) in
    ap (element_at depth s p) regrouped
    ∙ rw (kind_nonzero e.kind, kind_back e.kind, cstring_again e.name (value_bytes (form_of e.kind) e.value ++ e.rest) h.name, part_again depth p (p + length e.name + 2) (form_of e.kind) e.value e.rest h.part h.offset) refl
