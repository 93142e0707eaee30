-- A name, from the offset of its 0.
use Rattle.std.proofs.Common.{◌≡◌, ◌≢◌, ℕ, get_or, subst, sym, ◌+◌, ◌<◌, Bool, true, false, cond, ltb, List, length, take, drop, Option, Some, None, Result, Ok, Err, refl, ap, ◌∙◌, arith, inl, inr}
use Rattle.std.specs.Prelude.{position, IsOk}
use Rattle.std.specs.Str.{is_utf8, IsAscii}
use Rattle.std.specs.List.{position_or_len}
use Rattle.std.proofs.lemmas.Bool.{ltb-true, le-ltb, lt-ltb, eq-eqb, ne_eqb, false_from_ne_true, cases_Bool}
use Rattle.std.proofs.lemmas.List.{get_or-take, length-take}
use Rattle.std.proofs.lemmas.List.Sums.{position_or_len_is}
use Rattle.std.proofs.lemmas.Str.{is_utf8-from_IsUtf8, IsUtf8-from_ascii}
use Rattle.std.proofs.lemmas.Str.Ascii.{IsAscii-from_reads}
use Rattle.memchr.specs.Find.{IsFirstByte, is_byte}
use Rattle.bson_elem.specs.declared.fault.BsonCause.TheVariants.{Truncated, Name}
use Rattle.bson_elem.specs.Checks.{is_zero, name_until, cstring_at}

some_offset : (b : Bool) (m n : ℕ) → cond b (Some m) None ≡ Some n → (b ≡ true) × (m ≡ n)
some_offset true m n e = (refl, cc)
some_offset false m n e = absurd cc

no_offset : (b : Bool) (m : ℕ) → cond b (Some m) None ≡ None → b ≡ false
no_offset true m e = absurd cc
no_offset false m e = refl

found : (bytes : List ℕ) (n : ℕ) → position is_zero bytes ≡ Some n → (n < length bytes) × (cstring_at bytes ≡ name_until n bytes)
unfolding cstring_at
found bytes n e =
    let s = some_offset (ltb (position_or_len is_zero bytes) (length bytes)) (position_or_len is_zero bytes) n e in
    let lt : position_or_len is_zero bytes < length bytes = ltb-true _ _ s.0 in
    (omega (arith, lt, s.1), ap (λ (k : ℕ). name_until k bytes) s.1)

pub not_found : (bytes : List ℕ) → position is_zero bytes ≡ None → cstring_at bytes ≡ Err Truncated
unfolding cstring_at
not_found bytes e = rw (no_offset (ltb (position_or_len is_zero bytes) (length bytes)) (position_or_len is_zero bytes) e) refl

pub no_name : (bytes : List ℕ) (n : ℕ) → position is_zero bytes ≡ Some n → is_utf8 (take n bytes) ≡ false → cstring_at bytes ≡ Err Name
no_name bytes n e f =
    let g = found bytes n e in
    let long : ltb n (length bytes) ≡ true = lt-ltb _ _ g.0 in
    g.1 ∙ rw (long, f) refl

pub a_name : (bytes : List ℕ) (n : ℕ) → position is_zero bytes ≡ Some n → is_utf8 (take n bytes) ≡ true → cstring_at bytes ≡ Ok (take n bytes, drop (n + 1) bytes)
a_name bytes n e f =
    let g = found bytes n e in
    let long : ltb n (length bytes) ≡ true = lt-ltb _ _ g.0 in
    g.1 ∙ rw (long, f) refl

no_ok : {A E : Type 0} (r : Result A E) (e : E) → r ≡ Err e → IsOk r → ⊥
no_ok (Ok x) e is ok = absurd cc
no_ok (Err d) e is ok = absurd cc

-- a name whose checks are known to succeed
pub checked_name : (bytes : List ℕ) (n : ℕ) → position is_zero bytes ≡ Some n → IsOk (cstring_at bytes) → cstring_at bytes ≡ Ok (take n bytes, drop (n + 1) bytes)
checked_name bytes n e ok =
    elim (cases_Bool (is_utf8 (take n bytes))) [
      | inl t ↦ a_name bytes n e t
      | inr f ↦ absurd (no_ok (cstring_at bytes) Name (no_name bytes n e f) ok)
    ]

pub offset_below : (bytes : List ℕ) (n : ℕ) → position is_zero bytes ≡ Some n → n < length bytes
offset_below bytes n e = (found bytes n e).0

-- a search for the first 0 returns the offset of the first 0
pub first_zero_offset : (bytes : List ℕ) (r : Option ℕ) → IsFirstByte (is_byte 0) bytes r → r ≡ position is_zero bytes
first_zero_offset bytes None nowhere =
    let all : position_or_len is_zero bytes ≡ length bytes = position_or_len_is is_zero bytes (length bytes) 0 (omega arith) (λ k lt. false_from_ne_true _ (nowhere k (omega arith) lt)) (λ lt. absurd (omega (arith, lt))) in
    let past : ltb (length bytes) (length bytes) ≡ false = le-ltb _ _ (omega arith) in
    rw (all, past) refl
first_zero_offset bytes (Some n) first =
    let here : position_or_len is_zero bytes ≡ n = position_or_len_is is_zero bytes n 0 (omega (arith, first.0.high)) (λ k lt. false_from_ne_true _ (first.0.before k (omega arith) lt)) (λ lt. first.1) in
    let below : ltb n (length bytes) ≡ true = lt-ltb _ _ first.0.high in
    rw (here, below) refl

-- no byte before this one is 0 or outside ASCII
abbrev pub IsNonzeroAsciiTo : List ℕ → ℕ → Type 0
IsNonzeroAsciiTo bytes n = (k : ℕ) → k < n → (get_or bytes k 0 ≢ 0) × (get_or bytes k 0 < 128)

-- a 0 behind such bytes is the first, and they are a text
pub near_offset : (bytes : List ℕ) (n : ℕ) → n < length bytes → IsNonzeroAsciiTo bytes n → get_or bytes n 0 ≡ 0 → (position is_zero bytes ≡ Some n) × (is_utf8 (take n bytes) ≡ true)
near_offset bytes n lt plain zero_here =
    let here : position_or_len is_zero bytes ≡ n = position_or_len_is is_zero bytes n 0 (omega arith) (λ k low. ne_eqb _ _ (plain k low).0) (λ _. eq-eqb _ _ zero_here) in
    let below : ltb n (length bytes) ≡ true = lt-ltb _ _ lt in
    let ascii : IsAscii (take n bytes) = IsAscii-from_reads (take n bytes) n (omega (arith, length-take n bytes)) (λ k low. subst (λ (b : ℕ). b < 128) (sym (get_or-take n bytes k 0 low)) (plain k low).1) in
    (rw (here, below) refl, is_utf8-from_IsUtf8 (take n bytes) (IsUtf8-from_ascii (take n bytes) ascii))

pub ruleset names = (not_found, no_name, a_name, offset_below)
