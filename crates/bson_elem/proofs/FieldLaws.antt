-- Numbers, texts and names: what is read begins with its own spelling, and each spelling is read
-- back.
use Rattle.std.proofs.Common.{◌≡◌, ℕ, zero, suc, ◌+◌, ◌-◌, ◌^◌, ◌<◌, ◌≤◌, Bool, true, false, cond, ltb, leb, eqb, ◌||◌, List, [], ◌∷◌, ◌++◌, length, get_or, take, drop, Result, Ok, Err, refl, sym, ap, subst, ◌∙◌, append_assoc, arith, inl, inr, one-add}
use Rattle.std.specs.Prelude.{IsUtf8}
use Rattle.std.specs.Str.{is_utf8}
use Rattle.std.specs.List.{position_or_len}
use Rattle.std.specs.Int.{w32, from_le_bytes}
use Rattle.std.proofs.lemmas.Bool.{cases_lt, ltb-false, ltb-true, leb-false, eqb-true, le-ltb, lt-ltb, ne_eqb, lt-leb, or_parts}
use Rattle.std.proofs.lemmas.List.{take_at, drop_at, take-append-drop, length-append, length-take, get_or-drop, get_or-take, get_or_past, take_more, get_or_at}
use Rattle.std.proofs.lemmas.Nat.{le_bytes_4, from_le_bytes-to_le_bytes_4}
use Rattle.std.proofs.lemmas.Str.{IsUtf8-from_is_utf8, is_utf8-from_IsUtf8}
use Rattle.bson_elem.specs.declared.fault.BsonCause.{BsonCause}
use Rattle.bson_elem.specs.declared.fault.BsonCause.TheVariants.{Truncated, Length, TextEnd, Text, Name}
use Rattle.bson_elem.specs.Spelling.{little, cstring, string, IsBytes, HasNoZero, IsName, IsText}
use Rattle.bson_elem.specs.Checks.{◌>>=◌, little_at, length_at, text_at, string_at, is_zero, name_until, cstring_at}

-- ---- bytes

pub IsBytes-drop : (n : ℕ) (bytes : List ℕ) → IsBytes bytes → IsBytes (drop n bytes)
IsBytes-drop n bytes h i = rw get_or-drop (h (n + i))

pub IsBytes-take : (n : ℕ) (bytes : List ℕ) → IsBytes bytes → IsBytes (take n bytes)
IsBytes-take n bytes h i =
    elim (cases_lt i n) [
      | inl lt ↦ rw (get_or-take n bytes i 0 lt) (h i)
      | inr le ↦ rw (get_or_past (take n bytes) i 0 (omega (arith, length-take n bytes))) (omega arith)
    ]

-- ---- steps that did not fail

pub bind_ok : {A B E : Type 0} (r : Result A E) (f : A → Result B E) (y : B) → (r >>= f) ≡ Ok y → (x : A) × (r ≡ Ok x) × (f x ≡ Ok y)
bind_ok (Ok x) f y e = (x, refl, e)
bind_ok (Err d) f y e = absurd cc

-- a test that must fail, and one that must hold
pub guard_else : {A E : Type 0} (b : Bool) (d : E) (r : Result A E) (y : A) → cond b (Err d) r ≡ Ok y → (b ≡ false) × (r ≡ Ok y)
guard_else true d r y e = absurd cc
guard_else false d r y e = (refl, e)

pub guard_then : {A E : Type 0} (b : Bool) (d : E) (r : Result A E) (y : A) → cond b r (Err d) ≡ Ok y → (b ≡ true) × (r ≡ Ok y)
guard_then true d r y e = (refl, e)
guard_then false d r y e = absurd cc

abbrev done : {A E : Type 0} → A → Result A E
done x = Ok x

pub ok_is : {A E : Type 0} (x y : A) → done {E = E} x ≡ done y → x ≡ y
ok_is x y e = cc

-- what a reader took from the front
pub record Takes (bytes text rest : List ℕ) : Type 0 where
  pub parts : bytes ≡ text ++ rest
  pub rest_fits : IsBytes rest

pub Takes-then : (a x b y c : List ℕ) → Takes a x b → Takes b y c → Takes a (x ++ y) c
Takes-then a x b y c p q = record { parts = p.parts ∙ ap (λ (t : List ℕ). x ++ t) q.parts ∙ sym (append_assoc x y c); rest_fits = q.rest_fits }

-- ---- numbers

pub little_takes : (bytes : List ℕ) (x : ℕ × List ℕ) → IsBytes bytes → little_at bytes ≡ Ok x → Takes bytes (little x.0) x.1 × (x.0 < 2 ^ 32)
little_takes bytes x fits e =
    let g = guard_else (ltb (length bytes) 4) Truncated (Ok (from_le_bytes w32 (take 4 bytes), drop 4 bytes)) x e in
    let long : 4 ≤ length bytes = ltb-false _ _ g.0 in
    let front : little (from_le_bytes w32 (take 4 bytes)) ≡ take 4 bytes = le_bytes_4 (take 4 bytes) _ (omega (arith, length-take 4 bytes)) (IsBytes-take 4 bytes fits) refl in
    let below : from_le_bytes w32 (take 4 bytes) < 2 ^ 32 = let f = IsBytes-take 4 bytes fits in omega (arith, f 0, f 1, f 2, f 3) in
    subst (λ (y : ℕ × List ℕ). Takes bytes (little y.0) y.1 × (y.0 < 2 ^ 32)) (ok_is {E = BsonCause} (from_le_bytes w32 (take 4 bytes), drop 4 bytes) x g.1)
    (record { parts = sym (ap (λ (t : List ℕ). t ++ drop 4 bytes) front ∙ take-append-drop 4 bytes); rest_fits = IsBytes-drop 4 bytes fits }, below)

-- Said of any four bytes, not of `little n`: that computes to four cells, and then `rw` doesn't find it.
little_front : (front rest : List ℕ) → length front ≡ 4 → little_at (front ++ rest) ≡ Ok (from_le_bytes w32 front, rest)
little_front front rest len =
    let long : ltb (length (front ++ rest)) 4 ≡ false = le-ltb _ _ (omega (arith, length-append front rest)) in
    rw (long, take_at front rest 4 len, drop_at front rest 4 len) refl

pub little_again : (n : ℕ) (rest : List ℕ) → n < 2 ^ 32 → little_at (little n ++ rest) ≡ Ok (n, rest)
little_again n rest lt = little_front (little n) rest refl ∙ ap (λ (k : ℕ). Ok (k, rest)) (from_le_bytes-to_le_bytes_4 n lt)

pub length_takes : (least : ℕ) (bytes : List ℕ) (x : ℕ × List ℕ) → IsBytes bytes → length_at least bytes ≡ Ok x → Takes bytes (little x.0) x.1 × (least ≤ x.0) × (x.0 < 2 ^ 31)
length_takes least bytes x fits e =
    let a = bind_ok (little_at bytes) (λ n. cond (ltb n.0 least || leb (2 ^ 31) n.0) (Err Length) (Ok n)) x e in
    let g = guard_else (ltb a.0.0 least || leb (2 ^ 31) a.0.0) Length (Ok a.0) x a.2 in
    let t = little_takes bytes a.0 fits a.1 in
    let o = or_parts _ _ g.0 in
    subst (λ (y : ℕ × List ℕ). Takes bytes (little y.0) y.1 × (least ≤ y.0) × (y.0 < 2 ^ 31)) (ok_is {E = BsonCause} a.0 x g.1)
    (t.0, ltb-false _ _ o.0, leb-false _ _ o.1)

pub length_again : (least n : ℕ) (rest : List ℕ) → least ≤ n → n < 2 ^ 31 → length_at least (little n ++ rest) ≡ Ok (n, rest)
length_again least n rest low high =
    let test : (ltb n least || leb (2 ^ 31) n) ≡ false = rw (le-ltb n least low, lt-leb (2 ^ 31) n high) refl in
    rw (little_again n rest (omega arith), test) refl

-- ---- texts

-- the first n bytes, the byte b after them, and the rest
pub past_one : (n : ℕ) (bytes : List ℕ) (b : ℕ) → n < length bytes → get_or bytes n 0 ≡ b → bytes ≡ (take n bytes ++ b ∷ []) ++ drop (n + 1) bytes
past_one n bytes b lt e = sym (rw (← e, ← take_more bytes n 0 lt) (take-append-drop (n + 1) bytes))

pub text_takes : (n : ℕ) (bytes : List ℕ) (x : List ℕ × List ℕ) → IsBytes bytes → n < length bytes → text_at n bytes ≡ Ok x → Takes bytes (cstring x.0) x.1 × IsUtf8 x.0 × (length x.0 ≡ n)
text_takes n bytes x fits lt e =
    let g = guard_then (is_utf8 (take n bytes)) Text (cond (eqb (get_or bytes n 0) 0) (Ok (take n bytes, drop (n + 1) bytes)) (Err TextEnd)) x e in
    let h = guard_then (eqb (get_or bytes n 0) 0) TextEnd (Ok (take n bytes, drop (n + 1) bytes)) x g.1 in
    subst (λ (y : List ℕ × List ℕ). Takes bytes (cstring y.0) y.1 × IsUtf8 y.0 × (length y.0 ≡ n)) (ok_is {E = BsonCause} (take n bytes, drop (n + 1) bytes) x h.1)
    (record { parts = past_one n bytes 0 lt (eqb-true _ _ h.0); rest_fits = IsBytes-drop (n + 1) bytes fits }, IsUtf8-from_is_utf8 _ g.0, omega (arith, length-take n bytes))

-- a text and its 0, in front of a rest
pub parts_of : (words rest : List ℕ) → (take (length words) (cstring words ++ rest) ≡ words) × (drop (length words + 1) (cstring words ++ rest) ≡ rest) × (get_or (cstring words ++ rest) (length words) 0 ≡ 0) × (length (cstring words ++ rest) ≡ length words + 1 + length rest)
parts_of words rest =
    let regrouped : cstring words ++ rest ≡ words ++ 0 ∷ rest = append_assoc words (0 ∷ []) rest in
    (rw regrouped (take_at words (0 ∷ rest) (length words) refl), drop_at (cstring words) rest (length words + 1) (omega (arith, length-append words (0 ∷ []))), rw regrouped (get_or_at words 0 rest 0 (length words) refl), omega (arith, length-append (cstring words) rest, length-append words (0 ∷ [])))

pub string_takes : (bytes : List ℕ) (x : List ℕ × List ℕ) → IsBytes bytes → string_at bytes ≡ Ok x → Takes bytes (string x.0) x.1 × IsText x.0
unfolding string_at
string_takes bytes x fits e =
    let a = bind_ok (length_at 1 bytes) (λ n. cond (ltb (length n.1) n.0) (Err Truncated) (text_at (n.0 - 1) n.1)) x e in
    let n = a.0 in
    let t = length_takes 1 bytes n fits a.1 in
    let g = guard_else (ltb (length n.1) n.0) Truncated (text_at (n.0 - 1) n.1) x a.2 in
    let long : n.0 ≤ length n.1 = ltb-false _ _ g.0 in
    let w = text_takes (n.0 - 1) n.1 x t.0.rest_fits (omega (arith, t.1, long)) g.1 in
    let same : n.0 ≡ length x.0 + 1 = omega (arith, w.2, t.1) in
    let both = Takes-then bytes (little n.0) n.1 (cstring x.0) x.1 t.0 w.0 in
    (subst (λ (k : ℕ). Takes bytes (little k ++ cstring x.0) x.1) same both, record { is_text = w.1; short = omega (arith, same, t.2) })

pub string_again : (words rest : List ℕ) → IsText words → string_at (string words ++ rest) ≡ Ok (words, rest)
unfolding string_at
string_again words rest is =
    let p = parts_of words rest in
    let regrouped : string words ++ rest ≡ little (length words + 1) ++ (cstring words ++ rest) = append_assoc (little (length words + 1)) (cstring words) rest in
    let long : ltb (length (cstring words ++ rest)) (length words + 1) ≡ false = le-ltb _ _ (omega (arith, p.3)) in
    let back : length words + 1 - 1 ≡ length words = omega arith in
    let inside : text_at (length words) (cstring words ++ rest) ≡ Ok (words, rest) = rw (p.0, p.1, p.2, is_utf8-from_IsUtf8 words is.is_text) refl in
    ap string_at regrouped ∙ rw (length_again 1 (length words + 1) (cstring words ++ rest) (omega arith) is.short, long, back) inside

-- ---- names

is_zero-suc : (b : ℕ) → is_zero (suc b) ≡ false
is_zero-suc b = ne_eqb (suc b) 0 (λ e. omega (arith, e))

past_cell : (b : ℕ) (bytes : List ℕ) → position_or_len is_zero (suc b ∷ bytes) ≡ suc (position_or_len is_zero bytes)
past_cell b bytes = rw (is_zero-suc b, one-add) refl

-- no byte before the first 0 is 0
no_zero_before : (bytes : List ℕ) → HasNoZero (take (position_or_len is_zero bytes) bytes)
no_zero_before [] = tt
no_zero_before (zero ∷ bytes) = tt
no_zero_before (suc b ∷ bytes) = subst (λ (n : ℕ). HasNoZero (take n (suc b ∷ bytes))) (sym (past_cell b bytes)) ((λ e. omega (arith, e)), no_zero_before bytes)

zero_there : (bytes : List ℕ) → position_or_len is_zero bytes < length bytes → get_or bytes (position_or_len is_zero bytes) 0 ≡ 0
zero_there [] lt = absurd (omega (arith, lt))
zero_there (zero ∷ bytes) lt = refl
zero_there (suc b ∷ bytes) lt = ap (λ (n : ℕ). get_or (suc b ∷ bytes) n 0) (past_cell b bytes) ∙ zero_there bytes (let e = past_cell b bytes in omega (arith, e, lt))

first_zero : (name rest : List ℕ) → HasNoZero name → position_or_len is_zero (name ++ 0 ∷ rest) ≡ length name
first_zero [] rest h = refl
first_zero (zero ∷ name) rest h = absurd (h.0 refl)
first_zero (suc b ∷ name) rest h = past_cell b (name ++ 0 ∷ rest) ∙ ap suc (first_zero name rest h.1)

pub cstring_takes : (bytes : List ℕ) (x : List ℕ × List ℕ) → IsBytes bytes → cstring_at bytes ≡ Ok x → Takes bytes (cstring x.0) x.1 × IsName x.0
unfolding cstring_at
cstring_takes bytes x fits e =
    let n = position_or_len is_zero bytes in
    let g = guard_then (ltb n (length bytes)) Truncated (cond (is_utf8 (take n bytes)) (Ok (take n bytes, drop (n + 1) bytes)) (Err Name)) x e in
    let h = guard_then (is_utf8 (take n bytes)) Name (Ok (take n bytes, drop (n + 1) bytes)) x g.1 in
    let lt : n < length bytes = ltb-true _ _ g.0 in
    subst (λ (y : List ℕ × List ℕ). Takes bytes (cstring y.0) y.1 × IsName y.0) (ok_is {E = BsonCause} (take n bytes, drop (n + 1) bytes) x h.1)
    (record { parts = past_one n bytes 0 lt (zero_there bytes lt); rest_fits = IsBytes-drop (n + 1) bytes fits }, record { is_text = IsUtf8-from_is_utf8 _ h.0; no_zero = no_zero_before bytes })

pub cstring_again : (name rest : List ℕ) → IsName name → cstring_at (cstring name ++ rest) ≡ Ok (name, rest)
unfolding cstring_at
cstring_again name rest h =
    let p = parts_of name rest in
    let at : position_or_len is_zero (cstring name ++ rest) ≡ length name = ap (position_or_len is_zero) (append_assoc name (0 ∷ []) rest) ∙ first_zero name rest h.no_zero in
    let long : ltb (length name) (length (cstring name ++ rest)) ≡ true = lt-ltb _ _ (omega (arith, p.3)) in
    let inside : name_until (length name) (cstring name ++ rest) ≡ Ok (name, rest) = rw (long, p.0, p.1, is_utf8-from_IsUtf8 name h.is_text) refl in
    ap (λ n. name_until n (cstring name ++ rest)) at ∙ inside
