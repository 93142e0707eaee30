-- Names that are the digits of an index.
use Rattle.std.proofs.Common.{◌≡◌, ◌≢◌, ℕ, suc, ◌+◌, ◌-◌, ◌<◌, ◌≤◌, ◌^◌, ◌/◌, ◌%◌, Bool, true, false, ◌&&◌, eqb, List, [], ◌∷◌, ◌++◌, length, get_or, take, drop, Ok, refl, sym, ap, ◌∙◌, arith, eq-eqb}
use Rattle.std.specs.Str.{bytes_eq}
use Rattle.std.specs.Fmt.{decimal}
use Rattle.std.proofs.Math.Seq.{take-suc, take-length}
use Rattle.std.proofs.lemmas.Bool.{ne_eqb}
use Rattle.std.proofs.lemmas.Fmt.{decimal_digit, decimal_step, decimal_is_IsNumeral, IsAscii-decimal}
use Rattle.std.specs.Str.Parse.{AllDigits}
use Rattle.std.proofs.lemmas.Slice.Eq.{bytes_eq-Decides}
use Rattle.std.proofs.lemmas.Str.{IsUtf8-from_ascii}
use Rattle.std.proofs.lemmas.Str.Parse.{digit_from_value}
use Rattle.bson_elem.specs.Spelling.{cstring, HasNoZero, IsName}
use Rattle.bson_elem.specs.Checks.{cstring_at}
use Rattle.bson_elem.proofs.Lemmas.{cstring_again, past_one}
use Rattle.bson_raw.proofs.Naming.{and_true}

and_false : (a : Bool) → (a && false) ≡ false
and_false true = refl
and_false false = refl

one_byte : (bytes : List ℕ) (d : ℕ) → bytes_eq bytes (d ∷ []) ≡ (eqb (length bytes) 1 && eqb (get_or bytes 0 0) d)
one_byte [] d = refl
one_byte (b ∷ []) d = and_true (eqb b d)
one_byte (b ∷ c ∷ rest) d =
    let long : eqb (length (b ∷ c ∷ rest)) 1 ≡ false = ne_eqb (length (b ∷ c ∷ rest)) 1 (λ (e : length (b ∷ c ∷ rest) ≡ 1). omega (arith, e)) in
    and_false (eqb b d) ∙ sym (ap (λ (t : Bool). t && eqb b d) long)

-- the name is that of an index below 10 exactly if it is the digit of the index
pub digit_name : (bytes : List ℕ) (index : ℕ) → index < 10 → bytes_eq bytes (decimal index) ≡ (eqb (length bytes) 1 && eqb (get_or bytes 0 0) (48 + index))
digit_name bytes index lt = ap (bytes_eq bytes) (decimal_digit index lt) ∙ one_byte bytes (48 + index)

none_is_longer : (ys : List ℕ) (b : ℕ) → bytes_eq [] (ys ++ b ∷ []) ≡ false
none_is_longer [] b = refl
none_is_longer (y ∷ ys) b = refl

longer_is_none : (xs : List ℕ) (a : ℕ) → bytes_eq (xs ++ a ∷ []) [] ≡ false
longer_is_none [] a = refl
longer_is_none (x ∷ xs) a = refl

and_swap : (a b c : Bool) → (a && (b && c)) ≡ (b && (a && c))
and_swap true b c = refl
and_swap false b c = sym (and_false b)

-- bytes are the same exactly if their last bytes are and the bytes before those are
last_byte : (xs ys : List ℕ) (a b : ℕ) → bytes_eq (xs ++ a ∷ []) (ys ++ b ∷ []) ≡ (eqb a b && bytes_eq xs ys)
last_byte [] [] a b = refl
last_byte [] (y ∷ ys) a b = ap (λ (t : Bool). eqb a y && t) (none_is_longer ys b) ∙ and_false (eqb a y) ∙ sym (and_false (eqb a b))
last_byte (x ∷ xs) [] a b = ap (λ (t : Bool). eqb x b && t) (longer_is_none xs a) ∙ and_false (eqb x b) ∙ sym (and_false (eqb a b))
last_byte (x ∷ xs) (y ∷ ys) a b = ap (λ (t : Bool). eqb x y && t) (last_byte xs ys a b) ∙ and_swap (eqb x y) (eqb a b) (bytes_eq xs ys)

ends_in : (name : List ℕ) → 1 ≤ length name → name ≡ take (length name - 1) name ++ get_or name (length name - 1) 0 ∷ []
ends_in name some =
    let n : suc (length name - 1) ≡ length name = omega arith in
    sym (take-length name) ∙ ap (λ (k : ℕ). take k name) (sym n) ∙ take-suc name (length name - 1) 0 (omega arith)

-- the name is that of an index from 10 on exactly if its last byte is the last digit of the index, and the others are
-- the digits of a tenth of it
last_digit : (name : List ℕ) (index : ℕ) → 1 ≤ length name → 10 ≤ index → index < 2 ^ 64
    → bytes_eq name (decimal index) ≡ (eqb (get_or name (length name - 1) 0) (48 + index % 10) && bytes_eq (take (length name - 1) name) (decimal (index / 10)))
last_digit name index some le fits =
    ap (λ (n : List ℕ). bytes_eq n (decimal index)) (ends_in name some) ∙ ap (bytes_eq (take (length name - 1) name ++ get_or name (length name - 1) 0 ∷ [])) (decimal_step index le fits)
    ∙ last_byte (take (length name - 1) name) (decimal (index / 10)) (get_or name (length name - 1) 0) (48 + index % 10)

pub same_digit : (name : List ℕ) (index : ℕ) (others : Bool) → 1 ≤ length name → 10 ≤ index → index < 2 ^ 64 → get_or name (length name - 1) 0 ≡ 48 + index % 10
    → others ≡ bytes_eq (take (length name - 1) name) (decimal (index / 10)) → others ≡ bytes_eq name (decimal index)
same_digit name index others some le fits same is =
    is ∙ sym (last_digit name index some le fits ∙ ap (λ (t : Bool). t && bytes_eq (take (length name - 1) name) (decimal (index / 10))) (eq-eqb (get_or name (length name - 1) 0) (48 + index % 10) same))

pub other_digit : (name : List ℕ) (index : ℕ) → 1 ≤ length name → 10 ≤ index → index < 2 ^ 64 → get_or name (length name - 1) 0 ≢ 48 + index % 10 → bytes_eq name (decimal index) ≡ false
other_digit name index some le fits other =
    last_digit name index some le fits ∙ ap (λ (t : Bool). t && bytes_eq (take (length name - 1) name) (decimal (index / 10))) (ne_eqb (get_or name (length name - 1) 0) (48 + index % 10) other)

two_bytes : (bytes : List ℕ) (d e : ℕ) → bytes_eq bytes (d ∷ e ∷ []) ≡ (eqb (length bytes) 2 && (eqb (get_or bytes 0 0) d && eqb (get_or bytes 1 0) e))
two_bytes [] d e = refl
two_bytes (a ∷ []) d e = and_false (eqb a d)
two_bytes (a ∷ b ∷ []) d e = ap (λ (t : Bool). eqb a d && t) (and_true (eqb b e))
two_bytes (a ∷ b ∷ c ∷ rest) d e =
    let long : eqb (length (a ∷ b ∷ c ∷ rest)) 2 ≡ false = ne_eqb (length (a ∷ b ∷ c ∷ rest)) 2 (λ (s : length (a ∷ b ∷ c ∷ rest) ≡ 2). omega (arith, s)) in
    ap (λ (t : Bool). eqb a d && t) (and_false (eqb b e)) ∙ and_false (eqb a d) ∙ sym (ap (λ (t : Bool). t && (eqb a d && eqb b e)) long)

-- the name is that of an index of two digits exactly if it is those two
pub digits_name : (bytes : List ℕ) (index : ℕ) → 10 ≤ index → index < 100
    → bytes_eq bytes (decimal index) ≡ (eqb (length bytes) 2 && (eqb (get_or bytes 0 0) (48 + index / 10) && eqb (get_or bytes 1 0) (48 + index % 10)))
digits_name bytes index low high =
    let front : decimal (index / 10) ≡ (48 + index / 10) ∷ [] = decimal_digit (index / 10) (omega arith) in
    ap (bytes_eq bytes) (decimal_step index low (omega arith) ∙ ap (λ (ds : List ℕ). ds ++ (48 + index % 10) ∷ []) front) ∙ two_bytes bytes (48 + index / 10) (48 + index % 10)

-- no index has the empty name
pub no_digit : (name : List ℕ) (index : ℕ) → length name < 1 → 10 ≤ index → index < 2 ^ 64 → bytes_eq name (decimal index) ≡ false
no_digit [] index none le fits = ap (bytes_eq []) (decimal_step index le fits) ∙ none_is_longer (decimal (index / 10)) (48 + index % 10)
no_digit (b ∷ bs) index none le fits = absurd (omega (arith, none))

no_zero : (digits : List ℕ) → AllDigits 10 digits → HasNoZero digits
no_zero [] d = tt
no_zero (c ∷ cs) d = let r = digit_from_value c d.0 in (λ e. omega (arith, e, r), no_zero cs d.1)

pub decimal_is_name : (index : ℕ) → index < 2 ^ 64 → IsName (decimal index)
decimal_is_name index small = record { is_text = IsUtf8-from_ascii (decimal index) (IsAscii-decimal index small); no_zero = no_zero (decimal index) (decimal_is_IsNumeral index small).0.1 }

-- if the name of an index and a 00 are at the front, that name is read
pub read_decimal : (bytes : List ℕ) (n index : ℕ) → n < length bytes → index < 2 ^ 64 → get_or bytes n 0 ≡ 0 → bytes_eq (take n bytes) (decimal index) ≡ true → cstring_at bytes ≡ Ok (decimal index, drop (n + 1) bytes)
read_decimal bytes n index lt small zero same =
    let name : take n bytes ≡ decimal index = (bytes_eq-Decides (take n bytes) (decimal index)).0 same in
    ap cstring_at (past_one n bytes 0 lt zero ∙ ap (λ (t : List ℕ). cstring t ++ drop (n + 1) bytes) name) ∙ cstring_again (decimal index) (drop (n + 1) bytes) (decimal_is_name index small)
