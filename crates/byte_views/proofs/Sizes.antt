-- The table of the sizes of values, by their type bytes.
use Rattle.std.proofs.Common.{◌≡◌, ℕ, zero, suc, ◌+◌, ◌<◌, ◌≤◌, List, [], ◌∷◌, Ok, Some, arith, drop, get_or, length, refl, subst, sym, take}
use Rattle.std.specs.Int.{w32, w64, cast_signed, from_le_bytes}
use Rattle.std.proofs.lemmas.Bool.{le-ltb}
use Rattle.std.proofs.lemmas.List.{drop-drop, length-drop}
use Rattle.bson_elem.specs.declared.kinds.Kind.{Kind}
use Rattle.bson_elem.specs.declared.kinds.Kind.TheVariants as kinds
use Rattle.bson_elem.specs.Kinds.{form_of, int64_form, kind_of, raw_form, timestamp_form}
use Rattle.bson_elem.specs.Trees.{number_value, raw_value, timestamp_value}
use Rattle.bson_elem.specs.Checks.{a_leaf, leaf_at, value_at}
use Rattle.byte_views.specs.Quick.{HasSize}
use Rattle.byte_views.proofs.QuickLaws.{int32_read, int64_read, raw_read}

timestamp_read : (depth at from : ℕ) (rest : List ℕ) → 8 ≤ length rest → value_at depth at from timestamp_form rest ≡ Ok (a_leaf (timestamp_value (from_le_bytes w32 (take 4 rest)) (from_le_bytes w32 (take 4 (drop 4 rest)))), drop 8 rest)
unfolding value_at leaf_at
timestamp_read depth at from rest long =
    let more : 4 ≤ length (drop 4 rest) = omega (arith, length-drop 4 rest, long) in
    rw (le-ltb (length rest) 4 (omega (arith, long)), le-ltb (length (drop 4 rest)) 4 more, drop-drop 4 4 rest) refl

raw_size : (byte n : ℕ) (k : Kind) → kind_of byte ≡ Some k → form_of k ≡ raw_form n → HasSize byte n
raw_size byte n k some form =
    (k, some, λ depth at from rest long. (a_leaf (raw_value (take n rest)), subst (λ f. value_at depth at from f rest ≡ Ok (a_leaf (raw_value (take n rest)), drop n rest)) (sym form) (raw_read depth at from n rest long)))

int64_size : (byte : ℕ) (k : Kind) → kind_of byte ≡ Some k → form_of k ≡ int64_form → HasSize byte 8
int64_size byte k some form =
    (k, some, λ depth at from rest long. (a_leaf (number_value (cast_signed w64 (from_le_bytes w64 (take 8 rest)))), subst (λ f. value_at depth at from f rest ≡ Ok (a_leaf (number_value (cast_signed w64 (from_le_bytes w64 (take 8 rest)))), drop 8 rest)) (sym form) (int64_read depth at from rest long)))

int32_size : HasSize 16 4
int32_size = (kinds.Int32, refl, λ depth at from rest long. (a_leaf (number_value (cast_signed w32 (from_le_bytes w32 (take 4 rest)))), int32_read depth at from rest long))

timestamp_size : HasSize 17 8
timestamp_size = (kinds.Timestamp, refl, λ depth at from rest long. (a_leaf (timestamp_value (from_le_bytes w32 (take 4 rest)) (from_le_bytes w32 (take 4 (drop 4 rest)))), timestamp_read depth at from rest long))

-- what a number of the table says of its byte
abbrev IsRight : ℕ → ℕ → Type 0
IsRight byte n = (n ≡ 255 → ⊥) → HasSize byte n

no_size : (byte : ℕ) → IsRight byte 255
no_size byte some = absurd (some refl)

abbrev AllRight : ℕ → List ℕ → Type 0
AllRight byte [] = Unit {0}
AllRight byte (n ∷ ns) = IsRight byte n × AllRight (byte + 1) ns

right_at : (ns : List ℕ) (byte i d : ℕ) → AllRight byte ns → i < length ns → IsRight (byte + i) (get_or ns i d)
right_at [] byte i d all lt = absurd (omega arith)
right_at (n ∷ ns) byte zero d all lt =
    let is : byte ≡ byte + 0 = omega arith in
    subst (λ b. IsRight b n) is all.0
right_at (n ∷ ns) byte (suc i) d all lt =
    let is : byte + 1 + i ≡ byte + suc i = omega arith in
    subst (λ b. IsRight b (get_or ns i d)) is (right_at ns (byte + 1) i d all.1 (omega arith))

abbrev sizes : List ℕ
sizes =
    255 ∷ 8 ∷ 255 ∷ 255 ∷ 255 ∷ 255 ∷ 0 ∷ 12 ∷ 255 ∷ 8 ∷ 0 ∷ 255 ∷ 255 ∷ 255 ∷ 255 ∷ 255 ∷ 4 ∷ 8 ∷ 8 ∷ 16 ∷ []

all_right : AllRight 0 sizes
all_right =
    (no_size 0, (λ some. raw_size 1 8 kinds.Double refl refl, (no_size 2, (no_size 3, (no_size 4, (no_size 5, (λ some. raw_size 6 0 kinds.Undefined refl refl, (λ some. raw_size 7 12 kinds.ObjectId refl refl, (no_size 8, (λ some. int64_size 9 kinds.DateTime refl refl, (λ some. raw_size 10 0 kinds.Null refl refl, (no_size 11, (no_size 12, (no_size 13, (no_size 14, (no_size 15, (λ some. int32_size, (λ some. timestamp_size, (λ some. int64_size 18 kinds.Int64 refl refl, (λ some. raw_size 19 16 kinds.Decimal128 refl refl, tt))))))))))))))))))))

-- the table's number at the place of a type byte is the size of its values, unless it is 255
pub size_at : (byte i d : ℕ) → i ≡ byte → i < 20 → (get_or sizes i d ≡ 255 → ⊥) → HasSize byte (get_or sizes i d)
size_at byte i d is lt some =
    let at : 0 + i ≡ byte = omega (arith, is) in
    subst (λ b. HasSize b (get_or sizes i d)) at (right_at sizes 0 i d all_right lt some)
