-- Leaves are read of their canonical JSON.
use Rattle.std.proofs.Common.{◌≡◌, ℕ, ℤ, pos, negsuc, zero, suc, ◌<◌, ◌≤◌, ◌^◌, List, [], ◌∷◌, ◌++◌, length, get_or, true, false, cond, ◌&&◌, T, not, Some, Ok, refl, sym, ap, ◌∙◌, subst, arith, append_assoc, codes, IsUtf8}
use Rattle.std.specs.Prelude.{decimal, is_nan, nat_lt, to_bits}
use Rattle.std.specs.Int.{w64, from_le_bytes, to_le_bytes}
use Rattle.std.specs.Float.{Float, binary64}
use Rattle.std.specs.Float.Ieee.{nan, inf, fin}
use Rattle.std.specs.Fmt.{signed_decimal}
use Rattle.std.specs.Str.Parse.{AllDigits, without_leading_plus}
use Rattle.std.proofs.lemmas.Nat.{le_bytes_8}
use Rattle.std.proofs.lemmas.Bool.{lt-ltb, ne_eqb}
use Rattle.std.proofs.lemmas.Fmt.{decimal_digit, decimal_is_IsNumeral}
use Rattle.std.proofs.lemmas.Str.Parse.{digit_from_value}
use Rattle.std.proofs.lemmas.Str.{IsUtf8-append}
use lib.Ieee.Bits.{to_bits-of_bits}
use lib.Signed.{mag}
use mir.Syntax.{w32}
use mir.Val.{SFits}
use Rattle.base64.specs.Engines.{standard}
use Rattle.base64.specs.GeneralPurpose.{encode_of}
use Rattle.hex.specs.Hex.{encode_lower}
use Rattle.hex.specs.Hex as hex
use Rattle.json.specs.Json as json
use Rattle.json.specs.Print.{IsNumber, escape, escape_byte, quoted}
use Rattle.json.specs.Tree.{HasNumbers, depth}
use Rattle.json.proofs.Printed.Decimals.{IsNumber-decimal}
use Rattle.json.proofs.Printed.Utf8.{IsUtf8-are_ascii, IsUtf8-boolean, IsUtf8-quoted, are_ascii}
use Rattle.bson_elem.specs.declared.kinds.Kind.{Kind}
use Rattle.bson_elem.specs.declared.kinds.Kind.TheVariants as kinds
use Rattle.bson_elem.specs.Kinds.{form_of}
use Rattle.bson_elem.specs.Spelling.{HasNoZero, IsOfForm}
use Rattle.bson_elem.specs.Trees.{Leaf, binary_value, boolean_value, number_value, pointer_value, raw_value, regex_value, text_value, timestamp_value}
use Rattle.bson_raw.specs.Doubles.{double_bytes, double_of}
use Rattle.bson_raw.specs.Pairs.{leaf_value}
use Rattle.bson_doc.specs.Unwritable.{has_zero}
use Rattle.bson_json.specs.declared.mode.Mode.TheVariants.{Canonical}
use Rattle.bson_json.specs.Decimals.{decimal128_text}
use Rattle.bson_json.specs.Json.{IsLeafJson, IsNumberText, object_id_json}
use Rattle.bson_json_read.specs.declared.form.Form.{Form}
use Rattle.bson_json_read.specs.declared.form.Form.TheVariants as forms
use Rattle.bson_json_read.specs.Forms.{form_name}
use Rattle.bson_json_read.specs.Lossless.{IsLosslessDouble, IsLosslessLeaf}
use Rattle.bson_json_read.specs.Numbers.{is_numeral, unsigned_of}
use Rattle.bson_json_read.specs.Values.{value_read}
use Rattle.bson_json_read.proofs.DecimalBack.{decimal128_back, decimal128_plain}
use Rattle.bson_json_read.proofs.Integers.{both, fits_passes, numeral_passes}
use Rattle.bson_json_read.proofs.PlainTexts.{IsPlain, plain_all, plain_base64, plain_decimal, plain_hex, plain_number, plain_signed}
use Rattle.bson_json_read.proofs.Printing.{json_text}
use Rattle.bson_json_read.proofs.ReadBack.{base64_back, double_back, hex_back, int32_back, int64_back, subtype_back}
use Rattle.bson_json_read.proofs.Walking.{value_at}

-- the JSON value that a leaf's text is, and of which the leaf is read
pub record LeafBack (k : Kind) (v : Leaf) (text : List ℕ) : Type 0 where
  pub value : json.Json
  pub printed : json_text value ≡ text
  pub numbers : HasNumbers value
  pub shallow : depth value ≤ 3
  pub read : (room : ℕ) → value_read room value ≡ Ok (leaf_value k v)
  pub utf8 : IsUtf8 text

-- objects of one member and of two
abbrev form_json : Form → json.Json → json.Json
form_json form j = json.object (json.member (form_name form) j json.no_members)

abbrev pair_json : List ℕ → json.Json → List ℕ → json.Json → json.Json
pair_json a i b j = json.object (json.member a i (json.member b j json.no_members))

-- a text that needs no escape, in quotes, and what stands behind it
quoted_then : (text rest : List ℕ) → IsPlain text → (escape text ++ 34 ∷ []) ++ rest ≡ text ++ (34 ∷ rest)
quoted_then text rest p = ap (λ l. (l ++ 34 ∷ []) ++ rest) p.escaped ∙ append_assoc text (34 ∷ []) rest

named_printed : (front text : List ℕ) → IsPlain text → front ++ (quoted text ++ 125 ∷ []) ≡ front ++ (34 ∷ (text ++ (34 ∷ 125 ∷ [])))
named_printed front text p = ap (λ l. front ++ (34 ∷ l)) (quoted_then text (125 ∷ []) p)

-- two members in an object of a form
both_closed : (a m b : List ℕ) → (a ++ (m ++ (b ++ 125 ∷ []))) ++ 125 ∷ [] ≡ a ++ (m ++ (b ++ (125 ∷ 125 ∷ [])))
both_closed a m b =
    append_assoc a (m ++ (b ++ 125 ∷ [])) (125 ∷ [])
    ∙ ap (λ l. a ++ l) (append_assoc m (b ++ 125 ∷ []) (125 ∷ []) ∙ ap (λ l. m ++ l) (append_assoc b (125 ∷ []) (125 ∷ [])))

-- a part between two others
parts : (a x b : List ℕ) → are_ascii a ≡ true → IsUtf8 x → IsUtf8 b → IsUtf8 (a ++ (x ++ b))
parts a x b e u v = IsUtf8-append a (x ++ b) (IsUtf8-are_ascii a e) (IsUtf8-append x b u v)

byte_alone : (b : ℕ) → b < 256 → hex.IsBytes (b ∷ [])
byte_alone b h zero = h
byte_alone b h (suc i) = omega arith

pub no_zero : (bytes : List ℕ) → HasNoZero bytes → has_zero bytes ≡ false
no_zero [] h = refl
no_zero (b ∷ bytes) h = rw (ne_eqb b 0 h.0) (no_zero bytes h.1)

mag_small : (z : ℤ) → SFits w64 z → mag z < 2 ^ 64
mag_small (pos n) h = let lt = h.sfits in omega arith
mag_small (negsuc n) h = let lt = h.sfits in omega arith

mag_smaller : (z : ℤ) → SFits w32 z → mag z < 2 ^ 64
mag_smaller (pos n) h = let lt = h.sfits in omega arith
mag_smaller (negsuc n) h = let lt = h.sfits in omega arith

-- ---- integers without a sign

without_plus : (ds : List ℕ) → AllDigits 10 ds → without_leading_plus ds ≡ ds
without_plus [] h = refl
without_plus (d ∷ ds) h = let r = digit_from_value d h.0 in rw (ne_eqb d 43 (λ e. omega arith)) refl

unsigned_back : (n : ℕ) → n < 2 ^ 32 → unsigned_of (decimal n) ≡ Some n
unsigned_back n small =
    let d = decimal_is_IsNumeral n (omega arith) in
    let e = without_plus (decimal n) d.0.1 in
    let test : (is_numeral (decimal n) && nat_lt n (2 ^ 32)) ≡ true = both (is_numeral (decimal n)) (nat_lt n (2 ^ 32)) (numeral_passes (decimal n) d.0) (lt-ltb n (2 ^ 32) small) in
    rw (e, d.1, test) refl

-- ---- doubles

nan_is : (x : Float) → is_nan x ≡ true → x ≡ nan
unfolding lib.Ieee.is_nan
nan_is nan p = refl
nan_is (inf s) p = cc p
nan_is (fin s m e) p = cc p

-- the bytes of a double are those of its number
double_bytes_back : (bytes : List ℕ) → length bytes ≡ 8 → ((i : ℕ) → get_or bytes i 0 < 256) → IsLosslessDouble bytes → double_bytes (double_of bytes) ≡ bytes
double_bytes_back bytes count h is =
    elim (is_nan (double_of bytes)) as (λ b. is_nan (double_of bytes) ≡ b → double_bytes (double_of bytes) ≡ bytes) [
      | true ↦ λ e. let n = nan_is (double_of bytes) e in ap double_bytes n ∙ sym (is n)
      | false ↦ λ e. ap (λ b. to_le_bytes w64 (cond b 0x7ff8_0000_0000_0000 (to_bits binary64 (double_of bytes)))) e ∙ number e
    ] refl
  where
    number : is_nan (double_of bytes) ≡ false → to_le_bytes w64 (to_bits binary64 (double_of bytes)) ≡ bytes
    number e =
        let small : from_le_bytes w64 bytes < 2 ^ 64 = omega (arith, h 0, h 1, h 2, h 3, h 4, h 5, h 6, h 7) in
        ap (to_le_bytes w64) (to_bits-of_bits binary64 (from_le_bytes w64 bytes) small (subst (λ b. T (not b)) (sym e) tt))
        ∙ le_bytes_8 bytes (from_le_bytes w64 bytes) count h refl

plain_double : (x : Float) (text : List ℕ) → IsNumberText x text → IsPlain text
plain_double nan text h = subst IsPlain (sym h) (plain_all (codes "NaN") refl)
plain_double (inf true) text h = subst IsPlain (sym h) (plain_all (codes "-Infinity") refl)
plain_double (inf false) text h = subst IsPlain (sym h) (plain_all (codes "Infinity") refl)
plain_double (fin s m e) text h = plain_number text h.1

-- ---- leaves

no_bytes : (bytes : List ℕ) → length bytes ≡ 0 → bytes ≡ []
no_bytes [] e = refl
no_bytes (b ∷ bytes) e = absurd (omega arith)

one_is_number : IsNumber (codes "1")
one_is_number = subst IsNumber (decimal_digit 1 (omega arith)) (IsNumber-decimal 1 (omega arith))

of_number : (k : Kind) (v : Leaf) (form : Form) (front digits text : List ℕ) → are_ascii front ≡ true → IsPlain digits → text ≡ front ++ (34 ∷ (digits ++ (34 ∷ 125 ∷ [])))
    → json_text (form_json form (json.string digits)) ≡ front ++ (quoted digits ++ 125 ∷ []) → ((room : ℕ) → value_read room (form_json form (json.string digits)) ≡ Ok (leaf_value k v))
    → LeafBack k v text
of_number k v form front digits text ascii plain is printed read = record {
  value = form_json form (json.string digits);
  printed = printed ∙ named_printed front digits plain ∙ sym is;
  numbers = (tt, tt);
  shallow = omega arith;
  read = read;
  utf8 = subst IsUtf8 (sym is) (parts front (34 ∷ []) (digits ++ (34 ∷ 125 ∷ [])) ascii (IsUtf8-are_ascii (34 ∷ []) refl) (parts [] digits (34 ∷ 125 ∷ []) refl plain.utf8 (IsUtf8-are_ascii (34 ∷ 125 ∷ []) refl)));
}

binary_printed : (base64 subtype : List ℕ) → IsPlain base64 → IsPlain subtype
    → json_text (form_json forms.Binary (pair_json (codes "base64") (json.string base64) (codes "subType") (json.string subtype)))
    ≡ codes "{\"$binary\":{\"base64\":\"" ++ (base64 ++ (codes "\",\"subType\":\"" ++ (subtype ++ codes "\"}}")))
unfolding escape_byte
binary_printed base64 subtype p q =
    let rest = codes ",\"subType\":" ++ (quoted subtype ++ 125 ∷ []) in
    ap (λ l. codes "{\"$binary\":{\"base64\":\"" ++ (l ++ 125 ∷ [])) (quoted_then base64 rest p)
    ∙ ap (λ l. codes "{\"$binary\":{\"base64\":\"" ++ l) (append_assoc base64 (34 ∷ rest) (125 ∷ []))
    ∙ ap (λ l. codes "{\"$binary\":{\"base64\":\"" ++ (base64 ++ (codes "\",\"subType\":\"" ++ l)))
    (ap (λ l. l ++ 125 ∷ []) (quoted_then subtype (125 ∷ []) q) ∙ append_assoc subtype (34 ∷ 125 ∷ []) (125 ∷ []))

double_told : (bytes text : List ℕ) → length bytes ≡ 8 → ((i : ℕ) → get_or bytes i 0 < 256) → IsLosslessDouble bytes → IsLeafJson Canonical kinds.Double (raw_value bytes) text → LeafBack kinds.Double (raw_value bytes) text
unfolding escape_byte
double_told bytes text count h is (digits, number, e) =
    of_number kinds.Double (raw_value bytes) forms.Double (codes "{\"$numberDouble\":") digits text refl (plain_double (double_of bytes) digits number) e refl
    (λ room. value_at room (form_json forms.Double (json.string digits)) ∙ rw (double_back (double_of bytes) digits number, double_bytes_back bytes count h is) refl)

pub leaf_told : (k : Kind) (v : Leaf) (text : List ℕ) → IsOfForm (form_of k) v → IsLosslessLeaf k v → IsLeafJson Canonical k v text → LeafBack k v text
unfolding escape_byte
leaf_told kinds.Double (raw_value bytes) text f t h = double_told bytes text f.count_is f.are_bytes t h
leaf_told kinds.String (text_value words) text f t h =
    record { value = json.string words; printed = sym h; numbers = tt; shallow = omega arith; read = λ room. value_at room (json.string words); utf8 = subst IsUtf8 (sym h) (IsUtf8-quoted words f.is_text) }
leaf_told kinds.Binary (binary_value subtype bytes) text f t h =
    let s = byte_alone subtype f.one_byte in
    record {
      value = form_json forms.Binary (pair_json (codes "base64") (json.string (encode_of standard bytes)) (codes "subType") (json.string (encode_lower (subtype ∷ []))));
      printed = binary_printed (encode_of standard bytes) (encode_lower (subtype ∷ [])) (plain_base64 bytes f.are_bytes) (plain_hex (subtype ∷ []) s) ∙ sym h;
      numbers = ((tt, (tt, tt)), tt);
      shallow = omega arith;
      read = λ room. value_at room (form_json forms.Binary (pair_json (codes "base64") (json.string (encode_of standard bytes)) (codes "subType") (json.string (encode_lower (subtype ∷ []))))) ∙ rw (subtype_back subtype s, base64_back bytes f.are_bytes) refl;
      utf8 = subst IsUtf8 (sym h) (parts (codes "{\"$binary\":{\"base64\":\"") (encode_of standard bytes) (codes "\",\"subType\":\"" ++ (encode_lower (subtype ∷ []) ++ codes "\"}}")) refl (plain_base64 bytes f.are_bytes).utf8 (parts (codes "\",\"subType\":\"") (encode_lower (subtype ∷ [])) (codes "\"}}") refl (plain_hex (subtype ∷ []) s).utf8 (IsUtf8-are_ascii (codes "\"}}") refl)));
    }
leaf_told kinds.Undefined (raw_value bytes) text f t h =
    record { value = form_json forms.Undefined (json.boolean true); printed = sym h; numbers = (tt, tt); shallow = omega arith; read = λ room. rw (no_bytes bytes f.count_is) (value_at room (form_json forms.Undefined (json.boolean true))); utf8 = subst IsUtf8 (sym h) (IsUtf8-are_ascii (codes "{\"$undefined\":true}") refl) }
leaf_told kinds.ObjectId (raw_value bytes) text f t h =
    of_number kinds.ObjectId (raw_value bytes) forms.ObjectId (codes "{\"$oid\":") (encode_lower bytes) text refl (plain_hex bytes f.are_bytes) h refl
    (λ room. value_at room (form_json forms.ObjectId (json.string (encode_lower bytes))) ∙ rw (hex_back 12 bytes f.count_is f.are_bytes) refl)
leaf_told kinds.Boolean (boolean_value true) text f t h =
    record { value = json.boolean true; printed = sym h; numbers = tt; shallow = omega arith; read = λ room. value_at room (json.boolean true); utf8 = subst IsUtf8 (sym h) (IsUtf8-boolean true) }
leaf_told kinds.Boolean (boolean_value false) text f t h =
    record { value = json.boolean false; printed = sym h; numbers = tt; shallow = omega arith; read = λ room. value_at room (json.boolean false); utf8 = subst IsUtf8 (sym h) (IsUtf8-boolean false) }
leaf_told kinds.DateTime (number_value z) text f t h =
    record {
      value = form_json forms.DateTime (form_json forms.Int64 (json.string (signed_decimal z)));
      printed = ap (λ l. codes "{\"$date\":{\"$numberLong\":\"" ++ (l ++ 125 ∷ [])) (quoted_then (signed_decimal z) (125 ∷ []) (plain_signed z (mag_small z f))) ∙ sym h;
      numbers = ((tt, tt), tt);
      shallow = omega arith;
      read = λ room. value_at room (form_json forms.DateTime (form_json forms.Int64 (json.string (signed_decimal z)))) ∙ rw (int64_back z (fits_passes w64 (2 ^ 63) z refl f)) refl;
      utf8 = subst IsUtf8 (sym h) (parts (codes "{\"$date\":{\"$numberLong\":\"") (signed_decimal z ++ codes "\"}") (codes "}") refl
          (IsUtf8-append (signed_decimal z) (codes "\"}") (plain_signed z (mag_small z f)).utf8 (IsUtf8-are_ascii (codes "\"}") refl)) (IsUtf8-are_ascii (codes "}") refl));
    }
leaf_told kinds.Null (raw_value bytes) text f t h =
    record { value = json.null; printed = sym h; numbers = tt; shallow = omega arith; read = λ room. rw (no_bytes bytes f.count_is) (value_at room json.null); utf8 = subst IsUtf8 (sym h) (IsUtf8-are_ascii (codes "null") refl) }
leaf_told kinds.Regex (regex_value pattern options) text f t h =
    let in_document = h ∙ ap (λ o. codes "{\"$regularExpression\":{\"pattern\":" ++ (quoted pattern ++ (codes ",\"options\":" ++ (quoted o ++ codes "}}")))) t in
    record {
      value = form_json forms.Regex (pair_json (codes "pattern") (json.string pattern) (codes "options") (json.string options));
      printed = ap (λ l. codes "{\"$regularExpression\":{\"pattern\":" ++ l) (both_closed (quoted pattern) (codes ",\"options\":") (quoted options)) ∙ sym in_document;
      numbers = ((tt, (tt, tt)), tt);
      shallow = omega arith;
      read = λ room. value_at room (form_json forms.Regex (pair_json (codes "pattern") (json.string pattern) (codes "options") (json.string options))) ∙ rw (no_zero pattern f.0.no_zero, no_zero options f.1.no_zero, t) refl;
      utf8 = subst IsUtf8 (sym in_document) (parts (codes "{\"$regularExpression\":{\"pattern\":") (quoted pattern) (codes ",\"options\":" ++ (quoted options ++ codes "}}")) refl (IsUtf8-quoted pattern f.0.is_text) (parts (codes ",\"options\":") (quoted options) (codes "}}") refl (IsUtf8-quoted options f.1.is_text) (IsUtf8-are_ascii (codes "}}") refl)));
    }
leaf_told kinds.DbPointer (pointer_value namespace id) text f t h =
    let digits = encode_lower id in
    let plain = plain_hex id f.1.are_bytes in
    let inner = form_json forms.ObjectId (json.string digits) in
    record {
      value = form_json forms.DbPointer (pair_json (codes "$ref") (json.string namespace) (codes "$id") inner);
      printed =
          ap (λ l. codes "{\"$dbPointer\":{\"$ref\":" ++ l) (both_closed (quoted namespace) (codes ",\"$id\":") (json_text inner)
          ∙ ap (λ l. quoted namespace ++ (codes ",\"$id\":" ++ (l ++ (125 ∷ 125 ∷ [])))) (named_printed (codes "{\"$oid\":") digits plain)) ∙ sym h;
      numbers = ((tt, ((tt, tt), tt)), tt);
      shallow = omega arith;
      read = λ room. value_at room (form_json forms.DbPointer (pair_json (codes "$ref") (json.string namespace) (codes "$id") inner)) ∙ rw (hex_back 12 id f.1.count_is f.1.are_bytes) refl;
      utf8 = subst IsUtf8 (sym h) (parts (codes "{\"$dbPointer\":{\"$ref\":") (quoted namespace) (codes ",\"$id\":" ++ (object_id_json id ++ codes "}}")) refl (IsUtf8-quoted namespace f.0.is_text)
          (parts (codes ",\"$id\":") (object_id_json id) (codes "}}") refl (parts (codes "{\"$oid\":\"") digits (codes "\"}") refl plain.utf8 (IsUtf8-are_ascii (codes "\"}") refl)) (IsUtf8-are_ascii (codes "}}") refl)));
    }
leaf_told kinds.Code (text_value words) text f t h =
    record { value = form_json forms.Code (json.string words); printed = sym h; numbers = (tt, tt); shallow = omega arith; read = λ room. value_at room (form_json forms.Code (json.string words)); utf8 = subst IsUtf8 (sym h) (parts (codes "{\"$code\":") (quoted words) (codes "}") refl (IsUtf8-quoted words f.is_text) (IsUtf8-are_ascii (codes "}") refl)) }
leaf_told kinds.Symbol (text_value words) text f t h =
    record { value = form_json forms.Symbol (json.string words); printed = sym h; numbers = (tt, tt); shallow = omega arith; read = λ room. value_at room (form_json forms.Symbol (json.string words)); utf8 = subst IsUtf8 (sym h) (parts (codes "{\"$symbol\":") (quoted words) (codes "}") refl (IsUtf8-quoted words f.is_text) (IsUtf8-are_ascii (codes "}") refl)) }
leaf_told kinds.Int32 (number_value z) text f t h =
    of_number kinds.Int32 (number_value z) forms.Int32 (codes "{\"$numberInt\":") (signed_decimal z) text refl (plain_signed z (mag_smaller z f)) h refl
    (λ room. value_at room (form_json forms.Int32 (json.string (signed_decimal z))) ∙ rw (int32_back z (fits_passes w32 (2 ^ 31) z refl f)) refl)
leaf_told kinds.Timestamp (timestamp_value increment seconds) text f t h =
    record {
      value = form_json forms.Timestamp (pair_json (codes "t") (json.number (decimal seconds)) (codes "i") (json.number (decimal increment)));
      printed = ap (λ l. codes "{\"$timestamp\":{\"t\":" ++ l) (both_closed (decimal seconds) (codes ",\"i\":") (decimal increment)) ∙ sym h;
      numbers = ((IsNumber-decimal seconds (omega (arith, f.1)), (IsNumber-decimal increment (omega (arith, f.0)), tt)), tt);
      shallow = omega arith;
      read = λ room. value_at room (form_json forms.Timestamp (pair_json (codes "t") (json.number (decimal seconds)) (codes "i") (json.number (decimal increment)))) ∙ rw (unsigned_back seconds f.1, unsigned_back increment f.0) refl;
      utf8 = subst IsUtf8 (sym h) (parts (codes "{\"$timestamp\":{\"t\":") (decimal seconds) (codes ",\"i\":" ++ (decimal increment ++ codes "}}")) refl (plain_decimal seconds (omega (arith, f.1))).utf8 (parts (codes ",\"i\":") (decimal increment) (codes "}}") refl (plain_decimal increment (omega (arith, f.0))).utf8 (IsUtf8-are_ascii (codes "}}") refl)));
    }
leaf_told kinds.Int64 (number_value z) text f t h =
    of_number kinds.Int64 (number_value z) forms.Int64 (codes "{\"$numberLong\":") (signed_decimal z) text refl (plain_signed z (mag_small z f)) h refl
    (λ room. value_at room (form_json forms.Int64 (json.string (signed_decimal z))) ∙ rw (int64_back z (fits_passes w64 (2 ^ 63) z refl f)) refl)
leaf_told kinds.Decimal128 (raw_value bytes) text f t h =
    of_number kinds.Decimal128 (raw_value bytes) forms.Decimal128 (codes "{\"$numberDecimal\":") (decimal128_text bytes) text refl (decimal128_plain bytes f t) h refl
    (λ room. value_at room (form_json forms.Decimal128 (json.string (decimal128_text bytes))) ∙ rw (decimal128_back bytes f t) refl)
leaf_told kinds.MinKey (raw_value bytes) text f t h =
    record { value = form_json forms.MinKey (json.number (codes "1")); printed = sym h; numbers = (one_is_number, tt); shallow = omega arith; read = λ room. rw (no_bytes bytes f.count_is) (value_at room (form_json forms.MinKey (json.number (codes "1")))); utf8 = subst IsUtf8 (sym h) (IsUtf8-are_ascii (codes "{\"$minKey\":1}") refl) }
leaf_told kinds.MaxKey (raw_value bytes) text f t h =
    record { value = form_json forms.MaxKey (json.number (codes "1")); printed = sym h; numbers = (one_is_number, tt); shallow = omega arith; read = λ room. rw (no_bytes bytes f.count_is) (value_at room (form_json forms.MaxKey (json.number (codes "1")))); utf8 = subst IsUtf8 (sym h) (IsUtf8-are_ascii (codes "{\"$maxKey\":1}") refl) }
leaf_told k v text f t h = absurd f
