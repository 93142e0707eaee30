-- The values of common kinds, as they are read.
use Rattle.std.proofs.Common.{◌≡◌, ℕ, suc, ◌+◌, ◌-◌, ◌<◌, ◌≤◌, ◌^◌, true, false, ltb, leb, eqb, ◌||◌, Option, Some, None, List, [], ◌∷◌, length, ◌++◌, get_or, take, drop, Ok, Err, refl, sym, ap, subst, ◌∙◌, append_assoc, arith, inl, inr}
use Rattle.std.specs.Prelude.{IfSome, slice_range}
use Rattle.std.specs.Int.{w32, w64, cast_signed, cast_unsigned, from_le_bytes}
use Rattle.std.specs.Str.{is_utf8}
use Rattle.std.proofs.lemmas.Int.{of_z-to_z}
use Rattle.std.proofs.lemmas.Bool.{cases_Bool, eq-eqb, eqb-true, le-ltb, lt-leb, lt-ltb}
use Rattle.std.proofs.lemmas.List.{drop_at, drop_more, get_or-drop, length-append, length-drop, length-take, take-append-drop}
use Rattle.std.proofs.lemmas.Nat.{le_bytes_4}
use Rattle.bson_elem.specs.declared.fault.BsonCause.TheVariants.{Text}
use Rattle.bson_elem.specs.declared.kinds.Kind.TheVariants as kinds
use Rattle.bson_elem.specs.declared.fault.BsonFault.{BsonFault}
use Rattle.bson_elem.specs.declared.kinds.Kind.{Kind}
use Rattle.bson_elem.specs.Kinds.{all_kinds, byte_of, document_form, form_of, int32_form, int64_form, kind_of, raw_form, string_form}
use Rattle.bson_elem.specs.Spelling.{IsBytes, cstring, little, string}
use Rattle.bson_elem.specs.Trees.{no_code, number_value, raw_value, text_value}
use Rattle.bson_elem.specs.Checks.{ElementRead, Value, a_leaf, cstring_at, document_at, element_at, fault, leaf_at, length_at, opens, string_at, text_at, value_at}
use Rattle.byte_views.specs.declared.element.Element.{Element}
use Rattle.byte_views.specs.Quick.{IsQuick, bad_text, is_value}
use Rattle.bson_elem.specs.Documents.{IsFramed, elements_of}
use Rattle.bson_elem.proofs.Lemmas.{IsBytes-drop, IsBytes-take, cstring_takes, kind_is, length-document, made, part_after, past_one, rest_in}
use Rattle.byte_views.specs.declared.iter.ElementIter.{ElementIter}
use Rattle.byte_views.specs.Elements.{bare, element_place, raw_bits, value_place}
use Rattle.byte_views.specs.Iters.{IsInside, IsStep, not_text, reads}
use Rattle.byte_views.proofs.Places.{slice_size}
use Rattle.byte_views.specs.declared.view.View.{View}
use Rattle.byte_views.specs.Views.{no_view, view}

pub int32_read : (depth at from : ℕ) (rest : List ℕ) → 4 ≤ length rest → value_at depth at from int32_form rest ≡ Ok (a_leaf (number_value (cast_signed w32 (from_le_bytes w32 (take 4 rest)))), drop 4 rest)
unfolding value_at leaf_at
int32_read depth at from rest long = rw (le-ltb (length rest) 4 long) refl

pub int64_read : (depth at from : ℕ) (rest : List ℕ) → 8 ≤ length rest → value_at depth at from int64_form rest ≡ Ok (a_leaf (number_value (cast_signed w64 (from_le_bytes w64 (take 8 rest)))), drop 8 rest)
unfolding value_at leaf_at
int64_read depth at from rest long = rw (le-ltb (length rest) 8 long) refl

pub raw_read : (depth at from n : ℕ) (rest : List ℕ) → n ≤ length rest → value_at depth at from (raw_form n) rest ≡ Ok (a_leaf (raw_value (take n rest)), drop n rest)
unfolding value_at leaf_at
raw_read depth at from n rest long = rw (le-ltb (length rest) n long) refl

pub document_read : (depth at from : ℕ) (rest body after : List ℕ) → depth < 200 → document_at at from rest ≡ Ok (body, after) → value_at depth at from document_form rest ≡ Ok (opens from no_code body, after)
unfolding value_at
document_read depth at from rest body after lt read = rw (lt-ltb depth 200 lt, read) refl

-- ---- a string

length_read : (n : ℕ) (rest : List ℕ) → 4 ≤ length rest → from_le_bytes w32 (take 4 rest) ≡ n → 1 ≤ n → n < 2 ^ 31 → length_at 1 rest ≡ Ok (n, drop 4 rest)
length_read n rest long is low high =
    let test : (ltb n 1 || leb (2 ^ 31) n) ≡ false = rw (le-ltb n 1 low, lt-leb (2 ^ 31) n high) refl in
    rw (le-ltb (length rest) 4 long, is, test) refl

text_read : (k : ℕ) (m : List ℕ) → get_or m k 0 ≡ 0 → is_utf8 (take k m) ≡ true → text_at k m ≡ Ok (take k m, drop (k + 1) m)
text_read k m zero good = rw (good, eq-eqb (get_or m k 0) 0 zero) refl

text_bad : (k : ℕ) (m : List ℕ) → is_utf8 (take k m) ≡ false → text_at k m ≡ Err Text
text_bad k m bad = rw bad refl

string_read : (depth at from n : ℕ) (rest : List ℕ) → 4 ≤ length rest → from_le_bytes w32 (take 4 rest) ≡ n → 1 ≤ n → n < 2 ^ 31 → n ≤ length (drop 4 rest) → get_or (drop 4 rest) (n - 1) 0 ≡ 0 → is_utf8 (take (n - 1) (drop 4 rest)) ≡ true
    → value_at depth at from string_form rest ≡ Ok (a_leaf (text_value (take (n - 1) (drop 4 rest))), drop (n - 1 + 1) (drop 4 rest))
unfolding value_at leaf_at string_at
string_read depth at from n rest long is low high room zero good = rw (length_read n rest long is low high, le-ltb (length (drop 4 rest)) n room, text_read (n - 1) (drop 4 rest) zero good) refl

string_bad : (depth at from n : ℕ) (rest : List ℕ) → 4 ≤ length rest → from_le_bytes w32 (take 4 rest) ≡ n → 1 ≤ n → n < 2 ^ 31 → n ≤ length (drop 4 rest) → is_utf8 (take (n - 1) (drop 4 rest)) ≡ false
    → value_at depth at from string_form rest ≡ Err (fault at Text)
unfolding value_at leaf_at string_at
string_bad depth at from n rest long is low high room bad = rw (length_read n rest long is low high, le-ltb (length (drop 4 rest)) n room, text_bad (n - 1) (drop 4 rest) bad) refl

-- the string, and what follows it
string_parts : (n : ℕ) (rest : List ℕ) → IsBytes rest → 4 ≤ length rest → n ≡ from_le_bytes w32 (take 4 rest) → 1 ≤ n → n ≤ length (drop 4 rest) → get_or (drop 4 rest) (n - 1) 0 ≡ 0
    → rest ≡ string (take (n - 1) (drop 4 rest)) ++ drop (n - 1 + 1) (drop 4 rest)
string_parts n rest fits long is low room zero =
    let m : List ℕ = drop 4 rest in
    let words : List ℕ = take (n - 1) m in
    let after : List ℕ = drop (n - 1 + 1) m in
    let size : length words + 1 ≡ n = omega (arith, length-take (n - 1) m, room, low) in
    let front : little (length words + 1) ≡ take 4 rest = le_bytes_4 (take 4 rest) (length words + 1) (omega (arith, length-take 4 rest, long)) (IsBytes-take 4 rest fits) (size ∙ is) in
    let back : m ≡ cstring words ++ after = past_one (n - 1) m 0 (omega (arith, room, low)) zero in
    sym (take-append-drop 4 rest) ∙ ap (λ (x : List ℕ). x ++ m) (sym front) ∙ ap (λ (x : List ℕ). little (length words + 1) ++ x) back ∙ sym (append_assoc (little (length words + 1)) (cstring words) after)

pub string_quick : (depth at from n : ℕ) (rest : List ℕ) (bare e : Element) → IsBytes rest → 5 ≤ length rest → n ≡ from_le_bytes w32 (take 4 rest) → 1 ≤ n → n < 2 ^ 31 → n ≤ length rest - 4 → get_or rest (n + 3) 0 ≡ 0 → e ≡ record bare { text = view (from + 4) (n - 1) } → IsQuick depth at from kinds.String rest bare e (n + 4)
string_quick depth at from n rest bare e fits long is low high room zero e_is =
    let m : List ℕ = drop 4 rest in
    let size : length m ≡ length rest - 4 = length-drop 4 rest in
    let four : 4 ≤ length rest = omega (arith, long) in
    let within : n ≤ length m = omega (arith, size, room) in
    let last : get_or m (n - 1) 0 ≡ 0 = get_or-drop 4 rest (n - 1) 0 ∙ ap (λ (k : ℕ). get_or rest k 0) (let k : 4 + (n - 1) ≡ n + 3 = omega (arith, low) in k) ∙ zero in
    let words : List ℕ = take (n - 1) m in
    let count : length words ≡ n - 1 = omega (arith, length-take (n - 1) m, within) in
    let place = e_is ∙ ap (λ (k : ℕ). let x : Element = record bare { text = view (from + 4) k } in x) (sym count) in
    elim (cases_Bool (is_utf8 words)) [
      | inl good ↦ is_value (record {
        value = a_leaf (text_value words);
        after = drop (n - 1 + 1) m;
        read = string_read depth at from n rest four (sym is) low high within last good;
        size = omega (arith, length-drop (n - 1 + 1) m, size, room, low, long);
        place = place;
      })
      | inr bad ↦ bad_text words (drop (n - 1 + 1) m) refl (string_bad depth at from n rest four (sym is) low high within bad) (string_parts n rest fits four is low within last) (omega (arith, count, low, high)) (omega (arith, count, low)) place
    ]

-- ---- of the kind with a type byte

pub map_some : {A : Type 0} {P Q : A → Type 0} (r : Option A) → IfSome r P → ((x : A) → P x → Q x) → IfSome r Q
map_some None holds f = tt
map_some (Some x) holds f = f x holds

-- ---- what is put into a bare element

pub with_bits : (bare : Element) (a b : ℕ) → a ≡ b → ◌≡◌ {A = Element} (record bare { bits = a }) (record bare { bits = b })
with_bits bare a b is = ap (λ (n : ℕ). let x : Element = record bare { bits = n } in x) is

pub with_text : (bare : Element) (a b : View) → a ≡ b → ◌≡◌ {A = Element} (record bare { text = a }) (record bare { text = b })
with_text bare a b is = ap (λ (v : View). let x : Element = record bare { text = v } in x) is

pub with_double : (bare : Element) (from : ℕ) (rest : List ℕ) (bits : ℕ) (place : View) → 8 ≤ length rest → bits ≡ from_le_bytes w64 (take 8 rest) → place ≡ view from 8 → ◌≡◌ {A = Element} (record bare { bits = bits; bytes = place }) (record bare { bits = from_le_bytes w64 (take 8 rest); bytes = view from (length (take 8 rest)) })
with_double bare from rest bits place long is place_is =
    let n : 8 ≡ length (take 8 rest) = omega (arith, length-take 8 rest, long) in
    ap (λ (k : ℕ). let x : Element = record bare { bits = k; bytes = place } in x) is ∙ ap (λ (v : View). let x : Element = record bare { bits = from_le_bytes w64 (take 8 rest); bytes = v } in x) (place_is ∙ ap (view from) n)

pub with_raw : (bare : Element) (k : Kind) (from size : ℕ) (bytes : List ℕ) (place : View) → bare.bits ≡ 0 → raw_bits k bytes ≡ 0 → length bytes ≡ size → place ≡ view from size
    → ◌≡◌ {A = Element} (record bare { bytes = place }) (record bare { bits = raw_bits k bytes; bytes = view from (length bytes) })
with_raw bare k from size bytes place no_bits none long is =
    ap (λ (b : ℕ). let x : Element = record bare { bits = b; bytes = place } in x) (no_bits ∙ sym none)
    ∙ ap (λ (v : View). let x : Element = record bare { bits = raw_bits k bytes; bytes = v } in x) (is ∙ ap (view from) (sym long))

pub with_document : (bare : Element) (from : ℕ) (whole : List ℕ) (place : View) → bare.text ≡ no_view → IsFramed whole → place ≡ view from (length whole) → ◌≡◌ {A = Element} (record bare { bytes = place }) (record bare { text = no_view; bytes = view from (length (elements_of whole) + 5) })
with_document bare from whole place no_text framed is =
    let n : length whole ≡ length (elements_of whole) + 5 = ap length framed ∙ length-document (elements_of whole) in
    ap (λ (v : View). let x : Element = record bare { text = v; bytes = place } in x) no_text ∙ ap (λ (v : View). let x : Element = record bare { text = no_view; bytes = v } in x) (is ∙ ap (view from) n)

-- the 64 bits of an int64 are its bytes
pub as_signed : (rest : List ℕ) → IsBytes rest → from_le_bytes w64 (take 8 rest) ≡ cast_unsigned w64 (cast_signed w64 (from_le_bytes w64 (take 8 rest)))
as_signed rest fits =
    let f = IsBytes-take 8 rest fits in
    sym (of_z-to_z w64 (from_le_bytes w64 (take 8 rest)) (omega (arith, f 0, f 1, f 2, f 3, f 4, f 5, f 6, f 7)))

-- ---- the element

-- the bytes of an element, from its type byte on
room_is : (bytes : List ℕ) (at end : ℕ) → at < end → end < length bytes → slice_range bytes at end ≡ get_or bytes at 0 ∷ slice_range bytes (at + 1) end
room_is bytes at end lt within =
    let n : end - at ≡ suc (end - (at + 1)) = omega (arith, lt) in
    ap (λ (k : ℕ). take k (drop at bytes)) n ∙ ap (take (suc (end - (at + 1)))) (drop_more bytes at 0 (omega (arith, lt, within)))

nonzero : (byte : ℕ) (k : Kind) → kind_of byte ≡ Some k → eqb byte 0 ≡ false
nonzero byte k some =
    elim (cases_Bool (eqb byte 0)) [
      | inl zero ↦ absurd (let none : kind_of 0 ≡ Some k = ap kind_of (sym (eqb-true byte 0 zero)) ∙ some in cc)
      | inr other ↦ other
    ]

-- what follows the front of the bytes between two offsets
rest_after : (bytes front rest : List ℕ) (at next end : ℕ) → end ≤ length bytes → at ≤ end → slice_range bytes at end ≡ front ++ rest → next ≡ at + length front → (next ≤ end) × (rest ≡ slice_range bytes next end)
rest_after bytes front rest at next end within le is next_is =
    let size : end - at ≡ length front + length rest = sym (slice_size bytes at end within) ∙ ap length is ∙ length-append front rest in
    let high : next ≤ end = omega (arith, size, next_is, le) in
    let n : length front ≡ next - at = omega (arith, next_is) in
    (high, sym (drop_at front rest (next - at) n) ∙ ap (drop (next - at)) (sym is) ∙ part_after bytes at next end (omega (arith, next_is)) high)

element_of : (depth start at byte : ℕ) (tail name rest after : List ℕ) (k : Kind) (v : Value) → kind_of byte ≡ Some k → cstring_at tail ≡ Ok (name, rest) → value_at depth at (at + length name + 2) (form_of k) rest ≡ Ok (v, after)
    → element_at depth start at (byte ∷ tail) ≡ Ok (made name k v after)
unfolding element_at
element_of depth start at byte tail name rest after k v some named read = rw (nonzero byte k some, some, named, read) refl

element_bad : (depth start at byte : ℕ) (tail name rest : List ℕ) (k : Kind) (f : BsonFault) → kind_of byte ≡ Some k → cstring_at tail ≡ Ok (name, rest) → value_at depth at (at + length name + 2) (form_of k) rest ≡ Err f
    → element_at depth start at (byte ∷ tail) ≡ Err f
unfolding element_at
element_bad depth start at byte tail name rest k f some named read = rw (nonzero byte k some, some, named, read) refl

pub quick_step : (bytes : List ℕ) (s : ElementIter) (name rest : List ℕ) (from n : ℕ) (k : Kind) (place : View) (bare' e : Element) → IsBytes bytes → IsInside bytes s → s.at < s.end → cstring_at (slice_range bytes (s.at + 1) s.end) ≡ Ok (name, rest) → length name + 1 + length rest ≡ length (slice_range bytes (s.at + 1) s.end)
    → kind_of (get_or bytes s.at 0) ≡ Some k → from ≡ s.at + length name + 2 → place ≡ view (s.at + 1) (length name) → bare' ≡ bare place (get_or bytes s.at 0) → IsQuick s.depth s.at from k rest bare' e n → IsStep bytes s e (from + n)
quick_step bytes s name rest from n k place bare' e fits inside lt named parts some from_is place_is bare_is (is_value v) =
    let byte : ℕ = get_or bytes s.at 0 in
    let tail : List ℕ = slice_range bytes (s.at + 1) s.end in
    let read : value_at s.depth s.at (s.at + length name + 2) (form_of k) rest ≡ Ok (v.value, v.after) = subst (λ (q : ℕ). value_at s.depth s.at q (form_of k) rest ≡ Ok (v.value, v.after)) from_is v.read in
    let element : ElementRead = made name k v.value v.after in
    let is : element_at s.depth s.start s.at (slice_range bytes s.at s.end) ≡ Ok element = ap (element_at s.depth s.start s.at) (room_is bytes s.at s.end lt inside.1) ∙ element_of s.depth s.start s.at byte tail name rest v.after k v.value some named read in
    let r = rest_in bytes s.depth s.start s.at s.end element fits lt inside.1 is in
    let size : length tail ≡ s.end - (s.at + 1) = slice_size bytes (s.at + 1) s.end (omega (arith, inside.1)) in
    let next : s.end - length v.after ≡ from + n = omega (arith, from_is, parts, size, v.size, lt, r.0) in
    let b : byte ≡ byte_of k = kind_is all_kinds byte k some in
    let bare_at : bare' ≡ bare (view (s.at + 1) (length name)) (byte_of k) = bare_is ∙ ap (λ (x : View). bare x byte) place_is ∙ ap (bare (view (s.at + 1) (length name))) b in
    let placed : e ≡ element_place s.at (from + n) element = v.place ∙ ap (λ (q : ℕ). value_place q (from + n) k bare' v.value) from_is ∙ ap (λ (x : Element). value_place (s.at + length name + 2) (from + n) k x v.value) bare_at in
    reads element inside lt is (r.1 ∙ ap (λ (m : ℕ). slice_range bytes m s.end) next) (omega (arith, next, r.0, lt), omega (arith, next)) placed
quick_step bytes s name rest from n k place bare' e fits inside lt named parts some from_is place_is bare_is (bad_text words after is_string bad is short size e_is) =
    let byte : ℕ = get_or bytes s.at 0 in
    let tail : List ℕ = slice_range bytes (s.at + 1) s.end in
    let v : Value = a_leaf (text_value words) in
    let read : value_at s.depth s.at (s.at + length name + 2) (form_of k) rest ≡ Err (fault s.at Text) = subst (λ (q : ℕ). value_at s.depth s.at q (form_of k) rest ≡ Err (fault s.at Text)) from_is bad in
    let t = cstring_takes tail (name, rest) (IsBytes-take (s.end - (s.at + 1)) (drop (s.at + 1) bytes) (IsBytes-drop (s.at + 1) bytes fits)) named in
    let b : byte ≡ byte_of k = kind_is all_kinds byte k some in
    let front : List ℕ = byte_of kinds.String ∷ (cstring name ++ string words) in
    let whole : slice_range bytes s.at s.end ≡ byte_of kinds.String ∷ (cstring name ++ (string words ++ after)) =
    room_is bytes s.at s.end lt inside.1 ∙ ap (λ (x : ℕ). x ∷ tail) (b ∙ ap byte_of is_string) ∙ ap (λ (x : List ℕ). byte_of kinds.String ∷ x) (t.0.parts ∙ ap (λ (x : List ℕ). cstring name ++ x) is) in
    let split : slice_range bytes s.at s.end ≡ front ++ after = whole ∙ ap (λ (x : List ℕ). byte_of kinds.String ∷ x) (sym (append_assoc (cstring name) (string words) after)) in
    let next : from + n ≡ s.at + length front = omega (arith, from_is, size, length-append (cstring name) (string words), length-append name (0 ∷ []), length-append (little (length words + 1)) (cstring words), length-append words (0 ∷ [])) in
    let r = rest_after bytes front after s.at (from + n) s.end (omega (arith, inside.1)) inside.0 split next in
    let bare_at : bare' ≡ bare (view (s.at + 1) (length name)) (byte_of k) = bare_is ∙ ap (λ (x : View). bare x byte) place_is ∙ ap (bare (view (s.at + 1) (length name))) b in
    let placed : e ≡ element_place s.at (from + n) (made name k v after) = e_is ∙ ap (λ (q : ℕ). value_place q (from + n) k bare' v) from_is ∙ ap (λ (x : Element). value_place (s.at + length name + 2) (from + n) k x v) bare_at in
    not_text name words after inside lt (ap (element_at s.depth s.start s.at) (room_is bytes s.at s.end lt inside.1) ∙ element_bad s.depth s.start s.at byte tail name rest k (fault s.at Text) some named read)
    (record { parts = whole; is_name = t.1; short = short }) r.1 (omega (arith, from_is), r.0) (placed ∙ ap (λ (j : Kind). element_place s.at (from + n) (made name j v after)) is_string)
