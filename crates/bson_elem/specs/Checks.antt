-- The order of the checks. Each function is one step over a list of bytes: it gives what is read at
-- the front of the bytes and the bytes after it, or the first check that fails. None enters a
-- document that a value holds.
use Rattle.std.specs.Prelude.{ℕ, ◌+◌, ◌-◌, ◌^◌, List, [], ◌∷◌, length, take, drop, Option, Some}
use Rattle.std.specs.Prelude.{None, Result, Ok, Err, Bool, true, false, nat_lt, nat_le, ◌==◌, ◌||◌}
use Rattle.std.specs.Prelude.{if◌then◌else◌, slice_index}
use Rattle.std.specs.Str.{is_utf8}
use Rattle.std.specs.List.{position_or_len}
use Rattle.std.specs.Int.{w32, w64, from_le_bytes, cast_signed}
use Rattle.bson_elem.specs.declared.kinds.Kind.{Kind}
use Rattle.bson_elem.specs.declared.fault.BsonCause.{BsonCause}
use Rattle.bson_elem.specs.declared.fault.BsonCause.TheVariants.{Truncated, Length, End, Name, Text}
use Rattle.bson_elem.specs.declared.fault.BsonCause.TheVariants.{TextEnd, OldBinary, Scope, Depth}
use Rattle.bson_elem.specs.declared.fault.BsonCause.TheVariants as causes
use Rattle.bson_elem.specs.declared.fault.BsonFault.{BsonFault}
use Rattle.bson_elem.specs.Kinds.{kind_of, Form, raw_form, boolean_form, int32_form, int64_form}
use Rattle.bson_elem.specs.Kinds.{timestamp_form, string_form, pointer_form, binary_form}
use Rattle.bson_elem.specs.Kinds.{regex_form, document_form, scope_form, form_of}
use Rattle.bson_elem.specs.Trees.{Leaf, raw_value, boolean_value, number_value, timestamp_value}
use Rattle.bson_elem.specs.Trees.{text_value, pointer_value, binary_value, regex_value, Beside}
use Rattle.bson_elem.specs.Trees.{no_code, with_code}

-- one check after another: the first that fails is the result
infixl 10 ◌>>=◌
abbrev pub ◌>>=◌ : {A B E : Type 0} → Result A E → (A → Result B E) → Result B E
(Ok x) >>= f = f x
(Err e) >>= f = Err e

-- what was read at the front, and the bytes after it
abbrev pub Read : Type 0 → Type 0
Read A = Result (A × List ℕ) BsonCause

-- ---- numbers and texts (bsonspec.org: `int32`, `int64`, `string`, `cstring`)

-- n bytes
abbrev pub bytes_at : ℕ → List ℕ → Read (List ℕ)
bytes_at n bytes =
    if nat_lt (length bytes) n then Err Truncated else Ok (take n bytes, drop n bytes)

-- an unsigned number of four bytes, and of eight
abbrev pub little_at : List ℕ → Read ℕ
little_at bytes =
    if nat_lt (length bytes) 4 then Err Truncated
    else Ok (from_le_bytes w32 (take 4 bytes), drop 4 bytes)

abbrev pub little64_at : List ℕ → Read ℕ
little64_at bytes =
    if nat_lt (length bytes) 8 then Err Truncated
    else Ok (from_le_bytes w64 (take 8 bytes), drop 8 bytes)

-- a signed number of four bytes that is at least `least` and not negative
abbrev pub length_at : ℕ → List ℕ → Read ℕ
length_at least bytes = do
  n ← little_at bytes
  if (nat_lt n.0 least || nat_le (2 ^ 31) n.0) then Err Length else Ok n

-- a text of n bytes, and the 00 after it
abbrev pub text_at : ℕ → List ℕ → Read (List ℕ)
text_at n bytes =
    if is_utf8 (take n bytes)
    then (if slice_index bytes n == 0 then Ok (take n bytes, drop (n + 1) bytes) else Err TextEnd)
    else Err Text

-- a string: the number of bytes of the text and the 00 after it, the text, and that 00
unfoldable pub string_at : List ℕ → Read (List ℕ)
string_at bytes = do
  n ← length_at 1 bytes
  if nat_lt (length n.1) n.0 then Err Truncated else text_at (n.0 - 1) n.1

abbrev pub is_zero : ℕ → Bool
is_zero b = b == 0

-- a cstring whose 00 is at offset n
abbrev pub name_until : ℕ → List ℕ → Read (List ℕ)
name_until n bytes =
    if nat_lt n (length bytes)
    then (if is_utf8 (take n bytes) then Ok (take n bytes, drop (n + 1) bytes) else Err Name)
    else Err Truncated

-- a cstring: the bytes before the first 00
unfoldable pub cstring_at : List ℕ → Read (List ℕ)
cstring_at bytes = name_until (position_or_len is_zero bytes) bytes

-- ---- values that hold no document (bsonspec.org: `element`, `binary`)

-- one byte, 00 or 01
unfoldable pub boolean_at : List ℕ → Read Leaf
boolean_at [] = Err Truncated
boolean_at (b ∷ rest) =
    if b == 0 then Ok (boolean_value false, rest) else if b == 1 then Ok (boolean_value true, rest)
    else Err causes.Boolean

-- A binary with this subtype and this data, and the rest after it. In subtype 02 the data begins
-- with an inner count: the number of bytes after that count.
unfoldable pub binary_of : ℕ → List ℕ → List ℕ → Read Leaf
binary_of subtype bytes rest =
    if subtype == 2 then
    (if nat_lt (length bytes) 4 then Err OldBinary
    else if from_le_bytes w32 (take 4 bytes) == length bytes - 4
    then Ok (binary_value 2 (drop 4 bytes), rest)
    else Err OldBinary)
    else Ok (binary_value subtype bytes, rest)

-- a value of a form that holds no document
unfoldable pub leaf_at : Form → List ℕ → Read Leaf
leaf_at (raw_form n) bytes = do
  v ← bytes_at n bytes
  Ok (raw_value v.0, v.1)
leaf_at boolean_form bytes = boolean_at bytes
leaf_at int32_form bytes = do
  v ← little_at bytes
  Ok (number_value (cast_signed w32 v.0), v.1)
leaf_at int64_form bytes = do
  v ← little64_at bytes
  Ok (number_value (cast_signed w64 v.0), v.1)
leaf_at timestamp_form bytes = do
  increment ← little_at bytes
  seconds ← little_at increment.1
  Ok (timestamp_value increment.0 seconds.0, seconds.1)
leaf_at string_form bytes = do
  words ← string_at bytes
  Ok (text_value words.0, words.1)
leaf_at pointer_form bytes = do
  namespace ← string_at bytes
  id ← bytes_at 12 namespace.1
  Ok (pointer_value namespace.0 id.0, id.1)
leaf_at binary_form bytes = do
  n ← length_at 0 bytes
  if nat_lt (length n.1) (n.0 + 1) then Err Truncated
      else binary_of (slice_index n.1 0) (take n.0 (drop 1 n.1)) (drop (n.0 + 1) n.1)
leaf_at regex_form bytes = do
  pattern ← cstring_at bytes
  options ← cstring_at pattern.1
  Ok (regex_value pattern.0 options.0, options.1)
-- no leaf has these forms
leaf_at document_form bytes = Err causes.Kind
leaf_at scope_form bytes = Err causes.Kind

-- ---- with offsets: the element's type byte is at p, and its value begins at q

-- the fault with this cause, at this offset
abbrev pub fault : ℕ → BsonCause → BsonFault
fault p c = record { at = p; cause = c }

-- what was read, or the cause as a fault at this offset
abbrev pub told_at : {A : Type 0} → ℕ → Result A BsonCause → Result A BsonFault
told_at p (Ok x) = Ok x
told_at p (Err c) = Err (fault p c)

-- The elements of the document at the front, and the bytes after it (bsonspec.org: `document`). It
-- begins at q, in the element at p.
unfoldable pub document_at : ℕ → ℕ → List ℕ → Result (List ℕ × List ℕ) BsonFault
document_at p q bytes =
    if nat_lt (length bytes) 4 then Err (fault p Truncated)
    else let n = from_le_bytes w32 (take 4 bytes) in
    if (nat_lt n 5 || nat_le (2 ^ 31) n) then Err (fault q Length)
    else if nat_lt (length bytes) n then Err (fault p Truncated)
    else if slice_index bytes (n - 1) == 0 then Ok (take (n - 5) (drop 4 bytes), drop n bytes)
    else Err (fault q End)

-- a value: a leaf; or a document, as its offset, what is beside it, and its elements
pub data Value : Type 0 where
  a_leaf : Leaf → Value
  opens : ℕ → Beside → List ℕ → Value

-- The code and the scope at the front (bsonspec.org: `code_w_s`). The value begins at q, in the
-- element at p.
unfoldable pub scope_at : ℕ → ℕ → List ℕ → Result (Value × List ℕ) BsonFault
scope_at p q bytes = do
  total ← told_at p (length_at 14 bytes)
  n ← if nat_lt (length bytes) total.0 then Err (fault p Truncated)
      else told_at p (length_at 1 total.1)
  words ← if nat_lt (total.0 - 13) n.0 then Err (fault p Scope)
      else told_at p (text_at (n.0 - 1) n.1)
  d ← if from_le_bytes w32 (take 4 words.1) == total.0 - 8 - n.0
      then document_at p (q + 8 + n.0) words.1 else Err (fault p Scope)
  Ok (opens (q + 8 + n.0) (with_code words.0) d.0, d.1)

-- The value of a form at the front, in a container of this depth. It begins at q, in the element at
-- p.
unfoldable pub value_at : ℕ → ℕ → ℕ → Form → List ℕ → Result (Value × List ℕ) BsonFault
value_at depth p q document_form bytes =
    if nat_lt depth 200 then (do
      d ← document_at p q bytes
      Ok (opens q no_code d.0, d.1))
    else Err (fault p Depth)
value_at depth p q scope_form bytes =
    if nat_lt depth 200 then scope_at p q bytes else Err (fault p Depth)
value_at depth p q form bytes = do
  v ← told_at p (leaf_at form bytes)
  Ok (a_leaf v.0, v.1)

-- an element, and the bytes after it
pub record ElementRead : Type 0 where
  pub name : List ℕ
  pub kind : Kind
  pub value : Value
  pub rest : List ℕ

-- The element at p, from its name on. Its type byte is that of this kind, or of no kind.
abbrev pub kinded_at : ℕ → ℕ → Option Kind → List ℕ → Result ElementRead BsonFault
kinded_at depth p None bytes = Err (fault p causes.Kind)
kinded_at depth p (Some k) bytes = do
  name ← told_at p (cstring_at bytes)
  v ← value_at depth p (p + length name.0 + 2) (form_of k) name.1
  Ok (record { name = name.0; kind = k; value = v.0; rest = v.1 })

-- The element at the front, at offset p, in a container of this depth that begins at offset s.
unfoldable pub element_at : ℕ → ℕ → ℕ → List ℕ → Result ElementRead BsonFault
element_at depth s p [] = Err (fault s End)
element_at depth s p (b ∷ bytes) =
    if b == 0 then Err (fault s End) else kinded_at depth p (kind_of b) bytes
