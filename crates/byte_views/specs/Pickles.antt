-- A document as a pickle: a program whose opcodes put values on a stack, and take some of them
-- (Python's manual: `pickle`; its module `pickletools` has the opcodes, whose names stand here in
-- capitals). By it Python makes a tuple: the document as a dict, a list of all dicts inside it, and
-- the number of the names in all of them, which tells whether a dict lacks one, since it keeps the
-- last of the elements with one name.
use Rattle.std.specs.Prelude.{ℕ, ◌+◌, Bool, true, false, List, [], ◌∷◌, ◌++◌, ◌==◌}
use Rattle.std.specs.Prelude.{codes, if◌then◌else◌, length, nat_lt}
use Rattle.std.specs.Int.{cast_unsigned, from_le_bytes, to_be_bytes, to_le_bytes, w32, w64}
use Rattle.bson_elem.specs.declared.kinds.Kind.{Kind}
use Rattle.bson_elem.specs.declared.kinds.Kind.TheVariants.{Double, String, Document, Array, Binary}
use Rattle.bson_elem.specs.declared.kinds.Kind.TheVariants.{Undefined, ObjectId, Boolean, DateTime}
use Rattle.bson_elem.specs.declared.kinds.Kind.TheVariants.{Null, Regex, DbPointer, Code, Symbol}
use Rattle.bson_elem.specs.declared.kinds.Kind.TheVariants.{CodeWithScope, Int32, Timestamp, Int64}
use Rattle.bson_elem.specs.declared.kinds.Kind.TheVariants.{Decimal128, MinKey, MaxKey}
use Rattle.bson_elem.specs.{Beside, Leaf, Tree, binary_value, boolean_value, byte_of, inner_pair}
use Rattle.bson_elem.specs.{leaf_pair, no_code, no_pairs, number_value, pointer_value, raw_value}
use Rattle.bson_elem.specs.{regex_value, text_value, timestamp_value, with_code}
use Rattle.bson_raw.specs.{is_array_kind}

-- ---- the parts

-- an opcode, the number of the bytes that follow, in one byte or in eight, and these
abbrev pub short_counted : ℕ → List ℕ → List ℕ
short_counted opcode bytes = (opcode ∷ length bytes ∷ []) ++ bytes

abbrev pub counted : ℕ → List ℕ → List ℕ
counted opcode bytes = (opcode ∷ to_le_bytes w64 (length bytes)) ++ bytes

-- SHORT_BINUNICODE or BINUNICODE8: a text, in UTF-8
abbrev pub text_pickle : List ℕ → List ℕ
text_pickle words =
    if nat_lt (length words) 256 then short_counted 140 words else counted 141 words

-- SHORT_BINBYTES or BINBYTES8: bytes
abbrev pub bytes_pickle : List ℕ → List ℕ
bytes_pickle bytes = if nat_lt (length bytes) 256 then short_counted 67 bytes else counted 142 bytes

-- BININT1: a number of one byte
abbrev pub small_pickle : ℕ → List ℕ
small_pickle n = 75 ∷ n ∷ []

-- LONG1 of 8 bytes: a signed number of these 64 bits
abbrev pub long_pickle : ℕ → List ℕ
long_pickle bits = 138 ∷ 8 ∷ to_le_bytes w64 bits

-- LONG1 of 5 bytes: a number of 32 bits that has no sign
abbrev pub unsigned_pickle : ℕ → List ℕ
unsigned_pickle n = 138 ∷ 5 ∷ (to_le_bytes w32 n ++ 0 ∷ [])

-- A value of one of the other kinds is made by a function of the Python module. EXT4 takes it, by
-- its number in `copyreg`: "LUG", and the type byte of the kind. Behind one part TUPLE1 makes that
-- the arguments, and REDUCE calls the function. Other numbers of parts stand between MARK and
-- TUPLE.
abbrev pub function_of : Kind → List ℕ
function_of k = 132 ∷ byte_of k ∷ codes "GUL"

abbrev pub one_end : List ℕ
one_end = 133 ∷ codes "R"

abbrev pub made_of_one : Kind → List ℕ → List ℕ
made_of_one k part = function_of k ++ (part ++ one_end)

abbrev pub made_front : Kind → List ℕ
made_front k = function_of k ++ codes "("

abbrev pub made_end : List ℕ
made_end = codes "tR"

abbrev pub made : Kind → List ℕ → List ℕ
made k parts = made_front k ++ (parts ++ made_end)

-- ---- values

-- NEWTRUE or NEWFALSE
abbrev pub boolean_pickle : Bool → List ℕ
boolean_pickle true = 136 ∷ []
boolean_pickle false = 137 ∷ []

-- of subtype 00 the data alone
abbrev pub binary_pickle : ℕ → List ℕ → List ℕ
binary_pickle subtype bytes =
    if subtype == 0 then bytes_pickle bytes
    else made Binary (small_pickle subtype ++ bytes_pickle bytes)

-- BININT: a signed number of these 32 bits
abbrev pub int32_pickle : ℕ → List ℕ
int32_pickle bits = 74 ∷ to_le_bytes w32 bits

-- eight bytes in the other order
abbrev pub highest_first : List ℕ → List ℕ
highest_first bytes = to_be_bytes w64 (from_le_bytes w64 bytes)

-- A value that holds no document. A double is BINFLOAT, and null NONE. No tree has another kind
-- with another value.
abbrev pub leaf_pickle : Kind → Leaf → List ℕ
leaf_pickle Double (raw_value bytes) = 71 ∷ highest_first bytes
leaf_pickle String (text_value words) = text_pickle words
leaf_pickle Binary (binary_value subtype bytes) = binary_pickle subtype bytes
leaf_pickle Undefined (raw_value bytes) = made Undefined []
leaf_pickle ObjectId (raw_value bytes) = made_of_one ObjectId (bytes_pickle bytes)
leaf_pickle Boolean (boolean_value truth) = boolean_pickle truth
leaf_pickle DateTime (number_value z) =
    made_of_one DateTime (long_pickle (cast_unsigned w64 z))
leaf_pickle Null (raw_value bytes) = codes "N"
leaf_pickle Regex (regex_value pattern options) =
    made Regex (text_pickle pattern ++ text_pickle options)
leaf_pickle DbPointer (pointer_value namespace id) =
    made DbPointer (text_pickle namespace ++ bytes_pickle id)
leaf_pickle Code (text_value words) = made_of_one Code (text_pickle words)
leaf_pickle Symbol (text_value words) = made_of_one Symbol (text_pickle words)
leaf_pickle Int32 (number_value z) = int32_pickle (cast_unsigned w32 z)
leaf_pickle Timestamp (timestamp_value increment seconds) =
    made Timestamp (unsigned_pickle seconds ++ unsigned_pickle increment)
leaf_pickle Int64 (number_value z) = long_pickle (cast_unsigned w64 z)
leaf_pickle Decimal128 (raw_value bytes) = made_of_one Decimal128 (bytes_pickle bytes)
leaf_pickle MinKey (raw_value bytes) = made MinKey []
leaf_pickle MaxKey (raw_value bytes) = made MaxKey []
leaf_pickle _ _ = []

-- ---- documents, arrays and scopes

-- What stands before the pairs of a dict inside: EMPTY_DICT, which BINPUT keeps under the number 1,
-- until the next one is; BINGET takes the list of dicts, and then this one, which APPEND puts into
-- that list; POP leaves the dict alone; and MARK. Before the values of a list: EMPTY_LIST and MARK.
-- Python's readers keep the last value of a number; `pickletools.dis` alone refuses a number that
-- is given twice.
abbrev pub dict_front : List ℕ
dict_front = 125 ∷ 113 ∷ 1 ∷ 104 ∷ 0 ∷ 104 ∷ 1 ∷ codes "a0("

abbrev pub scope_front : List ℕ → List ℕ
scope_front words = made_front CodeWithScope ++ (text_pickle words ++ dict_front)

abbrev pub opening : Kind → Beside → List ℕ
opening Array no_code = codes "]("
opening CodeWithScope (with_code words) = scope_front words
opening _ _ = dict_front

-- What stands behind the pairs: SETITEMS or APPENDS, which put all since the mark into the dict or
-- the list.
abbrev pub scope_end : List ℕ
scope_end = codes "u" ++ made_end

abbrev pub closing : Kind → List ℕ
closing Array = codes "e"
closing CodeWithScope = scope_end
closing _ = codes "u"

-- the name before the value of a pair, unless it is in an array
abbrev pub label : Kind → List ℕ → List ℕ
label Array name = []
label _ name = text_pickle name

-- the pairs that a value of this kind holds, in order
abbrev pub pairs_pickle : Kind → Tree → List ℕ
pairs_pickle holder no_pairs = []
pairs_pickle holder (leaf_pair name k v ps) =
    label holder name ++ (leaf_pickle k v ++ pairs_pickle holder ps)
pairs_pickle holder (inner_pair name k b inner ps) =
    label holder name ++ (opening k b ++ (pairs_pickle k inner ++ (closing k
    ++ pairs_pickle holder ps)))

-- ---- the whole

-- how many names a pair has that a value of this kind holds
abbrev pub names_of_one : Kind → ℕ
names_of_one holder = if is_array_kind holder then 0 else 1

-- the number of the names of all pairs that a value of this kind holds, at all depths
abbrev pub names_in : Kind → Tree → ℕ
names_in holder no_pairs = 0
names_in holder (leaf_pair name k v ps) = names_of_one holder + names_in holder ps
names_in holder (inner_pair name k b inner ps) =
    names_of_one holder + names_in k inner + names_in holder ps

-- PROTO 4; EMPTY_LIST, the list of dicts, which BINPUT keeps under the number 0; POP; EMPTY_DICT,
-- the document; and MARK
abbrev pub front : List ℕ
front = 128 ∷ 4 ∷ 93 ∷ 113 ∷ 0 ∷ codes "0}("

-- SETITEMS; BINGET, the list of dicts; the number of names; TUPLE3, which makes a tuple of the last
-- three; and STOP
abbrev pub end : ℕ → List ℕ
end names = (117 ∷ 104 ∷ 0 ∷ long_pickle names) ++ (135 ∷ codes ".")

-- the pickle of a document
abbrev pub document_pickle : Tree → List ℕ
document_pickle t = front ++ (pairs_pickle Document t ++ end (names_in Document t))
