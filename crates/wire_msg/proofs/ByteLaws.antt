-- What is spelled is bytes.
use Rattle.std.proofs.Common.{◌≡◌, inl, inr, ℕ, zero, suc, ◌+◌, ◌/◌, ◌%◌, ◌^◌, ◌<◌, ◌==◌, Bool, true, false, cond, ltb, ◌&&◌, List, [], ◌∷◌, ◌++◌, length, IsUtf8, refl, sym, subst, arith}
use Rattle.std.specs.Int.{w32, w64, cast_unsigned, to_le_bytes, from_bool, byte_at, bytes_low_first}
use Rattle.std.proofs.lemmas.Bool.{ltb-true}
use lib.Utf8.{scalar, scalars, encode, encodes, next, scalar_cases}
use Rattle.bson_elem.specs.declared.kinds.Kind.{Kind}
use Rattle.bson_elem.specs.declared.kinds.Kind.TheVariants as kinds
use Rattle.bson_elem.specs.Kinds.{byte_of, Form, raw_form, boolean_form, int32_form, int64_form, timestamp_form, string_form, pointer_form, binary_form, regex_form, scope_form, form_of}
use Rattle.bson_elem.specs.Trees.{Leaf, raw_value, boolean_value, number_value, timestamp_value, text_value, pointer_value, binary_value, regex_value, Beside, no_code, with_code, Tree, no_pairs, leaf_pair, inner_pair}
use Rattle.bson_elem.specs.Spelling.{IsBytes, little, cstring, string, document, binary, leaf_bytes, inner_bytes, elements, IsName, IsOfForm, StandsIn, Fits, Spells}
use Rattle.bson_raw.specs.Split.{AreDocuments, documents_bytes}
use Rattle.wire_msg.specs.Messages.{Sequence, Message, sequence_size, IsSequence, AreSequences}
use Rattle.wire_msg.specs.Spelling.{body_section, sequence_section, sequences_bytes, header_bytes, message_bytes, SpellsMsg}
use Rattle.wire_msg.specs.Splits.{AreSpelled}
use Rattle.wire_msg.proofs.MsgAnswers.{AreSequences-split}

-- ---- lists of bytes

none : IsBytes []
none i = omega arith

bytes_cons : (x : ℕ) (bytes : List ℕ) → x < 256 → IsBytes bytes → IsBytes (x ∷ bytes)
bytes_cons x bytes lt fits zero = lt
bytes_cons x bytes lt fits (suc i) = fits i

pub bytes_append : (a b : List ℕ) → IsBytes a → IsBytes b → IsBytes (a ++ b)
bytes_append [] b f g = g
bytes_append (x ∷ a) b f g = bytes_cons x (a ++ b) (f 0) (bytes_append a b (λ i. f (suc i)) g)

mod_low : (n : ℕ) → n % 256 < 256
mod_low n = omega arith

byte_low : (i n : ℕ) → byte_at i n < 256
byte_low zero n = mod_low n
byte_low (suc i) n = mod_low (n / 256 ^ suc i)

bytes_low_is : (i k n : ℕ) → IsBytes (bytes_low_first i k n)
bytes_low_is i zero n = none
bytes_low_is i (suc k) n = bytes_cons (byte_at i n) (bytes_low_first (suc i) k n) (byte_low i n) (bytes_low_is (suc i) k n)

little_bytes : (n : ℕ) → IsBytes (little n)
little_bytes n = bytes_low_is 0 4 n

wide_bytes : (n : ℕ) → IsBytes (to_le_bytes w64 n)
wide_bytes n = bytes_low_is 0 8 n

-- ---- texts

pick : (b : Bool) (x y : List ℕ) → (b ≡ true → IsBytes x) → (b ≡ false → IsBytes y) → IsBytes (cond b x y)
pick true x y f g = f refl
pick false x y f g = g refl

scalar_low : (c : ℕ) → scalar c ≡ true → c < 1114112
scalar_low c is = elim (scalar_cases c is) [
  | inl lt ↦ omega (arith, lt)
  | inr lt ↦ lt.1
]

next_low : (n : ℕ) → next n < 256
next_low n = omega arith

one_byte : (a : ℕ) → a < 256 → IsBytes (a ∷ [])
one_byte a p = bytes_cons a [] p none

two_bytes : (a b : ℕ) → a < 256 → b < 256 → IsBytes (a ∷ b ∷ [])
two_bytes a b p q = bytes_cons a (b ∷ []) p (one_byte b q)

three_bytes : (a b d : ℕ) → a < 256 → b < 256 → d < 256 → IsBytes (a ∷ b ∷ d ∷ [])
three_bytes a b d p q r = bytes_cons a (b ∷ d ∷ []) p (two_bytes b d q r)

four_bytes : (a b d e : ℕ) → a < 256 → b < 256 → d < 256 → e < 256 → IsBytes (a ∷ b ∷ d ∷ e ∷ [])
four_bytes a b d e p q r s = bytes_cons a (b ∷ d ∷ e ∷ []) p (three_bytes b d e q r s)

encode_bytes : (c : ℕ) → scalar c ≡ true → IsBytes (encode c)
unfolding encode
encode_bytes c is =
    let low = scalar_low c is in
    pick (ltb c 128) _ _ (λ e. one_byte c (omega (arith, ltb-true c 128 e)))
    (λ _. pick (ltb c 2048) _ _ (λ e. two_bytes (192 + c / 64) (next c) (omega (arith, ltb-true c 2048 e)) (next_low c))
    (λ _. pick (ltb c 65536) _ _ (λ e. three_bytes (224 + c / 4096) (next (c / 64)) (next c) (omega (arith, ltb-true c 65536 e)) (next_low (c / 64)) (next_low c))
    (λ _. four_bytes (240 + c / 262144) (next (c / 4096)) (next (c / 64)) (next c) (omega (arith, low)) (next_low (c / 4096)) (next_low (c / 64)) (next_low c))))

both : (a b : Bool) → (a && b) ≡ true → (a ≡ true) × (b ≡ true)
both true b e = (refl, e)
both false b e = absurd (cc)

encodes_bytes : (cs : List ℕ) → scalars cs ≡ true → IsBytes (encodes cs)
encodes_bytes [] is = none
encodes_bytes (c ∷ cs) is = let p = both (scalar c) (scalars cs) is in bytes_append (encode c) (encodes cs) (encode_bytes c p.0) (encodes_bytes cs p.1)

text_bytes : (bytes : List ℕ) → IsUtf8 bytes → IsBytes bytes
text_bytes bytes u = subst IsBytes u.1.1 (encodes_bytes u.0 u.1.0)

cstring_bytes : (name : List ℕ) → IsUtf8 name → IsBytes (cstring name)
cstring_bytes name u = bytes_append name (0 ∷ []) (text_bytes name u) (one_byte 0 (omega arith))

string_bytes : (words : List ℕ) → IsUtf8 words → IsBytes (string words)
string_bytes words u = bytes_append (little (length words + 1)) (cstring words) (little_bytes (length words + 1)) (cstring_bytes words u)

-- ---- documents

document_bytes : (body : List ℕ) → IsBytes body → IsBytes (document body)
document_bytes body fits = bytes_append (little (length body + 5)) (body ++ 0 ∷ []) (little_bytes (length body + 5)) (bytes_append body (0 ∷ []) fits (one_byte 0 (omega arith)))

bool_bytes : (b : Bool) → IsBytes (from_bool b ∷ [])
bool_bytes true = one_byte 1 (omega arith)
bool_bytes false = one_byte 0 (omega arith)

choice_bytes : (b : Bool) (x y : List ℕ) → IsBytes x → IsBytes y → IsBytes (cond b x y)
choice_bytes true x y f g = f
choice_bytes false x y f g = g

binary_bytes : (subtype : ℕ) (bytes : List ℕ) → subtype < 256 → IsBytes bytes → IsBytes (binary subtype bytes)
binary_bytes subtype bytes lt fits =
    choice_bytes (subtype == 2) (little (length bytes + 4) ++ (2 ∷ (little (length bytes) ++ bytes))) (little (length bytes) ++ (subtype ∷ bytes))
    (bytes_append (little (length bytes + 4)) (2 ∷ (little (length bytes) ++ bytes)) (little_bytes (length bytes + 4)) (bytes_cons 2 (little (length bytes) ++ bytes) (omega arith) (bytes_append (little (length bytes)) bytes (little_bytes (length bytes)) fits)))
    (bytes_append (little (length bytes)) (subtype ∷ bytes) (little_bytes (length bytes)) (bytes_cons subtype bytes lt fits))

leaf_is : (form : Form) (v : Leaf) → IsOfForm form v → IsBytes (leaf_bytes form v)
leaf_is (raw_form n) (raw_value bytes) h = h.are_bytes
leaf_is boolean_form (boolean_value b) h = bool_bytes b
leaf_is int32_form (number_value z) h = little_bytes (cast_unsigned w32 z)
leaf_is int64_form (number_value z) h = wide_bytes (cast_unsigned w64 z)
leaf_is timestamp_form (timestamp_value increment seconds) h = bytes_append (little increment) (little seconds) (little_bytes increment) (little_bytes seconds)
leaf_is string_form (text_value words) h = string_bytes words h.is_text
leaf_is pointer_form (pointer_value words id) h = bytes_append (string words) id (string_bytes words h.0.is_text) h.1.are_bytes
leaf_is binary_form (binary_value subtype bytes) h = binary_bytes subtype bytes h.one_byte h.are_bytes
leaf_is regex_form (regex_value pattern options) h = bytes_append (cstring pattern) (cstring options) (cstring_bytes pattern h.0.is_text) (cstring_bytes options h.1.is_text)
leaf_is _ _ h = absurd h

beside_text : (form : Form) (words : List ℕ) → StandsIn form (with_code words) → IsUtf8 words
beside_text scope_form words h = h
beside_text _ words h = absurd h

inner_is : (form : Form) (b : Beside) (body : List ℕ) → StandsIn form b → IsBytes body → IsBytes (inner_bytes b body)
inner_is form no_code body h fits = document_bytes body fits
inner_is form (with_code words) body h fits =
    bytes_append (little (length body + length words + 14)) (string words ++ document body) (little_bytes (length body + length words + 14)) (bytes_append (string words) (document body) (string_bytes words (beside_text form words h)) (document_bytes body fits))

kind_byte : (k : Kind) → byte_of k < 256
kind_byte kinds.Double = omega arith
kind_byte _ = omega arith

element_is : (k : Kind) (name value rest : List ℕ) → IsName name → IsBytes value → IsBytes rest → IsBytes ((byte_of k ∷ (cstring name ++ value)) ++ rest)
element_is k name value rest n v r = bytes_append (byte_of k ∷ (cstring name ++ value)) rest (bytes_cons (byte_of k) (cstring name ++ value) (kind_byte k) (bytes_append (cstring name) value (cstring_bytes name n.is_text) v)) r

elements_bytes : (t : Tree) (depth : ℕ) → Fits depth t → IsBytes (elements t)
elements_bytes no_pairs depth h = none
elements_bytes (leaf_pair name k v ps) depth h = element_is k name (leaf_bytes (form_of k) v) (elements ps) h.0 (leaf_is (form_of k) v h.1) (elements_bytes ps depth h.2)
elements_bytes (inner_pair name k b inner ps) depth h =
    element_is k name (inner_bytes b (elements inner)) (elements ps) h.0 (inner_is (form_of k) b (elements inner) h.1 (elements_bytes inner (depth + 1) h.4)) (elements_bytes ps depth h.5)

-- the bytes of a document are bytes
pub spelled_bytes : (t : Tree) (bytes : List ℕ) → Spells t bytes → IsBytes bytes
spelled_bytes t bytes s = subst IsBytes (sym s.parts) (document_bytes (elements t) (elements_bytes t 1 s.fits))

-- ---- messages

documents_are : (ts : List Tree) → AreDocuments ts → IsBytes (documents_bytes ts)
documents_are [] h = none
documents_are (t ∷ ts) h = bytes_append (document (elements t)) (documents_bytes ts) (spelled_bytes t (document (elements t)) h.0) (documents_are ts h.1)

sequence_is : (q : Sequence) → IsSequence q → IsBytes (sequence_section q)
unfolding sequence_section
sequence_is q h =
    bytes_cons 1 (little (sequence_size q) ++ (cstring q.identifier ++ documents_bytes q.documents)) (omega arith)
    (bytes_append (little (sequence_size q)) (cstring q.identifier ++ documents_bytes q.documents) (little_bytes (sequence_size q)) (bytes_append (cstring q.identifier) (documents_bytes q.documents) (cstring_bytes q.identifier h.identifier.is_text) (documents_are q.documents h.documents)))

sequences_are : (qs : List Sequence) → AreSequences qs → IsBytes (sequences_bytes qs)
sequences_are [] h = none
sequences_are (q ∷ qs) h = bytes_append (sequence_section q) (sequences_bytes qs) (sequence_is q h.0) (sequences_are qs h.1)

body_is : (t : Tree) → Spells t (document (elements t)) → IsBytes (body_section t)
unfolding body_section
body_is t s = bytes_cons 0 (document (elements t)) (omega arith) (spelled_bytes t (document (elements t)) s)

framed_are : (m : Message) (word : ℕ) (sections : List ℕ) → IsBytes sections → IsBytes (message_bytes m.id m.response_to word sections)
unfolding header_bytes message_bytes
framed_are m word sections fits =
    let len : ℕ = length sections + 20 in
    let id : ℕ = cast_unsigned w32 m.id in
    let to : ℕ = cast_unsigned w32 m.response_to in
    bytes_append (little len ++ (little id ++ (little to ++ little 2013))) (little word ++ sections)
    (bytes_append (little len) (little id ++ (little to ++ little 2013)) (little_bytes len) (bytes_append (little id) (little to ++ little 2013) (little_bytes id) (bytes_append (little to) (little 2013) (little_bytes to) (little_bytes 2013))))
    (bytes_append (little word) sections (little_bytes word) fits)

-- the bytes of a message are bytes
pub msg_are_bytes : (m : Message) (bytes : List ℕ) → SpellsMsg m bytes → IsBytes bytes
msg_are_bytes m bytes s =
    let fits = AreSequences-split s.before s.after (subst AreSequences s.in_order s.content.sequences) in
    let behind : List ℕ = body_section m.content.body ++ sequences_bytes s.after in
    subst IsBytes (sym s.parts) (framed_are m s.word (sequences_bytes s.before ++ behind) (bytes_append (sequences_bytes s.before) behind (sequences_are s.before fits.0) (bytes_append (body_section m.content.body) (sequences_bytes s.after) (body_is m.content.body s.content.body) (sequences_are s.after fits.1))))

-- the bytes of messages joined are bytes
pub joined_are_bytes : (limit : ℕ) (messages : List Message) (bytes : List ℕ) → AreSpelled limit messages bytes → IsBytes bytes
joined_are_bytes limit [] bytes a = subst IsBytes (sym a) none
joined_are_bytes limit (m ∷ ms) bytes a = subst IsBytes (sym a.4) (bytes_append a.0 a.1 (msg_are_bytes m a.0 a.2.0) (joined_are_bytes limit ms a.1 a.3))
