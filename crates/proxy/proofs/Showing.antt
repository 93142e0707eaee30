-- What is written of a message that passes, piece by piece.
use Rattle.std.proofs.Common.{◌≡◌, ◌∙◌, ◌++◌, ℕ, ℤ, List, Option, Result, Ok, Err, OnOk, ap, append_assoc, codes, inl, refl, subst, sym}
use Rattle.std.specs.Fmt.{decimal, signed_decimal}
use Rattle.std.specs.Io.KnownBytes.{Appends}
use Rattle.std.proofs.KnownBytes.{Appends-trans}
use Rattle.json.specs.Print.{quoted}
use Rattle.bson_json.specs.declared.mode.Mode.TheVariants.{Canonical}
use Rattle.bson_json.specs.{IsJson}
use Rattle.wire_msg.specs.declared.header.MsgHeader.{MsgHeader}
use Rattle.wire_msg.specs.{header_of}
use Rattle.wire_query.specs.{Query, SpellsQuery}
use Rattle.wire_frames.specs.declared.opcode.Opcode.{Opcode}
use Rattle.wire_frames.specs.{IsOwnKind, opcode_number}
use Rattle.proxy.specs.declared.direction.Direction.{Direction}
use Rattle.proxy.specs.declared.options.Show.{Show}
use Rattle.proxy.specs.Shown.{IsFullLine, IsKindLine, IsKindPairs, IsOtherLine, IsQueryPairs, IsShown, IsShownLine, IsWritten, id_pairs, kind_pairs}
use Rattle.proxy.specs.Told.{start_text}

-- a text of this sort was written between two states of a writer
abbrev pub Wrote : Option (List ℕ) → Option (List ℕ) → (List ℕ → Type 0) → Type 0
Wrote old new IsText = (text : List ℕ) × IsText text × Appends old new text

-- a word, and then one of them
pub word_then_one : {E : Type 0} (r : Result (Unit {0}) E) (a b c : Option (List ℕ)) (word : List ℕ) (IsPart IsText : List ℕ → Type 0)
    → ((part : List ℕ) → IsPart part → IsText (word ++ part)) → Appends a b word → OnOk r (Wrote b c IsPart) → OnOk r (Wrote a c IsText)
word_then_one (Err e) a b c word IsPart IsText f p q = tt
word_then_one (Ok x) a b c word IsPart IsText f p q = (word ++ q.0, f q.0 q.1, Appends-trans a b c word q.0 p q.2)

-- behind the start comes the line of its kind
pub line_shown : {E : Type 0} (r : Result (Unit {0}) E) (a b c : Option (List ℕ)) (number : ℕ) (direction : Direction) (bytes : List ℕ) (kind : Opcode)
    → IsOwnKind kind → opcode_number kind ≡ (header_of bytes).opcode → Appends a b (start_text number direction) → OnOk r (Wrote b c (IsKindLine kind bytes))
    → OnOk r (Wrote a c (IsShownLine number direction bytes))
line_shown r a b c number direction bytes kind own opcode start line =
    word_then_one r a b c (start_text number direction) (IsKindLine kind bytes) (IsShownLine number direction bytes)
    (λ part is. record { kind = kind; own = own; opcode = opcode; line = part; is = is; parts = refl }) start line

-- what a query asks is written, piece by piece
pub query_written : {E : Type 0} (r : Result (Unit {0}) E) (a b c d e : Option (List ℕ)) (bytes : List ℕ) (q : Query) (database : List ℕ) → SpellsQuery q bytes → database ≡ q.database
    → Appends a b (codes ",\"database\":") → Appends b c (quoted database) → Appends c d (codes ",\"query\":") → OnOk r (Wrote d e (IsJson Canonical q.body)) → OnOk r (Wrote a e (IsQueryPairs bytes))
query_written r a b c d e bytes q database spelled is first second third json =
    let named : Appends b c (quoted q.database) = subst (λ (n : List ℕ). Appends b c (quoted n)) is second in
    let start : List ℕ = codes ",\"database\":" ++ (quoted q.database ++ codes ",\"query\":") in
    let front : Appends a d start = Appends-trans a b d (codes ",\"database\":") (quoted q.database ++ codes ",\"query\":") first (Appends-trans b c d (quoted q.database) (codes ",\"query\":") named third) in
    word_then_one r a d e start (IsJson Canonical q.body) (IsQueryPairs bytes)
    (λ part p. inl (q, part, spelled, p, append_assoc (codes ",\"database\":") (quoted q.database ++ codes ",\"query\":") part ∙ ap (λ (l : List ℕ). codes ",\"database\":" ++ l) (append_assoc (quoted q.database) (codes ",\"query\":") part))) front json

-- what follows the numbers of a header, and the end of its line
pub other_written : {E : Type 0} (r : Result (Unit {0}) E) (a b c d e f : Option (List ℕ)) (bytes : List ℕ) (kind : Opcode) (h : MsgHeader) → h ≡ header_of bytes
    → Appends a b (codes "{") → Appends b c (id_pairs h) → Appends c d (kind_pairs h) → Wrote d e (IsKindPairs kind bytes) → OnOk r (Appends e f (codes "}\n"))
    → OnOk r (Wrote a f (IsOtherLine kind bytes))
other_written (Err x) a b c d e f bytes kind h is first ids kinds pairs last = tt
other_written (Ok x) a b c d e f bytes kind h is first ids kinds pairs last =
    let end : List ℕ = pairs.0 ++ codes "}\n" in
    let written : Appends a f (codes "{" ++ (id_pairs h ++ (kind_pairs h ++ end))) =
    Appends-trans a b f (codes "{") (id_pairs h ++ (kind_pairs h ++ end)) first
    (Appends-trans b c f (id_pairs h) (kind_pairs h ++ end) ids (Appends-trans c d f (kind_pairs h) end kinds (Appends-trans d e f pairs.0 (codes "}\n") pairs.2 last))) in
    (codes "{" ++ (id_pairs h ++ (kind_pairs h ++ end)), (pairs.0, pairs.1, ap (λ (x : MsgHeader). codes "{" ++ (id_pairs x ++ (kind_pairs x ++ end))) is), written)

-- the numbers of a header are written
pub id_written : {E : Type 0} (r : Result (Unit {0}) E) (a b : Option (List ℕ)) (size : ℕ) (id : ℤ) (h : MsgHeader) → size ≡ h.length → id ≡ h.id
    → OnOk r (Appends a b (codes "\"messageLength\":" ++ (decimal size ++ (codes ",\"requestID\":" ++ signed_decimal id)))) → OnOk r (Appends a b (id_pairs h))
id_written r a b size id h length_is id_is wrote =
    subst (λ (n : ℕ). OnOk r (Appends a b (codes "\"messageLength\":" ++ (decimal n ++ (codes ",\"requestID\":" ++ signed_decimal h.id))))) length_is
    (subst (λ (z : ℤ). OnOk r (Appends a b (codes "\"messageLength\":" ++ (decimal size ++ (codes ",\"requestID\":" ++ signed_decimal z))))) id_is wrote)

pub opcode_written : {E : Type 0} (r : Result (Unit {0}) E) (a b : Option (List ℕ)) (to opcode : ℤ) (h : MsgHeader) → to ≡ h.response_to → opcode ≡ h.opcode
    → OnOk r (Appends a b (codes ",\"responseTo\":" ++ (signed_decimal to ++ (codes ",\"opCode\":" ++ signed_decimal opcode)))) → OnOk r (Appends a b (kind_pairs h))
opcode_written r a b to opcode h to_is opcode_is wrote =
    subst (λ (z : ℤ). OnOk r (Appends a b (codes ",\"responseTo\":" ++ (signed_decimal z ++ (codes ",\"opCode\":" ++ signed_decimal h.opcode))))) to_is
    (subst (λ (z : ℤ). OnOk r (Appends a b (codes ",\"responseTo\":" ++ (signed_decimal to ++ (codes ",\"opCode\":" ++ signed_decimal z))))) opcode_is wrote)

-- behind what is told comes what is shown
pub sink_written : {E : Type 0} (r : Result (Unit {0}) E) (a b c : Option (List ℕ)) (show is : Show) (number : ℕ) (direction : Direction) (bytes : List ℕ) → show ≡ is
    → Wrote a b IsFullLine → OnOk r (Wrote b c (IsShown is number direction bytes)) → OnOk r (Wrote a c (IsWritten show number direction bytes))
sink_written (Err e) a b c show is number direction bytes same full shown = tt
sink_written (Ok x) a b c show is number direction bytes same full shown = (
  full.0 ++ shown.0,
  record {
    full = full.0;
    is_full = full.1;
    shown = shown.0;
    is_shown = subst (λ (s : Show). IsShown s number direction bytes shown.0) (sym same) shown.1;
    parts = refl;
  },
  Appends-trans a b c full.0 shown.0 full.2 shown.2,
)
