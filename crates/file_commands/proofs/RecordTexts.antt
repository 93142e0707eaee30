-- What is written of a record.
use Rattle.std.proofs.Common.{◌≡◌, ◌≢◌, ◌+◌, ◌++◌, ◌∙◌, ℕ, ℤ, List, Option, Result, Ok, Err, OnOk, codes, refl, ap, subst}
use Rattle.std.specs.Fmt.{decimal}
use Rattle.std.specs.Io.KnownBytes.{Appends}
use Rattle.std.proofs.KnownBytes.{Appends-trans}
use Rattle.bson_json.specs.declared.mode.Mode.{Mode}
use Rattle.wire_frames.specs.declared.opcode.Opcode.{Opcode}
use Rattle.wire_frames.specs.declared.opcode.Opcode.TheVariants.{Compressed, Msg, Other, Query, Reply}
use Rattle.wire_msg.specs.{header_of}
use Rattle.wire_frames.specs.declared.head.RecordHead.{RecordHead}
use Rattle.wire_frames.specs.{HasHead, head_of, message_of}
use Rattle.wire_text.specs.{IsFrameText}
use Rattle.file_commands.specs.declared.json.Layout.{Layout}
use Rattle.file_commands.specs.declared.record_text.RecordForm.TheVariants.{Text, Json}
use Rattle.file_commands.specs.Json.{end_of_value}
use Rattle.file_commands.specs.RecordText.{IsFrameJson, IsKindJson, IsRecordText, head_json, head_line, header_json, named, record_front}

-- a text of this sort was written between two states of a writer
abbrev pub Wrote : Option (List ℕ) → Option (List ℕ) → (List ℕ → Type 0) → Type 0
Wrote old new IsText = (text : List ℕ) × IsText text × Appends old new text

-- a text of one sort is one of another
pub wrote_as : {E : Type 0} (r : Result (Unit {0}) E) (a b : Option (List ℕ)) (Is As : List ℕ → Type 0) → ((text : List ℕ) → Is text → As text) → OnOk r (Wrote a b Is) → OnOk r (Wrote a b As)
wrote_as (Err e) a b Is As more w = tt
wrote_as (Ok x) a b Is As more (text, is, appends) = (text, more text is, appends)

-- a text behind another one
pub two_written : {E : Type 0} (r : Result (Unit {0}) E) (a b c : Option (List ℕ)) (first last : List ℕ) → Appends a b first → OnOk r (Appends b c last) → OnOk r (Appends a c (first ++ last))
two_written (Err e) a b c first last p q = tt
two_written (Ok x) a b c first last p q = Appends-trans a b c first last p q

-- a header's numbers
abbrev header_of_numbers : ℕ → ℤ → ℤ → ℤ → List ℕ
header_of_numbers size id to opcode = (codes "{\"messageLength\":" ++ decimal size) ++ (named (codes ",\"requestID\":") id ++ (named (codes ",\"responseTo\":") to ++ named (codes ",\"opCode\":") opcode))

pub header_written : {E : Type 0} (r : Result (Unit {0}) E) (a b : Option (List ℕ)) (size : ℕ) (id i to t opcode o : ℤ) → id ≡ i → to ≡ t → opcode ≡ o
    → OnOk r (Appends a b (header_of_numbers size id to opcode)) → OnOk r (Appends a b (header_of_numbers size i t o))
header_written r a b size id i to t opcode o same so also written =
    subst (λ (x : List ℕ). OnOk r (Appends a b x)) (is same so also) written
  where
    is : id ≡ i → to ≡ t → opcode ≡ o → header_of_numbers size id to opcode ≡ header_of_numbers size i t o
    is same so also = rw (same, so, also) refl

-- a message that is no OP_MSG is told by its header
pub other_json : (kind : Opcode) (mode : Mode) (start : ℕ) (bytes text : List ℕ) → kind ≢ Msg → text ≡ header_json (header_of bytes) → IsKindJson kind mode start bytes text
other_json Reply mode start bytes text ne is = is
other_json Query mode start bytes text ne is = is
other_json Compressed mode start bytes text ne is = is
other_json Msg mode start bytes text ne is = absurd (ne refl)
other_json (Other number) mode start bytes text ne is = is

-- the parts of a record's object
pub object_written : {E : Type 0} (r : Result (Unit {0}) E) (a b c d e f : Option (List ℕ)) (mode : Mode) (layout : Layout) (start : ℕ) (bytes frame front end : List ℕ) (h : RecordHead)
    → HasHead (head_of bytes) h → frame ≡ message_of bytes → Appends a b front → front ≡ record_front layout start → Appends b c (head_json h) → Wrote c d (IsFrameJson mode (start + 20) frame)
    → Appends d e (codes "}") → end ≡ end_of_value layout → OnOk r (Appends e f end) → OnOk r (Wrote a f (IsRecordText (Json mode layout) start bytes))
object_written (Err x) a b c d e f mode layout start bytes frame front end h head message p is q w s at last = tt
object_written (Ok x) a b c d e f mode layout start bytes frame front end h head message p is q (text, text_is, t) s at last = (
  front ++ (head_json h ++ (text ++ (codes "}" ++ end))),
  (
    h,
    text,
    head,
    subst (λ (y : List ℕ). IsFrameJson mode (start + 20) y text) message text_is,
    ap (λ (y : List ℕ). y ++ (head_json h ++ (text ++ (codes "}" ++ end)))) is ∙ ap (λ (y : List ℕ). record_front layout start ++ (head_json h ++ (text ++ (codes "}" ++ y)))) at,
  ),
  Appends-trans a b f front _ p (Appends-trans b c f (head_json h) _ q (Appends-trans c d f text _ t (Appends-trans d e f (codes "}") end s last))),
)

-- the line of its head, and its message
pub lines_written : {E : Type 0} (r : Result (Unit {0}) E) (a b c : Option (List ℕ)) (start : ℕ) (bytes frame : List ℕ) (h : RecordHead)
    → HasHead (head_of bytes) h → frame ≡ message_of bytes → Appends a b (head_line h) → OnOk r (Wrote b c (IsFrameText (start + 20) frame)) → OnOk r (Wrote a c (IsRecordText Text start bytes))
lines_written (Err x) a b c start bytes frame h head message p w = tt
lines_written (Ok x) a b c start bytes frame h head message p (text, text_is, t) =
    (head_line h ++ text, (h, text, head, subst (λ (y : List ℕ). IsFrameText (start + 20) y text) message text_is, refl), Appends-trans a b c (head_line h) text p t)
