-- The documents that the texts of an input give, one after another.
use Rattle.std.specs.Prelude.{◌≡◌, ◌≢◌, ◌<◌, ◌^◌, ℕ, List, [], ◌∷◌, take, drop, length, Option}
use Rattle.std.specs.Prelude.{Some, None, Ok, Err, if◌then◌else◌}
use Rattle.std.specs.Str.{is_utf8}
use Rattle.bson_elem.specs.{document, elements}
use Rattle.bson_doc.specs.declared.refusal.DocRefusal.{DocRefusal}
use Rattle.bson_doc.specs.declared.refusal.DocRefusal.TheVariants.{OutOfMemory}
use Rattle.bson_doc.specs.{IsUnwritable, tree_of}
use Rattle.bson_json_read.specs.declared.fault.Cause.{Cause}
use Rattle.bson_json_read.specs.declared.fault.Cause.TheVariants as causes
use Rattle.bson_json_read.specs.declared.frame.Frame.{Frame}
use Rattle.bson_json_read.specs.declared.frame.Frame.TheVariants.{Start}
use Rattle.bson_json_read.specs.declared.frame.Step.{Step}
use Rattle.bson_json_read.specs.declared.frame.Step.TheVariants.{Pass, Text, Refuse}
use Rattle.bson_json_read.specs.Extents.{text_len}
use Rattle.bson_json_read.specs.Frames.{behind_text, may_end, step}
use Rattle.bson_json_read.specs.Reads.{Read, refused}
use Rattle.bson_json_read.specs.Texts.{document_in}
use Rattle.bson_json_read.specs.declared.texts.NextBytes.{NextBytes}
use Rattle.bson_json_read.specs.declared.texts.NextBytes.TheVariants.{AtEnd, Document, Refused}
use Rattle.bson_json_read.specs.Values.{Pair}

-- ---- the next text

-- what is next in the rest of an input: nothing, a text with which the rest begins, or a fault
pub data Next : Type 0 where
  nothing : Next
  text_here : Frame → List ℕ → Next
  fault_here : Cause → Next

abbrev pub on_step : Step → Frame → List ℕ → (Frame → Next) → Next
on_step (Pass behind) frame rest on = on behind
on_step Text frame rest on = text_here frame rest
on_step (Refuse cause) frame rest on = fault_here cause

abbrev pub next_in : Frame → List ℕ → Next
next_in frame [] = if may_end frame then nothing else fault_here causes.NotJson
next_in frame (b ∷ bs) = on_step (step frame b) frame (b ∷ bs) (λ behind. next_in behind bs)

-- the document of the text with which these bytes begin; a text is UTF-8
abbrev pub utf8_read : List ℕ → Read (List Pair)
utf8_read text = if is_utf8 text then document_in text else refused causes.NotJson

abbrev pub front_read : List ℕ → Read (List Pair)
front_read rest = utf8_read (take (text_len rest) rest)

-- where reading stands, and what is left
pub record Left : Type 0 where
  pub frame : Frame
  pub rest : List ℕ

-- what is left behind the text with which the rest begins
abbrev pub behind_front : Frame → List ℕ → Left
behind_front frame rest = record {
  frame = behind_text frame;
  rest = drop (text_len rest) rest;
}

-- reading what is next gives a document
abbrev pub Gives : Next → List Pair → Left → Type 0
Gives (text_here frame rest) d left =
    (front_read rest ≡ Ok d) × (left ≡ behind_front frame rest)
Gives next d left = ⊥

-- the document has no bytes, for this reason of its own, which want of memory is not
abbrev pub HasNoBytes : List Pair → DocRefusal → Type 0
HasNoBytes d refusal = (refusal ≢ OutOfMemory) × IsUnwritable (tree_of d) refusal

-- the bytes of a document, or the reason why it has none
abbrev pub IsWritten : List Pair → Option DocRefusal → List ℕ → Type 0
IsWritten d None bytes = (bytes ≡ document (elements (tree_of d))) × (length bytes < 2 ^ 31)
IsWritten d (Some refusal) bytes = HasNoBytes d refusal

-- reading what is next gives the bytes of a document, or a document that has none, or the end
abbrev pub GivesBytes : Next → NextBytes → List ℕ → Left → Type 0
GivesBytes next AtEnd bytes left = next ≡ nothing
GivesBytes next Document bytes left =
    (d : List Pair) × Gives next d left × IsWritten d None bytes
GivesBytes next (Refused refusal) bytes left =
    (d : List Pair) × Gives next d left × IsWritten d (Some refusal) bytes

-- reading what is next fails with this cause
abbrev pub Fails : Next → Cause → Type 0
Fails nothing cause = ⊥
Fails (text_here frame rest) cause = (path : List ℕ) × (front_read rest ≡ Err (cause, path))
Fails (fault_here c) cause = cause ≡ c

-- ---- texts one after another

-- the texts that are next give these documents, and this is left behind them
abbrev pub AreRead : Left → List (List Pair) → Left → Type 0
AreRead left [] behind = behind ≡ left
AreRead left (d ∷ ds) behind =
    (mid : Left) × Gives (next_in left.frame left.rest) d mid × AreRead mid ds behind

-- the first texts of an input give these documents, and this is left behind them
abbrev pub ReadsTo : List ℕ → List (List Pair) → Left → Type 0
ReadsTo input ds behind = AreRead (record { frame = Start; rest = input }) ds behind
