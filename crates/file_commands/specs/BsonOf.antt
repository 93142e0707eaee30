-- What `bson` writes.
use Rattle.std.specs.Prelude.{◌≡◌, ◌⊎◌, ⊤, ℕ, ◌+◌, List, ◌++◌, length, map, codes, Bool, true}
use Rattle.std.specs.Prelude.{false, Option, Some, None}
use Rattle.std.specs.Fmt.{decimal}
use Rattle.std.specs.Io.KnownBytes.{Appends}
use Rattle.bson_raw.specs.{documents_bytes}
use Rattle.bson_doc.specs.declared.refusal.DocRefusal.{DocRefusal}
use Rattle.bson_doc.specs.Refusals.{refusal_text}
use Rattle.bson_doc.specs.{tree_of}
use Rattle.bson_json_read.specs.declared.fault.Cause.{Cause}
use Rattle.bson_json_read.specs.{Fails, Gives, HasNoBytes, IsOpen, Left, Pair, ReadsTo, StandsIn}
use Rattle.bson_json_read.specs.{next_in, nothing, text_fault_text}
use Rattle.file_commands.specs.declared.bson.TextStop.{TextStop}
use Rattle.file_commands.specs.declared.bson.TextStop.TheVariants.{Fault, Refused}

-- the document of the next text isn't written, for this reason
abbrev pub IsRefused : Left → DocRefusal → Type 0
IsRefused left refusal =
    (d : List Pair) × (behind : Left) × Gives (next_in left.frame left.rest) d behind
    × HasNoBytes d refusal

-- Why no more documents are written, where this many were and this is left: the input ends, as it
-- may; what is next is at fault; or its document isn't written, and its number, from 1, is told.
abbrev pub StopsAt : Option TextStop → ℕ → Left → Type 0
StopsAt None count left = next_in left.frame left.rest ≡ nothing
StopsAt (Some (Fault f)) count left = Fails (next_in left.frame left.rest) f.cause
StopsAt (Some (Refused refusal number)) count left =
    (number ≡ count + 1) × IsRefused left refusal

-- the place that is told of a fault is one of the input
abbrev pub IsPlaced : List ℕ → Option TextStop → Type 0
IsPlaced input (Some (Fault f)) = StandsIn input f.place.line f.place.column
IsPlaced input _ = ⊤

-- the bytes of documents
abbrev pub bytes_of_each : List (List Pair) → List ℕ
bytes_of_each ds = documents_bytes (map tree_of ds)

-- The documents of an input's first texts were written. How many they were, and what is left, is
-- of this sort.
abbrev pub WritesTexts : List ℕ → (ℕ → Left → Type 0) → Option (List ℕ) → Option (List ℕ)
    → Type 0
WritesTexts input IsLeft old new =
    (ds : List (List Pair)) × (left : Left) × ReadsTo input ds left × IsLeft (length ds) left
    × Appends old new (bytes_of_each ds)

-- what is next is at fault, or it isn't
abbrev pub EndsAt : Bool → Left → Type 0
EndsAt false left = next_in left.frame left.rest ≡ nothing
EndsAt true left =
    ((cause : Cause) × Fails (next_in left.frame left.rest) cause)
    ⊎ ((refusal : DocRefusal) × IsRefused left refusal)

-- what `bson` writes for an input, and whether the input has a fault
abbrev pub BsonText : List ℕ → List ℕ → Bool → Type 0
BsonText input text fault =
    (ds : List (List Pair)) × (left : Left) × ReadsTo input ds left × EndsAt fault left
    × (text ≡ bytes_of_each ds)

-- what tells the fault
abbrev pub stop_text : TextStop → List ℕ
stop_text (Fault f) = text_fault_text f
stop_text (Refused refusal number) =
    codes "fault 16 in document " ++ (decimal number ++ (codes ": " ++ refusal_text refusal))

abbrev pub shown_stop : TextStop → Option (List ℕ)
shown_stop stop = Some (stop_text stop)

-- the documents of the first few texts of an input
abbrev pub FirstBson : List ℕ → List ℕ → Type 0
FirstBson input bytes =
    (ds : List (List Pair)) × (left : Left) × ReadsTo input ds left × (bytes ≡ bytes_of_each ds)

-- the documents of all texts that are whole in what was read of an input, up to the first fault
abbrev pub AllBson : List ℕ → List ℕ → Type 0
AllBson read bytes =
    (ds : List (List Pair)) × (left : Left) × ReadsTo read ds left
    × (IsOpen left.frame left.rest ⊎ EndsAt true left) × (bytes ≡ bytes_of_each ds)
