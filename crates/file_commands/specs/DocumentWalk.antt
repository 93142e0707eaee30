-- What is written for the documents of an input, piece by piece.
use Rattle.std.specs.Prelude.{◌≡◌, ℕ, List, Bool, Option, None, Some}
use Rattle.std.specs.Io.KnownBytes.{Appends, Keeps}
use Rattle.bson_stream.specs.{Reading}
use Rattle.file_commands.specs.declared.documents.Written.{Written}
use Rattle.file_commands.specs.declared.documents.Written.TheVariants.{Whole, TooLarge, OutOfMemory}
use Rattle.file_commands.specs.declared.input_fault.InputFault.TheVariants as inputs
use Rattle.file_commands.specs.declared.walk.Stop.{Stop}
use Rattle.file_commands.specs.declared.walk.Stop.TheVariants as stop
use Rattle.file_commands.specs.Documents.{TextRule, documents_of}
use Rattle.file_commands.specs.ItemWalk.{ItemReading, ItemWalk, item_tells}
use Rattle.file_commands.specs.Walk.{Tells}

-- what was written for a document for which this may be written: a text, or none
abbrev pub IsWritten : (Option (List ℕ) → Type 0) → Written → Option (List ℕ) → Option (List ℕ)
    → Type 0
IsWritten May Whole old new = (text : List ℕ) × May (Some text) × Appends old new text
IsWritten May TooLarge old new = May None × Keeps old new
IsWritten May OutOfMemory old new = Keeps old new

-- What was written for a document that begins at this offset, for which this may be written, and
-- why no more documents are read: its text, and no reason; or nothing.
abbrev pub IsWrittenOrStops : (Option (List ℕ) → Type 0) → ℕ → Option Stop → Option (List ℕ)
    → Option (List ℕ) → Type 0
IsWrittenOrStops May start None old new = IsWritten May Whole old new
IsWrittenOrStops May start (Some (stop.Fault f)) old new =
    IsWritten May TooLarge old new × (f ≡ inputs.TooLarge start)
IsWrittenOrStops May start (Some stop.OutOfMemory) old new = IsWritten May OutOfMemory old new

-- where a reader of documents stands
abbrev pub document_reading : Reading → ItemReading
document_reading r = record { limit = r.limit; held = r.held; start = r.start }

-- How documents are gone over, by what is written for each, and behind them all. No limit is lower
-- than that of all documents.
abbrev pub document_walk : TextRule → (Bool → List ℕ) → ItemWalk Reading
document_walk rule closing = record {
  reading = document_reading;
  kind = λ limit. documents_of rule;
  limit = 2147483647;
  base = 0;
  closing = closing;
}

-- what is told of documents, by what is written for each, and behind them all
abbrev pub document_tells : TextRule → (Bool → List ℕ) → Tells Reading
document_tells rule closing = item_tells (document_walk rule closing)
