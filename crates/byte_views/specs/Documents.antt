-- What a caller is told of bytes as documents.
use Rattle.std.specs.Prelude.{◌≡◌, ◌≢◌, ℕ, ◌+◌, true, false, List, [], length, Option, Some, None}
use Rattle.bson_elem.specs.declared.fault.BsonFault.{BsonFault}
use Rattle.bson_elem.specs.{FrontFault, Spells, Tree, fault}
use Rattle.bson_raw.specs.{DocumentSplit, WholeFault, documents_bytes, is_plain}
use Rattle.byte_views.specs.declared.documents.DocumentsCheck.{DocumentsCheck}
use Rattle.byte_views.specs.declared.fault.FirstFault.{FirstFault}
use Rattle.byte_views.specs.Fault.{first_fault}

-- ---- exactly one document

-- The bytes are one document, and there is no fault; or this is their first fault.
pub data IsDocumentCheck (bytes : List ℕ) : FirstFault → Type 0 where
  is_document : {check : FirstFault} (t : Tree) → Spells t bytes → check ≡ first_fault None
      → IsDocumentCheck bytes check
  has_fault : {check : FirstFault} (f : BsonFault) → WholeFault bytes f
      → check ≡ first_fault (Some f) → IsDocumentCheck bytes check

-- the bytes are one document, in which the names of each array are "0", "1" and so on
abbrev pub IsCanonical : List ℕ → Type 0
IsCanonical bytes = (t : Tree) × Spells t bytes × (is_plain false 0 t ≡ true)

-- ---- documents one after another

-- The rest, which begins at this offset, is empty, or has a first fault.
pub data EndsAs (offset : ℕ) (rest : List ℕ) : Option BsonFault → Type 0 where
  is_nothing : {last : Option BsonFault} → rest ≡ [] → last ≡ None → EndsAs offset rest last
  is_bad : {last : Option BsonFault} (f : BsonFault) → rest ≢ [] → FrontFault rest f
      → last ≡ Some (fault (offset + f.at) f.cause) → EndsAs offset rest last

-- the number of documents, the number of bytes that they take, and the first fault after them
abbrev pub documents_check : List Tree → Option BsonFault → DocumentsCheck
documents_check documents last =
    record {
      documents = length documents;
      bytes_read = length (documents_bytes documents);
      fault = first_fault last;
    }

-- the check tells the documents at the front of the bytes, and the first fault of the rest after
-- them
abbrev pub IsDocumentsCheck : List ℕ → DocumentsCheck → Type 0
IsDocumentsCheck bytes check =
    (documents : List Tree) × (rest : List ℕ) × DocumentSplit bytes documents rest
    × (last : Option BsonFault)
    × EndsAs (length (documents_bytes documents)) rest last
    × (check ≡ documents_check documents last)
