-- What a caller is told of everything in documents.
use Rattle.std.specs.Prelude.{◌≡◌, List, ℕ, length, Option}
use Rattle.std.specs.List.{sum_by}
use Rattle.bson_elem.specs.declared.fault.BsonFault.{BsonFault}
use Rattle.bson_elem.specs.{Tree}
use Rattle.bson_raw.specs.{DocumentSplit, documents_bytes, elements_in, sizes_in}
use Rattle.byte_views.specs.declared.walk.DocumentsWalk.{DocumentsWalk}
use Rattle.byte_views.specs.Documents.{EndsAs}
use Rattle.byte_views.specs.Fault.{first_fault}

-- the number of documents, the number of bytes that they take, the totals of all of them, and the
-- first fault after them
abbrev pub documents_walk : List Tree → Option BsonFault → DocumentsWalk
documents_walk documents last = record {
  documents = length documents;
  bytes_read = length (documents_bytes documents);
  elements = sum_by elements_in documents;
  sizes = sum_by sizes_in documents;
  fault = first_fault last;
}

-- the walk tells the documents at the front of the bytes, their totals, and the first fault of the
-- rest after them
abbrev pub IsDocumentsWalk : List ℕ → DocumentsWalk → Type 0
IsDocumentsWalk bytes walk =
    (documents : List Tree) × (rest : List ℕ) × DocumentSplit bytes documents rest
    × (last : Option BsonFault)
    × EndsAs (length (documents_bytes documents)) rest last × (walk ≡ documents_walk documents last)
