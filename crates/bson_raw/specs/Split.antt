-- Documents back to back.
use Rattle.std.specs.Prelude.{◌≡◌, ◌⊎◌, ℕ, List, [], flat_map}
use Rattle.bson_elem.specs.declared.fault.BsonFault.{BsonFault}
use Rattle.bson_elem.specs.{FrontFault, Spells, Tree, document, elements}
use Rattle.framing.specs.{AreAll, SplitsInto}

-- the tree is that of a document: it has a spelling
abbrev pub IsDocument : Tree → Type 0
IsDocument t = Spells t (document (elements t))

-- each tree is that of a document
abbrev pub AreDocuments : List Tree → Type 0
AreDocuments ts = AreAll IsDocument ts

-- the bytes of the documents, back to back
abbrev pub documents_bytes : List Tree → List ℕ
documents_bytes ts = flat_map (λ t. document (elements t)) ts

-- nothing is left, or what is left has a first fault
abbrev pub EndsDocuments : List ℕ → Type 0
EndsDocuments rest = (rest ≡ []) ⊎ ((f : BsonFault) × FrontFault rest f)

-- the bytes are documents, back to back, and a rest, which is empty or has a first fault
abbrev pub DocumentSplit : List ℕ → List Tree → List ℕ → Type 0
DocumentSplit bytes documents rest = SplitsInto Spells EndsDocuments bytes documents rest
