-- What the walk over documents returns.
use Rattle.std.specs.Prelude.{◌≡◌, ℕ, List, [], ◌∷◌, length, Option, Some, None}
use Rattle.bson_elem.specs.{Spells, Tree}
use Rattle.bson_raw.specs.declared.document.RawDocument.{RawDocument}
use Rattle.bson_raw.specs.{AreDocuments, document_bytes, documents_bytes}
use Rattle.wire_msg.specs.declared.document_iter.Documents.{Documents}
use Rattle.wire_msg.specs.declared.document_iter.DocumentsIter.{DocumentsIter}

-- the documents are these
abbrev pub DocumentsAre : Documents → List Tree → Type 0
DocumentsAre d ts = AreDocuments ts × (d.bytes.now ≡ documents_bytes ts)

-- the documents that are left are these
abbrev pub DocumentsLeft : DocumentsIter → List Tree → Type 0
DocumentsLeft s ts = AreDocuments ts × (s.bytes.now ≡ documents_bytes ts)

-- a bound on how many documents are left
abbrev pub documents_bound : DocumentsIter → ℕ
documents_bound s = length s.bytes.now

-- The first tree is spelled by the document, and the others are left.
pub record GivesDocument (ts : List Tree) (d : RawDocument) (after : DocumentsIter) : Type 0 where
  pub tree : Tree
  pub others : List Tree
  pub is_first : ts ≡ tree ∷ others
  pub spelled : Spells tree (document_bytes d)
  pub left : DocumentsLeft after others

-- Whatever documents are left, the first of them is returned; or there is none, and none is left.
abbrev pub DocumentStepsTo : DocumentsIter → Option RawDocument → DocumentsIter → Type 0
DocumentStepsTo s None after =
    (ts : List Tree) → DocumentsLeft s ts → (ts ≡ []) × DocumentsLeft after []
DocumentStepsTo s (Some d) after = (ts : List Tree) → DocumentsLeft s ts → GivesDocument ts d after
