-- All documents of a stream, and its fault.
use Rattle.std.specs.Prelude.{◌≡◌, ℕ, ◌^◌, ◌≤◌, List, [], ◌++◌, length, Option, None, Some}
use Rattle.bson_elem.specs.declared.fault.BsonFault.{BsonFault}
use Rattle.bson_elem.specs.{FrontFault, Spells, Tree}
use Rattle.framing.specs.Splits as items
use Rattle.bson_raw.specs.{AreDocuments, DocumentSplit, documents_bytes}
use Rattle.bson_stream.specs.declared.reader_state.ReadRefusal.{ReadRefusal}
use Rattle.bson_stream.specs.declared.reader_state.ReadRefusal.TheVariants.{OutOfMemory}
use Rattle.bson_stream.specs.declared.reader_state.ReadRefusal.TheVariants.{TooFar, TooLong}
use Rattle.bson_stream.specs.Readers.{AnnouncesMore}
use Rattle.bson_stream.specs.Standing.{in_stream}

-- the bytes spell the tree, and are within the limit
abbrev pub SpellsWithin : ℕ → Tree → List ℕ → Type 0
SpellsWithin limit t bytes = Spells t bytes × (length bytes ≤ limit)

-- the lists of bytes spell the trees, one each, within the limit
abbrev pub SpellEach : ℕ → List Tree → List (List ℕ) → Type 0
SpellEach limit trees found = items.SpellEach (SpellsWithin limit) trees found

-- The fault of a rest that begins at this offset, if it has one.
abbrev pub IsFaultOf : ℕ → List ℕ → Option BsonFault → Type 0
IsFaultOf start rest None = rest ≡ []
IsFaultOf start rest (Some f) =
    (own : BsonFault) × FrontFault rest own × (f ≡ in_stream start own)

-- The bytes split into documents and a rest. The documents were found, none of them longer than the
-- limit, and the fault of the rest, in front of which is no good length above the limit.
pub record Cuts (limit : ℕ) (bytes : List ℕ) (found : List (List ℕ)) (f : Option BsonFault)
    : Type 0 where
  pub documents : List Tree
  pub rest : List ℕ
  pub split : DocumentSplit bytes documents rest
  pub spelled : SpellEach limit documents found
  pub within : AnnouncesMore limit rest → ⊥
  pub fault_is : IsFaultOf (length (documents_bytes documents)) rest f

-- The bytes are documents, back to back, and a rest with a good length above the limit in front.
pub record HasTooLong (limit : ℕ) (bytes : List ℕ) : Type 0 where
  pub documents : List Tree
  pub rest : List ℕ
  pub fit : AreDocuments documents
  pub parts : bytes ≡ documents_bytes documents ++ rest
  pub long : AnnouncesMore limit rest

-- why the documents of the bytes weren't read
abbrev pub IsUnread : ℕ → List ℕ → ReadRefusal → Type 0
IsUnread limit bytes OutOfMemory = Unit {0}
IsUnread limit bytes TooLong = HasTooLong limit bytes
IsUnread limit bytes TooFar = 2 ^ 64 ≤ length bytes
