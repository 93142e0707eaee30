-- How documents are gathered, piece by piece.
use Rattle.std.specs.Prelude.{◌≡◌, ℕ, ◌≤◌, List, ◌++◌, Bool, length, take}
use Rattle.bson_elem.specs.{Tree}
use Rattle.bson_raw.specs.{AreDocuments, documents_bytes}
use Rattle.bson_stream.specs.declared.reader_state.Fed.{Fed}
use Rattle.bson_stream.specs.declared.reader_state.ReaderState.TheVariants.{Need, Ready}
use Rattle.bson_stream.specs.Cutting.{SpellEach}
use Rattle.bson_stream.specs.Readers.{AnnouncesMore, Reading, StandsAt}

-- The bytes that a reader took are documents, back to back, which it let go or passed, and then
-- what it holds.
pub record HasRead (bytes : List ℕ) (documents : List Tree) (r : Reading) : Type 0 where
  pub fit : AreDocuments documents
  pub parts : bytes ≡ documents_bytes documents ++ r.held
  pub start_is : r.start ≡ length (documents_bytes documents)

-- the same, where the documents were found, and no good length above the limit is held
abbrev pub Gathered : List ℕ → List (List ℕ) → Reading → Type 0
Gathered bytes found r =
    (documents : List Tree) × HasRead bytes documents r × SpellEach r.limit documents found
    × (AnnouncesMore r.limit r.held → ⊥)

-- A reader was fed the piece, up to bytes that are open or bad, and more documents were found.
pub record Gathers (found : List (List ℕ)) (old : Reading) (piece : List ℕ)
    (more : List (List ℕ)) (new : Reading) (fed : Fed) : Type 0 where
  pub taken : fed.taken ≤ length piece
  pub limit : new.limit ≡ old.limit
  pub gathered : (bytes : List ℕ) → Gathered bytes found old
      → Gathered (bytes ++ take fed.taken piece) more new
  pub state : StandsAt new.start new.held fed.state
  pub all : fed.state ≡ Need → fed.taken ≡ length piece
  pub not_ready : (canonical : Bool) → fed.state ≡ Ready canonical → ⊥
