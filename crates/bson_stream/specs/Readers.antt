-- What a reader of documents holds, and its state.
use Rattle.std.specs.Prelude.{◌≡◌, ℕ, ◌+◌, ◌*◌, ◌^◌, ◌<◌, ◌≤◌, ◌⊎◌, List, [], ◌++◌, length}
use Rattle.std.specs.Prelude.{Bool, false, max, min, take}
use Rattle.bson_elem.specs.{Spells, Tree}
use Rattle.bson_raw.specs.{IsSpelled, is_plain}
use Rattle.bson_stream.specs.declared.reader_state.Fed.{Fed}
use Rattle.bson_stream.specs.declared.reader_state.ReaderState.{ReaderState}
use Rattle.bson_stream.specs.declared.reader_state.ReaderState.TheVariants.{Need, Ready, Bad}
use Rattle.bson_stream.specs.declared.reader_state.ReadRefusal.{ReadRefusal}
use Rattle.bson_stream.specs.declared.reader_state.ReadRefusal.TheVariants.{OutOfMemory}
use Rattle.bson_stream.specs.declared.reader_state.ReadRefusal.TheVariants.{TooFar, TooLong}
use Rattle.bson_stream.specs.Holding.{IsWanted}
use Rattle.bson_stream.specs.Standing.{IsBad, IsLength, IsOpen, announced}

-- what a caller sees of a reader: its limit, the number of bytes of the documents before the
-- current one, the bytes of the current one so far, and how many there is memory for
pub record Reading : Type 0 where
  pub limit : ℕ
  pub start : ℕ
  pub held : List ℕ
  pub room : ℕ

-- this says whether the document of the bytes is in canonical form
abbrev pub TellsForm : List ℕ → Bool → Type 0
TellsForm bytes canonical = (t : Tree) → Spells t bytes → canonical ≡ is_plain false 0 t

-- the state of a reader that holds these bytes, which begin at this offset
abbrev pub StandsAt : ℕ → List ℕ → ReaderState → Type 0
StandsAt start held Need = IsOpen held
StandsAt start held (Ready canonical) = IsSpelled held × TellsForm held canonical
StandsAt start held (Bad f) = IsBad start held f

-- no more bytes are held than a length has, or than a good one within the limit announces
abbrev pub HoldsNoMore : ℕ → List ℕ → Type 0
HoldsNoMore limit held =
    (length held ≤ 4)
    ⊎ (IsLength (announced held) × (announced held ≤ limit) × (length held ≤ announced held))

-- A reader was fed the piece, of which it took the front. The memory is no less than it was before,
-- and at most that or twice what is held.
pub record Feeds (old : Reading) (piece : List ℕ) (new : Reading) (fed : Fed) : Type 0 where
  pub taken : fed.taken ≤ length piece
  pub limit : new.limit ≡ old.limit
  pub start : new.start ≡ old.start
  pub held : new.held ≡ old.held ++ take fed.taken piece
  pub state : StandsAt new.start new.held fed.state
  pub no_more : HoldsNoMore new.limit new.held
  pub all : fed.state ≡ Need → fed.taken ≡ length piece
  pub grown : old.room ≤ new.room
  pub room : new.room ≤ max old.room (2 * length new.held)

-- a good length above the limit is in front
pub record AnnouncesMore (limit : ℕ) (bytes : List ℕ) : Type 0 where
  pub complete : 4 ≤ length bytes
  pub good : IsLength (announced bytes)
  pub more : limit < announced bytes

-- there is too little memory for what is held and for what the document wants of the piece
abbrev pub IsShort : Reading → List ℕ → Type 0
IsShort old piece =
    (wanted : ℕ) × IsWanted old.limit (old.held ++ piece) wanted
    × (old.room < min (length old.held + length piece) wanted)

-- why a reader took nothing of the piece
abbrev pub IsRefused : Reading → List ℕ → ReadRefusal → Type 0
IsRefused old piece OutOfMemory = IsShort old piece
IsRefused old piece TooLong = AnnouncesMore old.limit (old.held ++ piece)
IsRefused old piece TooFar = 2 ^ 64 ≤ old.start + length old.held + length piece

-- The reader holds nothing, and the document is whole in front of the piece, within the limit, and
-- ends where offsets reach. Behind it is this rest.
pub record IsInFront (r : Reading) (piece document rest : List ℕ) : Type 0 where
  pub none_held : r.held ≡ []
  pub parts : piece ≡ document ++ rest
  pub spelled : IsSpelled document
  pub within : length document ≤ r.limit
  pub counted : r.start + length document < 2 ^ 64

-- the reader that holds nothing, so many bytes further on
abbrev pub moved_behind : Reading → ℕ → Reading
moved_behind r n = record { limit = r.limit; start = r.start + n; held = []; room = r.room }
