-- What a reader of messages holds, and its state.
use Rattle.std.specs.Prelude.{◌≡◌, ℕ, ◌<◌, ◌≤◌, ◌⊎◌, List, ◌++◌, length, take}
use Rattle.wire_msg.specs.declared.fault.MsgFault.{MsgFault}
use Rattle.wire_msg.specs.{HeaderFault, IsBad, IsGoodHeader, IsMessage, IsOpen, header_of}
use Rattle.wire_msg.specs.{number_at}
use Rattle.wire_stream.specs.declared.reader_state.Fed.{Fed}
use Rattle.wire_stream.specs.declared.reader_state.ReaderState.{ReaderState}
use Rattle.wire_stream.specs.declared.reader_state.ReaderState.TheVariants.{Need, Ready, Bad}

-- what a caller sees of a reader: its limit, and the bytes of the current message so far
pub record Reading : Type 0 where
  pub limit : ℕ
  pub held : List ℕ

-- the state of a reader that holds these bytes
abbrev pub StandsAt : ℕ → List ℕ → ReaderState → Type 0
StandsAt limit held Need = IsOpen limit held
StandsAt limit held Ready = IsMessage limit held
StandsAt limit held (Bad f) = IsBad limit held f

-- no more bytes are held than a header has, or than a good header announces
abbrev pub HoldsNoMore : ℕ → List ℕ → Type 0
HoldsNoMore limit held =
    (length held ≤ 16) ⊎ (IsGoodHeader limit (header_of held) × (length held ≤ number_at held 0))

-- A reader that held the old bytes was fed the piece, and holds the new bytes now.
pub record Feeds (limit : ℕ) (old piece new : List ℕ) (fed : Fed) : Type 0 where
  pub taken : fed.taken ≤ length piece
  pub held : new ≡ old ++ take fed.taken piece
  pub state : StandsAt limit new fed.state
  pub no_more : HoldsNoMore limit new
  pub all : fed.state ≡ Need → fed.taken ≡ length piece

-- The held bytes are the beginning of a good header that ends in the piece.
pub record CompletesHeader (limit : ℕ) (held piece : List ℕ) : Type 0 where
  pub before : length held < 16
  pub after : 16 ≤ length (held ++ piece)
  pub good : IsGoodHeader limit (header_of (held ++ piece))

-- the number of bytes that the held header announces, if it is whole and good, or else 0
pub data IsRoom : ℕ → List ℕ → ℕ → Type 0 where
  announced : {limit : ℕ} {held : List ℕ} {room : ℕ} → 16 ≤ length held
      → IsGoodHeader limit (header_of held) → room ≡ number_at held 0 → IsRoom limit held room
  in_header : {limit : ℕ} {held : List ℕ} {room : ℕ} → length held < 16 → room ≡ 0
      → IsRoom limit held room
  bad_header : {limit : ℕ} {held : List ℕ} {room : ℕ} (f : MsgFault) → 16 ≤ length held
      → HeaderFault limit (header_of held) f → room ≡ 0 → IsRoom limit held room
