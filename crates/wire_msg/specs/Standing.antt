-- What is known of bytes that more may follow: they are too few, begin with a message, or are at
-- fault.
use Rattle.std.specs.Prelude.{◌≡◌, ℕ, ◌<◌, ◌≤◌, List, ◌++◌, length, take}
use Rattle.wire_msg.specs.declared.fault.MsgFault.{MsgFault}
use Rattle.wire_msg.specs.Messages.{Message}
use Rattle.wire_msg.specs.Spelling.{SpellsMsg}
use Rattle.wire_msg.specs.Header.{number_at, header_of, IsGoodHeader, HeaderFault}
use Rattle.wire_msg.specs.Faults.{FaultMsg}

-- There are fewer bytes than a header has, or than a good header announces.
pub data IsOpen : ℕ → List ℕ → Type 0 where
  in_header : {limit : ℕ} {bytes : List ℕ} → length bytes < 16 → IsOpen limit bytes
  in_message : {limit : ℕ} {bytes : List ℕ} → 16 ≤ length bytes
      → IsGoodHeader limit (header_of bytes) → length bytes < number_at bytes 0 → IsOpen limit bytes

-- The bytes are a message within the limit, and the rest after it.
pub record IsWhole (limit : ℕ) (bytes : List ℕ) (m : Message) (rest : List ℕ) : Type 0 where
  pub front : List ℕ
  pub parts : bytes ≡ front ++ rest
  pub spelled : SpellsMsg m front
  pub within : length front ≤ limit

-- The header has this fault, or the bytes that a good header announces have it.
pub data IsBad : ℕ → List ℕ → MsgFault → Type 0 where
  bad_header : {limit : ℕ} {bytes : List ℕ} {f : MsgFault} → 16 ≤ length bytes
      → HeaderFault limit (header_of bytes) f → IsBad limit bytes f
  bad_message : {limit : ℕ} {bytes : List ℕ} {f : MsgFault} → 16 ≤ length bytes
      → IsGoodHeader limit (header_of bytes) → number_at bytes 0 ≤ length bytes
      → FaultMsg (take (number_at bytes 0) bytes) limit f → IsBad limit bytes f

-- the bytes are one of the three
pub data Stands (limit : ℕ) (bytes : List ℕ) : Type 0 where
  is_open : IsOpen limit bytes → Stands limit bytes
  is_whole : (m : Message) (rest : List ℕ) → IsWhole limit bytes m rest → Stands limit bytes
  is_bad : (f : MsgFault) → IsBad limit bytes f → Stands limit bytes
