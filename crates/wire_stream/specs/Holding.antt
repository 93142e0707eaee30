-- How a reader keeps the bytes that it holds.
use Rattle.std.specs.Prelude.{◌≡◌, ℕ, ◌<◌, ◌≤◌, ◌⊎◌, List, Option, None, Some, Vec, length, take}
use Rattle.std.specs.Prelude.{vec_capacity}
use Rattle.std.specs.declared.alloc.Global.{Global}
use Rattle.wire_msg.specs.declared.fault.MsgFault.{MsgFault}
use Rattle.wire_msg.specs.{HeaderFault, IsGoodHeader, header_of, number_at}

-- the first bytes of a header, or those of a message from its header on
abbrev pub held_of : List ℕ → ℕ → Option (Vec ℕ Global) → List ℕ
held_of header len None = take len header
held_of header len (Some message) = message.items

-- The first bytes of a message with a good header, and room for all that it announces.
pub record IsBegun (limit : ℕ) (message : Vec ℕ Global) : Type 0 where
  pub header : 16 ≤ length message.items
  pub good : IsGoodHeader limit (header_of message.items)
  pub within : length message.items ≤ number_at message.items 0
  pub room : number_at message.items 0 ≤ vec_capacity message

-- an incomplete header, a complete one that is bad, or a message with room for the rest of it
abbrev pub IsKept : ℕ → List ℕ → ℕ → Option (Vec ℕ Global) → Type 0
IsKept limit header len None =
    (len < 16) ⊎ ((len ≡ 16) × ((f : MsgFault) × HeaderFault limit (header_of header) f))
IsKept limit header len (Some message) = IsBegun limit message
