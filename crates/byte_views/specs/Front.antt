-- What a caller is told of bytes that more may follow, as a message is read in pieces.
use Rattle.std.specs.Prelude.{◌≡◌, ℕ, List, length, nat_lt, if◌then◌else◌, None}
use Rattle.wire_msg.specs.declared.fault.MsgFault.{MsgFault}
use Rattle.wire_msg.specs.{IsBad, IsOpen, IsWhole, Message, number_at}
use Rattle.byte_views.specs.declared.front.MessageFront.{MessageFront}
use Rattle.byte_views.specs.Fault.{document_fault, first_fault, limit_fault, message_fault}

-- how many bytes there have to be before more can be told: those of a header, or as many as the
-- header says
abbrev pub bytes_wanted : List ℕ → ℕ
bytes_wanted bytes = if nat_lt (length bytes) 16 then 16 else number_at bytes 0

-- there is no fault: this state, and this length
abbrev pub good_front : ℕ → ℕ → MessageFront
good_front state n =
    record
    { state = state; length = n; fault = first_fault None; document_fault = first_fault None }

abbrev pub bad_front : MsgFault → MessageFront
bad_front f =
    record
    { state = 2; length = 0; fault = message_fault f; document_fault = document_fault f.cause }

-- The bytes are too few, and so many are wanted; or they begin with a message of this length; or
-- this is their first fault.
pub data IsMessageFront (limit : ℕ) (bytes : List ℕ) : MessageFront → Type 0 where
  is_open : {front : MessageFront} → IsOpen limit bytes → front ≡ good_front 0 (bytes_wanted bytes)
      → IsMessageFront limit bytes front
  is_whole : {front : MessageFront} (m : Message) (rest : List ℕ) (w : IsWhole limit bytes m rest)
      → front ≡ good_front 1 (length w.front) → IsMessageFront limit bytes front
  is_bad : {front : MessageFront} (f : MsgFault) → IsBad limit bytes f → front ≡ bad_front f
      → IsMessageFront limit bytes front

-- what is told under a limit that is too large: nothing was read
abbrev pub limit_front : MessageFront
limit_front =
    record { state = 2; length = 0; fault = limit_fault; document_fault = first_fault None }
