-- What is sent over a connection, and what a step over it comes to.
use Rattle.std.specs.Prelude.{◌≡◌, ℕ, ◌+◌, ◌-◌, ◌^◌, ◌==◌, ◌<◌, min, if◌then◌else◌, Bool, true}
use Rattle.std.specs.Prelude.{false, List, [], Option, Some, None, Result, Ok, Err}
use Rattle.proxy.specs.declared.chance.Cut.{Cut}
use Rattle.proxy.specs.declared.direction.Direction.{Direction}
use Rattle.proxy.specs.declared.direction.Direction.TheVariants as ways
use Rattle.wire_stream.specs.declared.link.Moved.{Moved}
use Rattle.wire_stream.specs.declared.link.Moved.TheVariants as moves
use Rattle.shared_proxy.specs.declared.leave.Leave.{Leave}
use Rattle.shared_proxy.specs.declared.leave.Leave.TheVariants as leaves
use Rattle.shared_proxy.specs.declared.line.Line.{Line}
use Rattle.shared_proxy.specs.declared.line.Sending.{Sending}
use Rattle.shared_proxy.specs.declared.line.Step.{Step}
use Rattle.shared_proxy.specs.declared.line.Step.TheVariants as steps

-- nothing was sent this way, and so many bytes may be
abbrev pub new_sending : Direction → ℕ → Sending
new_sending direction left = record { direction = direction; count = 0; left = left }

-- so many more bytes were sent, and as many fewer may be
abbrev pub after_bytes : ℕ → Sending → Sending
after_bytes n s = record s { count = min (s.count + n) (2 ^ 64 - 1); left = s.left - n }

abbrev pub after_send : Result Moved Leave → Sending → Sending
after_send (Ok (moves.Bytes n)) s = after_bytes n s
after_send (Ok moves.Later) s = s
after_send (Err leave) s = s

-- no more than so many bytes are sent from now on
abbrev pub limited : ℕ → Line → Line
limited left line =
    record line { sending = record (line.sending) { left = min line.sending.left left } }

-- how the connection was cut, if no more may be sent over it
abbrev pub cut_of : Sending → Option Leave
cut_of s = if s.left == 0 then Some (leaves.Cut s.direction s.count) else None

-- how many bytes may go this way over a connection that is cut so
abbrev pub goes_on : Cut → Direction → Direction → ℕ
goes_on cut ways.There ways.There = cut.count
goes_on cut ways.Back ways.Back = cut.count
goes_on cut own other = 2 ^ 64 - 1

abbrev pub left_by : Option Cut → Direction → ℕ
left_by None direction = 2 ^ 64 - 1
left_by (Some cut) direction = goes_on cut cut.direction direction

-- the link under a line shows no byte
abbrev pub unseen : {L : Type 0} → L → Option (List ℕ)
unseen link = None

-- what a step comes to that received nothing, and where no message is held
abbrev pub idle_step : (has_more : Bool) → Step
idle_step true = steps.Again
idle_step false = steps.Waits

-- all of two lines is the same but for their links
pub record SameButLink (old new : Line) : Type 0 where
  pub connecting : new.connecting ≡ old.connecting
  pub inlet : new.inlet ≡ old.inlet
  pub sending : new.sending ≡ old.sending
