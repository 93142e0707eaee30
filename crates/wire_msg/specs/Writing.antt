-- What writing a message does.
use Rattle.std.specs.Prelude.{ℕ, ◌<◌, ◌≤◌}
use Rattle.wire_msg.specs.declared.refusal.MsgRefusal.{MsgRefusal}
use Rattle.wire_msg.specs.declared.refusal.MsgRefusal.TheVariants.{TooLarge, OutOfMemory}

-- why a message of this length isn't written under a limit
abbrev pub IsWriteRefusal : ℕ → ℕ → MsgRefusal → Type 0
IsWriteRefusal limit len TooLarge = limit < len
IsWriteRefusal limit len OutOfMemory = len ≤ limit
IsWriteRefusal limit len _ = ⊥
