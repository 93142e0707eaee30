-- What is left to be sent, and how long the server may take nothing of it.
use Rattle.std.specs.Prelude.{ℕ, Bool, Option, None, Some, false, nat_le}
use Rattle.replay.specs.Paces.{plus}
use Rattle.replay.specs.declared.channel.Sent.{Sent}
use Rattle.replay.specs.declared.channel.Sent.TheVariants.{All, Nothing, Part}
use Rattle.replay.specs.declared.conn.Stall.{Stall}

-- something is left, of which the server has to take some within its patience from now on
abbrev pub stall_from : ℕ → ℕ → Stall
stall_from now patience = record { patience = patience; due = plus now patience }

-- What is left after a call of sending, before which this was. The patience begins anew where some
-- was sent, and where nothing was left before.
abbrev pub stalled : Sent → Option Stall → ℕ → ℕ → Option Stall
stalled All before now patience = None
stalled Part before now patience = Some (stall_from now patience)
stalled Nothing None now patience = Some (stall_from now patience)
stalled Nothing (Some stall) now patience = Some stall

-- whether the server took nothing of what is left for too long by now
abbrev pub is_late : ℕ → Option Stall → Bool
is_late now None = false
is_late now (Some stall) = nat_le stall.due now
