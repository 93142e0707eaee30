-- Records as items that tell their length.
use Rattle.std.specs.Prelude.{ℕ, ◌+◌, ◌-◌, ◌^◌, Result, Ok, Err, ⊤, nat_lt, ◌||◌}
use Rattle.std.specs.Prelude.{if◌then◌else◌}
use Rattle.std.proofs.Common.{arith}
use Rattle.framing.specs.{IsSound, Rule, bounded, bounded_least}
use Rattle.wire_msg.specs.{number_at}
use Rattle.wire_frames.specs.declared.fault.RecordFault.{RecordFault}
use Rattle.wire_frames.specs.declared.fault.RecordCause.TheVariants as causes
use Rattle.wire_frames.specs.Causes.{record_fault}
use Rattle.wire_frames.specs.Heads.{connection_at, direction_at}

-- the first check that the numbers of a connection and a direction fail
abbrev pub checked_numbers : ℕ → ℕ → Result ⊤ RecordFault
checked_numbers connection direction =
    if nat_lt connection 1 || nat_lt (2 ^ 63 - 1) connection
    then Err (record_fault 8 causes.Connection)
    else if nat_lt 1 direction then Err (record_fault 16 causes.Direction) else Ok tt

-- a head of 20 bytes, the header of the message, and a messageLength of at least that header and at
-- most the limit
abbrev pub record_rule : ℕ → Rule RecordFault
record_rule limit = record {
  lead = 20;
  check = λ bytes. checked_numbers (connection_at bytes) (direction_at bytes);
  header = 36;
  total = λ bytes. bounded 36 (20 + limit) (record_fault 20 causes.Length)
      (20 + number_at bytes 20);
}

pub record_sound : (limit : ℕ) → IsSound (record_rule limit)
record_sound limit = record {
  some = omega arith;
  begins = omega arith;
  least = λ bytes n is. bounded_least 36 (20 + limit) (record_fault 20 causes.Length)
      (20 + number_at bytes 20) n is;
}
