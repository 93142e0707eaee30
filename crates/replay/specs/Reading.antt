-- How reading a file of records begins and ends.
use Rattle.std.specs.Prelude.{◌≡◌, ◌⊎◌, ℕ, zero, suc, List, Option, None, Some, length}
use Rattle.wire_frames.specs.{IsAtFault}
use Rattle.wire_frames.specs.declared.fault.RecordFault.{RecordFault}
use Rattle.replay.specs.Paces.{plus}
use Rattle.replay.specs.declared.input_fault.InputFault.{InputFault}
use Rattle.replay.specs.declared.input_fault.InputFault.TheVariants.{EndedInside, Record}
use Rattle.replay.specs.declared.input_fault.InputFault.TheVariants.{Signature}

-- The first record stands at offset 8, behind the signature; or the file is at fault, since it
-- doesn't begin with the signature.
abbrev pub BeginsSo : (old new : Option InputFault) → (offset : ℕ) → Type 0
BeginsSo old new offset = ((new ≡ old) × (offset ≡ 8)) ⊎ (new ≡ Some Signature)

-- the fault of a file in which a record at this offset has this fault
abbrev pub fault_of_record : ℕ → RecordFault → InputFault
fault_of_record offset fault = Record (plus offset fault.at) fault.cause

-- the fault of a file that ends behind so many bytes of the record at this offset, if it has one
abbrev pub end_fault : ℕ → ℕ → Option InputFault
end_fault offset zero = None
end_fault offset (suc held) = Some (EndedInside offset)

-- Reading ends by what is held: it is no record, or the file ends there.
abbrev pub EndsSo : (limit : ℕ) (held : List ℕ) (offset : ℕ) → Option InputFault → Type 0
EndsSo limit held offset fault =
    ((f : RecordFault) × IsAtFault limit held f × (fault ≡ Some (fault_of_record offset f)))
    ⊎ (fault ≡ end_fault offset (length held))
