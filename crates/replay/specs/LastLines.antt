-- The last lines of a replay: its counts, and the fault of its file.
use Rattle.std.specs.Prelude.{◌++◌, ℕ, List, Option, None, Some, [], ◌∷◌, codes}
use Rattle.std.specs.Fmt.{decimal}
use Rattle.wire_frames.specs.{record_fault_text}
use Rattle.replay.specs.Paces.{plus}
use Rattle.replay.specs.declared.input_fault.InputFault.{InputFault}
use Rattle.replay.specs.declared.input_fault.InputFault.TheVariants.{EndedInside, Record}
use Rattle.replay.specs.declared.input_fault.InputFault.TheVariants.{Signature}
use Rattle.replay.specs.declared.tally.Tally.{Tally}

-- how many recorded answers were counted
abbrev pub answers_of : Tally → ℕ
answers_of t = plus (plus t.same t.different) t.missing

-- the counts of the recorded answers, and then those of the server's
abbrev pub recorded_text : Tally → List ℕ
recorded_text t =
    decimal (answers_of t) ++ (codes " answers, " ++ (decimal t.same ++ (codes " same, "
    ++ (decimal t.different ++ (codes " different, " ++ (decimal t.missing
    ++ codes " missing, "))))))

abbrev pub received_text : Tally → List ℕ
received_text t =
    decimal t.unexpected ++ (codes " unexpected, " ++ (decimal t.late ++ (codes " late, "
    ++ (decimal t.unrecorded ++ codes " unrecorded\n"))))

-- the line of the counts
abbrev pub tally_line : Tally → List ℕ
tally_line t = recorded_text t ++ received_text t

-- the number and the name of the fault, and its offset
abbrev pub input_fault_text : InputFault → List ℕ
input_fault_text Signature = codes "fault 19 Signature at 0"
input_fault_text (EndedInside offset) = codes "fault 14 EndedInside at " ++ decimal offset
input_fault_text (Record offset cause) = record_fault_text offset cause

abbrev pub shown_input_fault : InputFault → Option (List ℕ)
shown_input_fault fault = Some (input_fault_text fault)

-- the line of the fault, if there is one
abbrev pub fault_line : Option InputFault → List ℕ
fault_line None = []
fault_line (Some fault) = input_fault_text fault ++ 10 ∷ []

-- the line of the counts, and that of the fault
abbrev pub last_lines : Tally → Option InputFault → List ℕ
last_lines t fault = tally_line t ++ fault_line fault
