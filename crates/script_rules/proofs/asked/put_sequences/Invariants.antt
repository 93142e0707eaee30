use Rattle.std.proofs.Common.{◌≡◌, List, Some}
use Rattle.wire_msg.specs.{Carries, Content, Sequence}
use Rattle.wire_msg.specs.Sequences.{SequencesLeft}
use Rattle.script_rules.specs.Asked.{with_sequences}
use Rattle.script_rules.proofs.asked.put_sequences.Given as goal

-- the sequences that are left are put into what the body is then
abbrev pub invariant-loop-identifier : goal.invariant-loop-identifier
invariant-loop-identifier l =
    (goal.iterator-loop-identifier).can_next l.identifier-iterator × (goal.iterator-loop-identifier).is_finite l.identifier-iterator
    × ((c : Content) → Carries l.fn.payload c → (rest : List Sequence) × SequencesLeft l.identifier-iterator rest × (with_sequences c.sequences (Some l.initial.body) ≡ with_sequences rest (Some l.body)))
