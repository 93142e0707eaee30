use Rattle.std.proofs.Common.{◌≡◌, List, map}
use Rattle.wire_msg.specs.{Carries, Content, Sequence}
use Rattle.wire_msg.specs.Sequences.{SequencesLeft}
use Rattle.bson_doc.specs.Bson.{value_of}
use Rattle.command_parts.specs.Brought.{followed_by, in_sequences}
use Rattle.command_parts.proofs.brought.push_sequences.Given as goal

abbrev pub invariant-loop-identifier : goal.invariant-loop-identifier
invariant-loop-identifier l =
    (goal.iterator-loop-identifier).can_next l.identifier-iterator × (goal.iterator-loop-identifier).is_finite l.identifier-iterator
    × ((c : Content) → Carries l.fn.payload c → (rest : List Sequence) × SequencesLeft l.identifier-iterator rest × (followed_by (map value_of l.initial.documents.items) (in_sequences l.name c.sequences) ≡ followed_by (map value_of l.documents.items) (in_sequences l.name rest)))
