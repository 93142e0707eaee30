use Rattle.std.proofs.Common.{List, ℕ}
use Rattle.std.specs.Io.KnownBytes.{Appends}
use Rattle.wire_msg.specs.Carrying.{Carries}
use Rattle.wire_msg.specs.Messages.{Content, Sequence}
use Rattle.wire_msg.specs.Sequences.{SequencesLeft}
use Rattle.wire_text.specs.MessageJson.{IsSequenceJson}
use Rattle.wire_text.proofs.MessageJsons.{Leads}
use Rattle.wire_text.proofs.message_json.write_sequences.Given as goal

-- what was written, of which the texts of the sequences that are left make those of all
abbrev pub invariant-loop-identifier : goal.invariant-loop-identifier
invariant-loop-identifier g l =
    (goal.iterator-loop-identifier g).can_next l.identifier-iterator ×
    (goal.iterator-loop-identifier g).is_finite l.identifier-iterator ×
    ((c : Content) → Carries l.fn.payload c → (left : List Sequence) × (text : List ℕ) × SequencesLeft l.identifier-iterator left × Appends (g.W.Write.contents l.initial.out) (g.W.Write.contents l.out) text × Leads (IsSequenceJson l.mode) l.before c.sequences left text)
