use Rattle.std.proofs.Common.{◌≡◌, List, map}
use Rattle.bson_elem.specs.{Tree}
use Rattle.wire_msg.specs.Documents.{DocumentsAre, DocumentsLeft}
use Rattle.bson_doc.specs.Bson.{value_of}
use Rattle.command_parts.specs.Brought.{followed_by, in_sequence}
use Rattle.command_parts.proofs.brought.push_sequence.Given as goal

abbrev pub invariant-loop-document : goal.invariant-loop-document
invariant-loop-document l =
    (goal.iterator-loop-document).can_next l.document-iterator × (goal.iterator-loop-document).is_finite l.document-iterator
    × ((ts : List Tree) → DocumentsAre l.fn.sequence ts → (rest : List Tree) × DocumentsLeft l.document-iterator rest × (followed_by (map value_of l.initial.documents.items) (in_sequence ts) ≡ followed_by (map value_of l.documents.items) (in_sequence rest)))
