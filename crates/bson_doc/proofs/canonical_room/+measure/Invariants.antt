use Rattle.std.proofs.Common.{◌≡◌, ◌+◌, ◌*◌, length}
use Rattle.bson_elem.specs.Trees.{Tree}
use Rattle.bson_elem.specs.Spelling.{Spells, elements}
use Rattle.bson_raw.specs.RawDocument.{document_bytes}
use Rattle.bson_raw.specs.RawBson.{held_len}
use Rattle.bson_raw.specs.RawIter.{PairsLeft, walked_len}
use Rattle.bson_raw.specs.Pairs.{names_of}
use Rattle.bson_doc.specs.Plain.{plain_from}
use Rattle.bson_doc.proofs.Rooms.{IsRoomFor}
use Rattle.bson_doc.proofs.canonical_room.+measure.Given as goal

abbrev pub decreases-room_after_document : goal.decreases-room_after_document
decreases-room_after_document l = 4 * length (document_bytes l.document)

abbrev pub decreases-room_after_scope : goal.decreases-room_after_scope
decreases-room_after_scope l = 4 * length (document_bytes l.scope) + 1

abbrev pub decreases-room_after_value : goal.decreases-room_after_value
decreases-room_after_value l = 4 * held_len l.value + 2

abbrev pub decreases-room_after_pair : goal.decreases-room_after_pair
decreases-room_after_pair l = 4 * held_len l.value + 3

-- what is left is room for the pairs left; and the walk is in this document
abbrev pub invariant-room_after_document-loop-name : goal.invariant-room_after_document-loop-name
invariant-room_after_document-loop-name l =
    (goal.iterator-room_after_document-loop-name).can_next l.name-iterator ×
    (goal.iterator-room_after_document-loop-name).is_finite l.name-iterator ×
    (walked_len l.name-iterator ≡ length (document_bytes l.fn.document)) ×
    ((t : Tree) → Spells t (document_bytes l.fn.document) → (rest : Tree) × PairsLeft l.name-iterator rest
    × IsRoomFor l.fn.room l.left (elements (plain_from l.in_array 0 t)) (elements (plain_from l.in_array l.index rest))
    × (length (names_of t) ≡ l.index + length (names_of rest)))
