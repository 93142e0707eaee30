use Rattle.std.proofs.Common.{◌≡◌, ◌+◌, ◌*◌, ◌++◌, ℕ, List, length}
use Rattle.bson_elem.specs.Trees.{Tree}
use Rattle.bson_elem.specs.Spelling.{Spells, elements}
use Rattle.bson_raw.specs.RawDocument.{document_bytes}
use Rattle.bson_raw.specs.RawBson.{held_len}
use Rattle.bson_raw.specs.RawIter.{PairsLeft, walked_len}
use Rattle.bson_raw.specs.Pairs.{names_of}
use Rattle.bson_doc.specs.Plain.{plain_from}
use Rattle.bson_doc.proofs.element.+write.Given as goal

abbrev pub decreases-write_document : goal.decreases-write_document
decreases-write_document l = 4 * length (document_bytes l.document)

abbrev pub decreases-write_scope : goal.decreases-write_scope
decreases-write_scope l = 4 * length (document_bytes l.scope) + 1

abbrev pub decreases-write_value : goal.decreases-write_value
decreases-write_value l = 4 * held_len l.value + 2

abbrev pub decreases-write_element : goal.decreases-write_element
decreases-write_element l = 4 * held_len l.value + 3

-- what was added, and the elements that are left, are all elements; and the walk is in this document
abbrev pub invariant-write_document-loop-name : goal.invariant-write_document-loop-name
invariant-write_document-loop-name l =
    (goal.iterator-write_document-loop-name).can_next l.name-iterator ×
    (goal.iterator-write_document-loop-name).is_finite l.name-iterator ×
    (walked_len l.name-iterator ≡ length (document_bytes l.fn.document)) ×
    ((t : Tree) → Spells t (document_bytes l.fn.document) → (rest : Tree) × (added : List ℕ) × PairsLeft l.name-iterator rest
    × (l.out.items ≡ l.initial.out.items ++ added)
    × (elements (plain_from l.in_array 0 t) ≡ added ++ elements (plain_from l.in_array l.index rest))
    × (length (names_of t) ≡ l.index + length (names_of rest)))
