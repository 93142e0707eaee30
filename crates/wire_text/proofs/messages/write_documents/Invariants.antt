use Rattle.std.proofs.Common.{◌≡◌, ◌++◌, List, ℕ}
use Rattle.std.specs.Prelude.{flat_map}
use Rattle.std.specs.Io.KnownBytes.{Appends}
use Rattle.bson_elem.specs.Trees.{Tree}
use Rattle.wire_msg.specs.Documents.{DocumentsAre, DocumentsLeft}
use Rattle.wire_text.specs.MessageText.{member_text}
use Rattle.wire_text.proofs.messages.write_documents.Given as goal

-- what was written, and the texts of the documents that are left, are the texts of all
abbrev pub invariant-loop-document : goal.invariant-loop-document
invariant-loop-document g l =
    (goal.iterator-loop-document g).can_next l.document-iterator ×
    (goal.iterator-loop-document g).is_finite l.document-iterator ×
    ((ts : List Tree) → DocumentsAre l.fn.documents ts → (left : List Tree) × (text : List ℕ) × DocumentsLeft l.document-iterator left × Appends (g.W.Write.contents l.initial.out) (g.W.Write.contents l.out) text × (flat_map member_text ts ≡ text ++ flat_map member_text left))
