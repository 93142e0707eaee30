use Rattle.std.proofs.Common.{List, ℕ}
use Rattle.std.specs.Io.KnownBytes.{Appends}
use Rattle.bson_elem.specs.Trees.{Tree}
use Rattle.bson_json.specs.{IsJson}
use Rattle.wire_msg.specs.Documents.{DocumentsAre, DocumentsLeft}
use Rattle.wire_text.proofs.MessageJsons.{Leads}
use Rattle.wire_text.proofs.message_json.write_documents.Given as goal

-- what was written, of which the texts of the documents that are left make those of all
abbrev pub invariant-loop-document : goal.invariant-loop-document
invariant-loop-document g l =
    (goal.iterator-loop-document g).can_next l.document-iterator ×
    (goal.iterator-loop-document g).is_finite l.document-iterator ×
    ((ts : List Tree) → DocumentsAre l.fn.documents ts → (left : List Tree) × (text : List ℕ) × DocumentsLeft l.document-iterator left × Appends (g.W.Write.contents l.initial.out) (g.W.Write.contents l.out) text × Leads (IsJson l.mode) l.before ts left text)
