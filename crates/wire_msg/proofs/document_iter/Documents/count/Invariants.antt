use Rattle.std.proofs.Common.{◌≡◌, ◌+◌, ◌≤◌, List, length}
use Rattle.bson_elem.specs.Trees.{Tree}
use Rattle.wire_msg.specs.Checks.{HasDocuments}
use Rattle.bson_raw.specs.Split.{AreDocuments, documents_bytes}
use Rattle.wire_msg.specs.Documents.{DocumentsAre}
use Rattle.wire_msg.proofs.document_iter.Documents.count.Given as goal

-- documents are left, and with those that were counted they are all
abbrev pub invariant-loop-rest : goal.invariant-loop-rest
invariant-loop-rest l =
    ∥ HasDocuments l.rest ∥₁
    × (l.count + length l.rest ≤ length l.self.bytes.now)
    × ((ts : List Tree) → DocumentsAre l.self ts → (left : List Tree) × AreDocuments left × (l.rest ≡ documents_bytes left) × (l.count + length left ≡ length ts))

abbrev pub decreases-loop-rest : goal.decreases-loop-rest
decreases-loop-rest l = length l.rest
