use Rattle.std.proofs.Common.{◌≡◌, ◌≤◌, List, length, map}
use Rattle.bson_elem.specs.{Tree}
use Rattle.bson_raw.proofs.Lemmas.{Walked}
use Rattle.wire_msg.specs.{body_alone}
use Rattle.wire_peer.specs.{answers_of}
use Rattle.core_handles.proofs.server_answers.read_answers.Given as goal

-- the documents that were read are the answers
abbrev pub invariant-loop-rest : goal.invariant-loop-rest
invariant-loop-rest l = record {
  within : length l.rest ≤ length l.documents;
  so_far : (seen : List Tree) × Walked l.documents seen l.rest × (answers_of l.answers ≡ map body_alone seen);
}

abbrev pub decreases-loop-rest : goal.decreases-loop-rest
decreases-loop-rest l = length l.rest
