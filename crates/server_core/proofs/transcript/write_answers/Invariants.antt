use Rattle.std.proofs.Common.{map, take}
use Rattle.std.specs.Prelude.{flat_map}
use Rattle.std.specs.Io.KnownBytes.{Appends}
use Rattle.wire_peer.specs.{buf_content}
use Rattle.server_core.specs.Transcript.{answer_text}
use Rattle.server_core.proofs.transcript.write_answers.Given as goal

-- the texts of those before this one were written
abbrev pub invariant-loop-answer : goal.invariant-loop-answer
invariant-loop-answer g l = Appends (g.W.Write.contents l.initial.out) (g.W.Write.contents l.out) (flat_map answer_text (map buf_content (take l.answer-index l.answers)))
