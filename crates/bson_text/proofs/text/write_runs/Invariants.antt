use Rattle.std.proofs.Common.{length}
use Rattle.std.specs.Io.KnownBytes.{Appends, append_known}
use Rattle.std.specs.List.{flat_map}
use Rattle.bson_text.specs.Text.{escaped}
use Rattle.text_writer.specs.{text_contents}
use Rattle.bson_text.proofs.text.write_runs.Given as goal

abbrev pub invariant-loop-at : goal.invariant-loop-at
invariant-loop-at g l = Appends (text_contents g.W.Write.contents l.initial.out) (append_known (text_contents g.W.Write.contents l.out) (flat_map escaped l.rest)) (flat_map escaped l.bytes)

abbrev pub decreases-loop-at : goal.decreases-loop-at
decreases-loop-at g l = length l.rest
