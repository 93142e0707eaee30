use Rattle.std.proofs.Common.{length}
use Rattle.std.specs.Io.KnownBytes.{Appends, append_known}
use Rattle.hex.specs.Hex.{encode_lower}
use Rattle.text_writer.specs.Contents.{text_contents}
use Rattle.text_writer.proofs.digits.write_hex.Given as goal

abbrev pub invariant-loop-rest : goal.invariant-loop-rest
invariant-loop-rest g l = Appends (text_contents g.W.Write.contents l.initial.out) (append_known (text_contents g.W.Write.contents l.out) (encode_lower l.rest)) (encode_lower l.bytes)

abbrev pub decreases-loop-rest : goal.decreases-loop-rest
decreases-loop-rest g l = length l.rest
