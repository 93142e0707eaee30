use Rattle.std.proofs.Common.{◌≡◌, length}
use Rattle.std.specs.Io.KnownBytes.{Appends, append_known}
use Rattle.base64.specs.Engines.{standard}
use Rattle.base64.specs.GeneralPurpose.{encode_of}
use Rattle.text_writer.specs.{text_contents}
use Rattle.bson_json.proofs.text.write_base64.Given as goal

abbrev pub invariant-loop-rest : goal.invariant-loop-rest
invariant-loop-rest g l =
    (length l.buffer ≡ 1024)
    × Appends (text_contents g.W.Write.contents l.initial.out) (append_known (text_contents g.W.Write.contents l.out) (encode_of standard l.rest)) (encode_of standard l.bytes)

abbrev pub decreases-loop-rest : goal.decreases-loop-rest
decreases-loop-rest g l = length l.rest
