use Rattle.std.proofs.Common.{replicate}
use Rattle.std.specs.Io.KnownBytes.{Appends}
use Rattle.text_writer.specs.{text_contents}
use Rattle.bson_json.proofs.decimal128.write_zeros.Given as goal

abbrev pub invariant-loop : goal.invariant-loop
invariant-loop g l = Appends (text_contents g.W.Write.contents l.initial.out) (text_contents g.W.Write.contents l.out) (replicate l.counter 48)
