use Rattle.std.specs.Io.KnownBytes.{Appends}
use Rattle.bson_text.specs.Text.{indent}
use Rattle.text_writer.specs.{text_contents}
use Rattle.bson_text.proofs.text.write_indent.Given as goal

abbrev pub invariant-loop : goal.invariant-loop
invariant-loop g l = Appends (text_contents g.W.Write.contents l.initial.out) (text_contents g.W.Write.contents l.out) (indent l.counter)
