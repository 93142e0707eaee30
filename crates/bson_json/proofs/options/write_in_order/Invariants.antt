use Rattle.std.specs.Io.KnownBytes.{Appends}
use Rattle.std.specs.List.{flat_map}
use Rattle.json.specs.Print.{escape_byte}
use Rattle.text_writer.specs.{text_contents}
use Rattle.bson_json.specs.Options.{in_order}
use Rattle.bson_json.proofs.options.write_in_order.Given as goal

abbrev pub invariant-loop-code : goal.invariant-loop-code
invariant-loop-code g l = Appends (text_contents g.W.Write.contents l.initial.out) (text_contents g.W.Write.contents l.out) (flat_map escape_byte (in_order l.code l.options))
