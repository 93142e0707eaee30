use Rattle.std.proofs.Common.{◌==◌, take}
use Rattle.std.specs.Io.KnownBytes.{Appends}
use Rattle.std.specs.List.{filter, flat_map}
use Rattle.json.specs.Print.{escape_byte}
use Rattle.text_writer.specs.{text_contents}
use Rattle.bson_json.proofs.options.write_each.Given as goal

abbrev pub invariant-loop-c : goal.invariant-loop-c
invariant-loop-c g l = Appends (text_contents g.W.Write.contents l.initial.out) (text_contents g.W.Write.contents l.out) (flat_map escape_byte (filter (λ c. c == l.code) (take l.c-index l.options)))
