-- The tokens that are left of a text, which is read where it stands or from a tape.
use Rattle.std.specs.Prelude.{List}
use Rattle.json.specs.Token.{Token}
use Rattle.bson_json_read.specs.declared.source.Source.{Source}
use Rattle.bson_json_read.specs.declared.source.Source.TheVariants.{Text, Tape}

abbrev pub left_of : Source → List Token
left_of (Text text) = text
left_of (Tape tape) = tape
