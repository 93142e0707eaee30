-- Arguments of a command line, as `clap` sees them.
use Rattle.std.specs.Prelude.{Some}
use Rattle.clap.specs.Words.{Rule, Text, new_rule}
use Rattle.clap.specs.declared.builder.action.ArgAction.TheVariants.{Set, SetTrue}
use Rattle.clap.specs.declared.builder.value_parser.ValueParser.TheVariants.{Unsigned}

-- a flag, which is true where it is given
abbrev pub flag_rule : Text → Rule
flag_rule id = record (new_rule id) { long = Some id; action = Some SetTrue }

-- an option that gives a file, or another text
abbrev pub text_rule : Text → Rule
text_rule id = record (new_rule id) { long = Some id; action = Some Set; value_names = 1 }

-- an option that gives a number of 64 bits
abbrev pub number_rule : Text → Rule
number_rule id = record (text_rule id) { parser = Some (Unsigned 0 18446744073709551615) }
