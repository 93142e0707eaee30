-- What a choice takes from the matches that `clap` makes of the words.
use Rattle.std.specs.Prelude.{◌≡◌, List, Option, None, Some, codes, option_map}
use Rattle.clap.specs.Words.{Row, Text, first_of, matches_of, one_of}
use Rattle.command_words.specs.{AsksForMany, HasNumber, was_given}
use Rattle.bsonserver.specs.declared.choice.Choice.{Choice}
use Rattle.bsonserver.specs.CommandLine.{command_line}

-- the address to listen at: that which is given, or else the one at which drivers look for a server
abbrev pub given_address : Option Text → Text
given_address (Some address) = address
given_address None = codes "127.0.0.1:27017"

-- The matches hold the address, the number of connections, the flags and the files.
pub record IsHeld (c : Choice) (rows : List Row) : Type 0 where
  pub address : c.address.now ≡ given_address (first_of (codes "address") rows)
  pub connections : AsksForMany c.connections (one_of (codes "connections") rows)
  pub quiet : c.quiet ≡ was_given (codes "quiet") rows
  pub until_stdin_closes : c.until_stdin_closes ≡ was_given (codes "until-stdin-closes") rows
  pub port_file : option_map (λ file. file.now) c.port_file ≡ first_of (codes "port-file") rows
  pub script : option_map (λ file. file.now) c.script ≡ first_of (codes "script") rows

-- the choice is what the command line makes of the words
abbrev pub IsChosen : Choice → List Text → Type 0
IsChosen c words = IsHeld c (matches_of command_line words)

-- ---- that there is a choice

-- there is a choice where the number of connections is one
abbrev pub HasChoice : List Row → Type 0
HasChoice rows = HasNumber (codes "connections") rows
