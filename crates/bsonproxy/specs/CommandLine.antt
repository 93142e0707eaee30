-- The command line of the program, as `clap` sees it.
use Rattle.std.specs.Prelude.{[], ◌∷◌, ◌++◌, List, true, codes, fold}
use Rattle.clap.specs.Words.{App, Rule, new_app, with_rule, with_subcommand}
use Rattle.clap.specs.Simple.{on_top}
use Rattle.command_words.specs.{flag_rule, number_rule, operand_rule, range_rule, text_rule}

-- the option `--share N`, a number from 1 to 1024
abbrev pub share_rule : Rule
share_rule = range_rule 1 1024 (codes "share")

-- the option `--speed P`, a number from 1
abbrev pub speed_rule : Rule
speed_rule = range_rule 1 18446744073709551615 (codes "speed")

-- the addresses of a proxy
abbrev pub address_rules : List Rule
address_rules = operand_rule (codes "listen") ∷ operand_rule (codes "upstream") ∷ []

-- what becomes of messages that pass
abbrev pub show_rules : List Rule
show_rules =
    flag_rule (codes "text") ∷ flag_rule (codes "json") ∷ text_rule (codes "record")
    ∷ number_rule (codes "limit") ∷ []

-- its other options
abbrev pub option_rules : List Rule
option_rules =
    share_rule ∷ number_rule (codes "connections") ∷ flag_rule (codes "until-stdin-closes")
    ∷ text_rule (codes "port-file") ∷ []

-- the faults that it makes
abbrev pub fault_rules : List Rule
fault_rules = text_rule (codes "script") ∷ number_rule (codes "seed") ∷ []

-- the subcommand that passes connections to a server and back
abbrev pub serve_app : App
serve_app = fold (λ a rule. with_rule a rule) (new_app (codes "serve"))
    (address_rules ++ show_rules ++ option_rules ++ fault_rules)

-- the subcommand that sends what a record's clients sent
abbrev pub replay_rules : List Rule
replay_rules =
    operand_rule (codes "file") ∷ operand_rule (codes "address") ∷ text_rule (codes "ignore")
    ∷ speed_rule ∷ []

abbrev pub replay_app : App
replay_app = fold (λ a rule. with_rule a rule) (new_app (codes "replay")) replay_rules

-- the program without subcommands: it has a version, and requires a subcommand
abbrev pub top_app : App
top_app = on_top (λ s. record s { subcommand_required = true; has_version = true })
    (new_app (codes "bsonproxy"))

-- the whole command line
abbrev pub command_line : App
command_line = with_subcommand (with_subcommand top_app serve_app.top) replay_app.top
