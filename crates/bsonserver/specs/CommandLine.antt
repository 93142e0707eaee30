-- The command line of the program, as `clap` sees it.
use Rattle.std.specs.Prelude.{Some, codes, true}
use Rattle.clap.specs.Simple.{on_top}
use Rattle.clap.specs.Words.{App, Rule, new_app, new_rule, with_rule}
use Rattle.clap.specs.declared.builder.action.ArgAction.TheVariants.{Set}
use Rattle.command_words.specs.{flag_rule, number_rule, text_rule}

-- the operand ADDRESS, which may be left out
abbrev pub address_rule : Rule
address_rule = record (new_rule (codes "address")) { action = Some Set; value_names = 1 }

-- the program with no argument yet: it has a version
abbrev pub top_app : App
top_app = on_top (λ s. record s { has_version = true }) (new_app (codes "bsonserver"))

-- the program with what is served
abbrev pub serving_line : App
serving_line = with_rule (with_rule top_app address_rule) (number_rule (codes "connections"))

-- the whole command line
abbrev pub command_line : App
command_line =
    with_rule
    (with_rule
    (with_rule
    (with_rule serving_line (flag_rule (codes "quiet")))
    (flag_rule (codes "until-stdin-closes")))
    (text_rule (codes "port-file")))
    (text_rule (codes "script"))
