use Rattle.std.proofs.Common.{◌≡◌, false, take}
use Rattle.clap.specs.Words.{app_of}
use Rattle.clap.specs.declared.builder.command.Command.TheViews.{out-Command}
use Rattle.command_words.specs.Tables.{line_with}
use Rattle.command_words.proofs.table.line.Given as goal

-- the line has the commands before this one
abbrev pub invariant-loop-form : goal.invariant-loop-form
invariant-loop-form l = (app_of l.line ≡ line_with l.table.name.now (take l.form-index l.table.forms.now)) × ((out-Command l.line).has_globals ≡ false)
