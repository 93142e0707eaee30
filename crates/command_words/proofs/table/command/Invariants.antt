use Rattle.std.proofs.Common.{◌≡◌, false, take}
use Rattle.clap.specs.Words.{app_of}
use Rattle.clap.specs.declared.builder.command.Command.TheViews.{out-Command}
use Rattle.command_words.specs.Tables.{app_with}
use Rattle.command_words.proofs.table.command.Given as goal

-- the command has the rows before this one
abbrev pub invariant-loop-row : goal.invariant-loop-row
invariant-loop-row l = (app_of l.command ≡ app_with l.form.name.now (take l.row-index l.form.rows.now)) × ((out-Command l.command).has_globals ≡ false)
