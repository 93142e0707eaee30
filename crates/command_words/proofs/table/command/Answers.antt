use Rattle.command_words.proofs.LoopLemmas.{row_added}
use Rattle.command_words.proofs.table.command.Goals as goal

pub loop-row-preserved : goal.loop-row-preserved
loop-row-preserved c =
    row_added c.args.form.now.name.now c.args.form.now.rows.now c.loop-row.row-index _ c.loop-row.command c.in_ok-command.command c.argument.result
    c.in_ok-command.ensures c.argument.ensures.local c.argument.ensures.rule c.loop-row.invariant c.loop-row-test.true
