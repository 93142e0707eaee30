use Rattle.command_words.proofs.LoopLemmas.{form_added}
use Rattle.command_words.proofs.table.line.Goals as goal

pub loop-form-preserved : goal.loop-form-preserved
loop-form-preserved c =
    form_added c.args.table.now.name.now c.args.table.now.forms.now c.loop-form.form-index _ c.loop-form.line c.in_ok-command.command c.in_ok-line.line
    c.in_ok-line.ensures (c.in_ok-command.ensures.app, c.in_ok-command.ensures.local) c.loop-form.invariant c.loop-form-test.true
