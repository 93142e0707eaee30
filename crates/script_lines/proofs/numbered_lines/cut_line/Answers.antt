use Rattle.std.proofs.Common.{◌+◌, arith, length}
use Rattle.std.proofs.lemmas.List.{drop_all, take_rest}
use Rattle.script_lines.proofs.Cuts.{line_at, only_line}
use Rattle.script_lines.proofs.numbered_lines.cut_line.Goals as goal

pub returns-in-Some-clause-lines : goal.returns-in-Some-clause-lines
returns-in-Some-clause-lines c =
    let at = c.in-Some.at in
    let text = c.args.text.now in
    rw (c.without_cr.ensures, take_rest text (at + 1)) (line_at text at c.in-Some.ensures)

pub returns-in-None-clause-lines : goal.returns-in-None-clause-lines
returns-in-None-clause-lines c =
    let text = c.args.text.now in
    rw (take_rest text (length text), drop_all (length text) text (omega arith)) (only_line text c.requires c.in-None.ensures)
