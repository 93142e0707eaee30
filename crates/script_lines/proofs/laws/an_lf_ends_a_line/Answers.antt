use Rattle.script_lines.proofs.Endings.{line_ended, line_last}
use Rattle.script_lines.proofs.laws.an_lf_ends_a_line.Goals as goal

pub returns-clause-ended : goal.returns-clause-ended
returns-clause-ended c = line_ended

pub returns-clause-last : goal.returns-clause-last
returns-clause-last c = line_last
