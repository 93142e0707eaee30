use Rattle.script_lines.specs.{script_lines}
use Rattle.wire_play.proofs.ScriptLaws.{lines_fault}
use Rattle.wire_play.proofs.laws.one_fault.Goals as goal

pub returns : goal.returns
returns c = λ script. lines_fault (script_lines script)
