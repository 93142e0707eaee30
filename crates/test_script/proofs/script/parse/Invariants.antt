use Rattle.script_lines.specs.{lines_left, script_lines}
use Rattle.test_script.proofs.Parsing.{SoFar}
use Rattle.test_script.proofs.script.parse.Given as goal

-- the lines before those that are left are the rules so far
abbrev pub invariant-loop-line : goal.invariant-loop-line
invariant-loop-line l =
    (goal.iterator-loop-line).can_next l.lines × (goal.iterator-loop-line).is_finite l.lines
    × SoFar (script_lines l.fn.text) (lines_left l.lines) l.rules.items
