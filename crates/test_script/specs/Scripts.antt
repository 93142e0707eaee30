-- What a script is read as.
use Rattle.std.specs.Prelude.{◌≡◌, ◌≢◌, ℕ, List, [], ◌∷◌, ◌++◌, Option, Some, None}
use Rattle.script_lines.specs.{script_lines}
use Rattle.test_script.specs.declared.fault.Cause.TheVariants as causes
use Rattle.test_script.specs.declared.fault.ScriptFault.{ScriptFault}
use Rattle.test_script.specs.Lines.{FailsBy, IsRule}
use Rattle.script_rules.specs.Rules.{RuleView}

-- these numbered lines are these rules, in order
abbrev pub AreRules : List (ℕ × List ℕ) → List RuleView → Type 0
AreRules [] rs = rs ≡ []
AreRules (line ∷ lines) [] = ⊥
AreRules (line ∷ lines) (r ∷ rs) = IsRule line.1 r × AreRules lines rs

-- the script has these rules: those of its lines, but for empty ones and those that begin with #
abbrev pub IsScript : List ℕ → List RuleView → Type 0
IsScript text rs = AreRules (script_lines text) rs

-- these lines fail at the first one that is no rule, for this cause
pub record FailsIn (lines : List (ℕ × List ℕ)) (fault : ScriptFault) : Type 0 where
  pub before : List (ℕ × List ℕ)
  pub line : List ℕ
  pub others : List (ℕ × List ℕ)
  pub parts : lines ≡ before ++ (fault.line, line) ∷ others
  pub rules : List RuleView
  pub are : AreRules before rules
  pub fails : FailsBy line fault.cause

-- the script fails at its first line that is no rule
abbrev pub FailsAt : List ℕ → ScriptFault → Type 0
FailsAt text fault = FailsIn (script_lines text) fault

-- a file of a script is named, and a text fails so, but not for want of memory
abbrev pub IsMisread : (file : Option (List ℕ)) → ScriptFault → Type 0
IsMisread None fault = ⊥
IsMisread (Some file) fault =
    ((text : List ℕ) × FailsAt text fault) × (fault.cause ≢ causes.OutOfMemory)
