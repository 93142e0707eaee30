-- A script that is read line by line.
use Rattle.std.proofs.Common.{◌≡◌, ◌∙◌, ◌++◌, ℕ, List, [], ◌∷◌, refl, sym, ap, subst, append-nil, append_assoc}
use Rattle.test_script.specs.declared.fault.ScriptFault.{ScriptFault}
use Rattle.test_script.specs.Lines.{FailsBy, IsRule}
use Rattle.script_rules.specs.Rules.{RuleView}
use Rattle.test_script.specs.Scripts.{AreRules, FailsIn}

abbrev pub Numbered : Type 0
Numbered = List (ℕ × List ℕ)

-- the first of all lines were read as these rules, and these lines are left
pub record SoFar (all left : Numbered) (rs : List RuleView) : Type 0 where
  pub before : Numbered
  pub parts : all ≡ before ++ left
  pub are : AreRules before rs

pub none_yet : (all left : Numbered) (rs : List RuleView) → left ≡ all → rs ≡ [] → SoFar all left rs
none_yet all left rs is none = record { before = []; parts = sym is; are = none }

one_rule_more : (ls : Numbered) (rs : List RuleView) (line : ℕ × List ℕ) (r : RuleView) → AreRules ls rs → IsRule line.1 r → AreRules (ls ++ line ∷ []) (rs ++ r ∷ [])
one_rule_more [] [] line r are is = (is, refl)
one_rule_more [] (x ∷ rs) line r are is = absurd (let none : x ∷ rs ≡ [] = are in cc)
one_rule_more (l ∷ ls) [] line r are is = absurd are
one_rule_more (l ∷ ls) (x ∷ rs) line r are is = (are.0, one_rule_more ls rs line r are.1 is)

pub one_more : (all left left' : Numbered) (rs rs' : List RuleView) (line : ℕ × List ℕ) (r : RuleView) → left ≡ line ∷ left' → SoFar all left rs → IsRule line.1 r → rs' ≡ rs ++ r ∷ [] → SoFar all left' rs'
one_more all left left' rs rs' line r is so rule grown = record {
  before = so.before ++ line ∷ [];
  parts = so.parts ∙ ap (λ (l : Numbered). so.before ++ l) is ∙ sym (append_assoc so.before (line ∷ []) left');
  are = subst (λ (l : List RuleView). AreRules (so.before ++ line ∷ []) l) (sym grown) (one_rule_more so.before rs line r so.are rule);
}

pub all_read : (all left : Numbered) (rs : List RuleView) → left ≡ [] → SoFar all left rs → AreRules all rs
all_read all left rs is so =
    let whole : all ≡ so.before = so.parts ∙ ap (λ (l : Numbered). so.before ++ l) is ∙ append-nil so.before in
    subst (λ (l : Numbered). AreRules l rs) (sym whole) so.are

pub fails_here : (all left left' : Numbered) (rs : List RuleView) (n : ℕ) (text : List ℕ) (f : ScriptFault) → left ≡ (n, text) ∷ left' → SoFar all left rs → f.line ≡ n → FailsBy text f.cause → FailsIn all f
fails_here all left left' rs n text f is so number fails = record {
  before = so.before;
  line = text;
  others = left';
  parts = so.parts ∙ ap (λ (l : Numbered). so.before ++ l) is ∙ ap (λ (k : ℕ). so.before ++ (k, text) ∷ left') (sym number);
  rules = rs;
  are = so.are;
  fails = fails;
}
