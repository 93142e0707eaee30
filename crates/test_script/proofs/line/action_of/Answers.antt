use Rattle.std.proofs.Common.{◌≡◌, Result, Err, ap, subst}
use Rattle.test_script.specs.declared.keyword.Keyword.{Keyword}
use Rattle.script_lines.specs.declared.errors.LineError.{LineError}
use Rattle.test_script.specs.Lines.{IsActionOf}
use Rattle.test_script.proofs.line.action_of.Goals as goal

one_error : {A : Type 0} (u v : LineError) → let l : Result A LineError = Err u in let r : Result A LineError = Err v in l ≡ r → u ≡ v
one_error u v e = cc

pub returns-in-Err-clause-none : goal.returns-in-Err-clause-none
returns-in-Err-clause-none c = λ e action is.
    let own = subst (λ (k : Keyword). IsActionOf k c.args.operands.now action) c.in-Reply.is is in
    c.in-Err.ensures.none (ap Err (one_error _ _ e)) own.0 own.2

pub returns-in-Err-error-clause-none : goal.returns-in-Err-error-clause-none
returns-in-Err-error-clause-none c = λ e action is.
    let own = subst (λ (k : Keyword). IsActionOf k c.args.operands.now action) c.in-Error.is is in
    c.in-Err-error.ensures.none (ap Err (one_error _ _ e)) own.0 own.2

pub returns-in-None-clause-none : goal.returns-in-None-clause-none
returns-in-None-clause-none c = λ e action is.
    let own = subst (λ (k : Keyword). IsActionOf k c.args.operands.now action) c.in-Delay.is is in
    c.in-None.ensures.none own.0 own.2

pub returns-in-None-one_number-clause-none : goal.returns-in-None-one_number-clause-none
returns-in-None-one_number-clause-none c = λ e action is.
    let own = subst (λ (k : Keyword). IsActionOf k c.args.operands.now action) c.in-Cut.is is in
    c.in-None-one_number.ensures.none own.0 own.2

pub returns-in-None-one_number-2-clause-none : goal.returns-in-None-one_number-2-clause-none
returns-in-None-one_number-2-clause-none c = λ e action is.
    let own = subst (λ (k : Keyword). IsActionOf k c.args.operands.now action) c.in-CutUp.is is in
    c.in-None-one_number-2.ensures.none own.0 own.2
