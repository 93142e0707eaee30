use Rattle.std.proofs.Common.{ap, sym, ◌∙◌}
use Rattle.std.specs.Prelude.{option_copied}
use Rattle.script_rules.specs.Meeting.{flow_by}
use Rattle.script_rules.proofs.script.Script.flow.Goals as goal

pub returns-in-Some : goal.returns-in-Some
returns-in-Some c = λ k rs is e.
    c.flow.ensures ∙ ap flow_by (ap option_copied (sym c.in-Some.is) ∙ c.action.ensures.met k rs is e)

pub returns-in-None : goal.returns-in-None
returns-in-None c = λ k rs is e.
    ap flow_by (ap option_copied (sym c.in-None.is) ∙ c.action.ensures.met k rs is e)
