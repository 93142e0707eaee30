use Rattle.std.proofs.Common.{◌∙◌}
use Rattle.script_rules.proofs.Used.{action_is}
use Rattle.script_rules.proofs.script.Script.action.Goals as goal

pub returns-clause-met : goal.returns-clause-met
returns-clause-met c = λ k rs is e. c.action_at.ensures ∙ action_is c.args.found c.args.self.now.rules.items k rs is e
