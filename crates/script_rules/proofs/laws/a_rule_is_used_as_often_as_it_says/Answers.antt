use Rattle.script_rules.proofs.Used.{used_at_most}
use Rattle.script_rules.proofs.laws.a_rule_is_used_as_often_as_it_says.Goals as goal

pub returns : goal.returns
returns c = used_at_most
