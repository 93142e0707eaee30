use Rattle.script_rules.proofs.Meets.{does_as, first_is, is_first}
use Rattle.script_rules.proofs.laws.the_first_live_rule_is_met.Goals as goal

pub returns : goal.returns
returns c = record { first = is_first; only = first_is; done = does_as }
