use Rattle.std.proofs.Common.{[], ◌∙◌, ap, subst}
use Rattle.test_store.specs.{store_of}
use Rattle.script_rules.specs.declared.script.Script.{Script}
use Rattle.bsonserver.specs.Runs.{StandsAt}
use Rattle.bsonserver.proofs.connections.begin.Goals as goal

pub returns : goal.returns
returns c = record {
  first = c.new-handler.result;
  script = ap (λ (s : Script). s.rules.items) c.new-handler.ensures.script;
  nothing = ap store_of c.new-handler.ensures.inner ∙ c.new-store.ensures;
  serving = subst (λ rules. StandsAt c.new-handler.result rules c.new.result 0 []) (ap (λ (s : Script). s.rules.items) c.new-replies.ensures.script) c.new.ensures;
}
