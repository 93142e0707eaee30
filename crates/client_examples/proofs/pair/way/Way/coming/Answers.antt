use Rattle.std.proofs.Common.{drop, sym, take-append-drop, ◌∙◌, rules}
use Rattle.client_examples.proofs.pair.way.Way.coming.Goals as goal

pub returns-clause-first : goal.returns-clause-first
returns-clause-first c = (drop c.match-self.n c.deref.result.now, (search rules) ∙ sym (take-append-drop c.match-self.n c.deref.result.now))
