use Rattle.std.proofs.Common.{sym, ◌∙◌}
use Rattle.bson_elem.proofs.laws.one_spelling.Goals as goal

pub returns : goal.returns
returns c = λ t a b s s'. s.parts ∙ sym s'.parts
