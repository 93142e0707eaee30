use Rattle.std.proofs.Common.{sym, ◌∙◌, ap}
use Rattle.bson_elem.specs.Trees.{Tree}
use Rattle.bson_elem.specs.Spelling.{document, elements}
use Rattle.bson_doc.proofs.laws.same_plain_tree_same_bytes.Goals as goal

pub returns : goal.returns
returns c = λ t u a b same s s'. s.parts ∙ ap (λ (x : Tree). document (elements x)) same ∙ sym s'.parts
