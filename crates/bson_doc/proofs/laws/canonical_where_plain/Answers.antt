use Rattle.std.proofs.Common.{sym, subst}
use Rattle.bson_elem.specs.Trees.{Tree}
use Rattle.bson_elem.specs.Spelling.{Spells}
use Rattle.bson_doc.specs.Plain.{plain}
use Rattle.bson_doc.proofs.PlainLaws.{one_tree}
use Rattle.bson_doc.proofs.laws.canonical_where_plain.Goals as goal

pub returns : goal.returns
returns c = λ t bytes s. (λ s'. one_tree (plain t) t bytes s' s, λ same. subst (λ (x : Tree). Spells x bytes) (sym same) s)
