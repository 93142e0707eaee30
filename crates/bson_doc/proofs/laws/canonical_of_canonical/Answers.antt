use Rattle.std.proofs.Common.{◌≡◌, false, sym, ◌∙◌, ap}
use Rattle.bson_elem.specs.Trees.{Tree}
use Rattle.bson_elem.specs.Spelling.{document, elements}
use Rattle.bson_doc.specs.Plain.{plain}
use Rattle.bson_doc.proofs.PlainLaws.{plain-again, one_tree}
use Rattle.bson_doc.proofs.laws.canonical_of_canonical.Goals as goal

pub returns : goal.returns
returns c = λ t u a b s s' s''.
    let same : plain t ≡ plain u = sym (plain-again false 0 t) ∙ ap plain (one_tree (plain t) u a s s') in
    s.parts ∙ ap (λ (x : Tree). document (elements x)) same ∙ sym s''.parts
