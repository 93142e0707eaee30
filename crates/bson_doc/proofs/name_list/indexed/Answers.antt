use Rattle.std.proofs.Common.{◌≡◌, ◌<◌, ◌+◌, ◌++◌, ◌∷◌, [], ◌∙◌, ap, suc, arith, length, sym, take}
use Rattle.std.proofs.Math.Seq.{take-suc}
use Rattle.std.proofs.lemmas.List.{length-take-le}
use Rattle.bson_doc.proofs.NameLists.{absent_before, tree_grows}
use Rattle.bson_doc.proofs.name_list.indexed.Goals as goal

pub loop-i-preserved : goal.loop-i-preserved
loop-i-preserved c = λ q.
    let names = c.args.names.now in
    let i = c.loop-i.i in
    let name = c.index-names-i.result in
    let short : i < length names = omega arith in
    let next : i + 1 ≡ suc i = omega arith in
    let grown : take (i + 1) names ≡ take i names ++ name ∷ [] = ap (λ n. take n names) next ∙ take-suc names i name short ∙ ap (λ k. take i names ++ k ∷ []) (sym c.index-names-i.is) in
    rw grown
    (tree_grows (take i names) name c.in_ok-clone.field-0 c.loop-i.tree c.insert.new.self i c.in_ok-clone.ensures.cases (sym (length-take-le i names (omega arith))) (absent_before names i name c.requires short (sym c.index-names-i.is)) c.loop-i.invariant c.in_ok-insert.ensures.updates q)
