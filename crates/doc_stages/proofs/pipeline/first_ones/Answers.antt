use Rattle.std.proofs.Common.{take, map, ap, sym, ◌∙◌}
use Rattle.std.proofs.lemmas.List.{take-map}
use Rattle.bson_doc.specs.Bson.{value_of}
use Rattle.doc_stages.proofs.pipeline.first_ones.Goals as goal

pub returns : goal.returns
returns c =
    ap (map value_of) c.in_ok-first.ensures.taken ∙ sym (take-map value_of c.args.count c.in_ok-all.all.items)
    ∙ ap (take c.args.count) c.in_ok-all.ensures
