use Rattle.std.proofs.Common.{drop, map, ap, sym, ◌∙◌}
use Rattle.std.proofs.lemmas.List.{drop-map}
use Rattle.bson_doc.specs.Bson.{value_of}
use Rattle.doc_stages.proofs.pipeline.after_first.Goals as goal

pub returns : goal.returns
returns c =
    ap (map value_of) c.in_ok-first.ensures.left ∙ sym (drop-map value_of c.args.count c.in_ok-left.left.items)
    ∙ ap (drop c.args.count) c.in_ok-left.ensures
