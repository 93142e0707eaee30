use Rattle.std.proofs.Common.{[], ap, sym, ◌∙◌}
use Rattle.bson_doc.specs.Document.{tree_of}
use Rattle.doc_stages.proofs.Keeping.{apart_from_none, kept_is, put_kept, put_kept_is}
use Rattle.doc_stages.proofs.projection.kept.Goals as goal

pub returns : goal.returns
returns c =
    let p = tree_of c.args.projection.now in
    let document = c.args.document.now in
    ap tree_of (sym (c.loop-name.invariant ∙ ap (λ l. put_kept p l c.loop-name.fields) c.in-None.ensures.steps.0)
    ∙ put_kept_is p document [] c.iter-name-items.ensures.distinct (apart_from_none document))
    ∙ sym (kept_is p document)
