use Rattle.std.proofs.Common.{◌<◌, length, map, slice_set, ap, ◌∙◌}
use Rattle.std.proofs.lemmas.List.{length-map, map-set}
use Rattle.bson_doc.specs.Bson.{value_of}
use Rattle.doc_update.proofs.ElementLaws.{put_within}
use Rattle.doc_update.proofs.elements.put_at.Goals as goal

pub returns-in-Ok : goal.returns-in-Ok
returns-in-Ok c =
    let values = c.in-Ok.values.items in
    let lt : c.args.index < length (map value_of values) = simp length-map c.in-Ok.ensures.long in
    ap (λ v. map value_of (slice_set values c.args.index v)) c.replace.ensures.after
    ∙ map-set value_of values c.args.index _
    ∙ put_within c.args.index _ (map value_of values) lt
    ∙ c.in-Ok.ensures.same (value_of c.args.value)
