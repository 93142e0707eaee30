use Rattle.std.proofs.Common.{rules, map}
use Rattle.std.proofs.Common.{arith}
use Rattle.std.proofs.lemmas.List.{length-map}
use Rattle.bson_doc.specs.{value_of}
use Rattle.doc_stages.proofs.Fitting.{fitting_within}
use Rattle.doc_stages.proofs.batches.batch_len.Goals as goal

pub overflow_add-result : goal.overflow_add-result
overflow_add-result c =
    let room = c.match-encoded_len.room in
    let others = c.in-Some.others.now in
    let within = fitting_within room (map value_of others) in
    grind (arith, rules, within, c.fitting.ensures, length-map others value_of)
