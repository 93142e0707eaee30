use Rattle.std.proofs.Common.{◌≡◌, map, take, min, length, ap, sym, ◌∙◌}
use Rattle.bson_doc.specs.{value_of}
use Rattle.doc_stages.specs.Batches.{batch_len}
use Rattle.doc_stages.proofs.Fitting.{batch_left, batch_taken}
use Rattle.doc_stages.proofs.batches.next_batch.Goals as goal

-- the batch is counted in the first documents, at most this many
counted : (c : goal.After-take_batch)
    → let vs = c.args.documents.now.items in
    c.batch_len-count.result ≡ batch_len (map value_of (take (min c.args.count (length vs)) vs))
counted c =
    let len = c.len.ensures ∙ sym c.deref.ensures.len ∙ ap length c.deref.ensures.value in
    let most = c.min-most.ensures ∙ ap (min c.args.count) len in
    c.batch_len-count.ensures
    ∙ (λ j. batch_len (map value_of (take (most j) (c.deref.ensures.value j))))

pub returns-clause-taken : goal.returns-clause-taken
returns-clause-taken c =
    batch_taken c.take_batch.result c.args.count c.batch_len-count.result
    c.args.documents.now.items (counted c) c.take_batch.ensures.taken

pub returns-clause-left : goal.returns-clause-left
returns-clause-left c =
    batch_left c.take_batch.result c.args.count c.batch_len-count.result
    c.args.documents.now.items c.take_batch.new.documents.items (counted c)
    c.take_batch.ensures.left
