use Rattle.bson_stream.proofs.document_buf.DocumentBuf.copy_of.Goals as goal

pub invariant_of-result : goal.invariant_of-result
invariant_of-result c = rw (c.in_ok-extend_from_slice.ensures.items, c.new-bytes.ensures.items, c.as_bytes.ensures.bytes) c.args.document.spelled
