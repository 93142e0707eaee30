use Rattle.bson_doc.proofs.lent.same_bytes.Goals as goal

pub returns-clause-bytes : goal.returns-clause-bytes
returns-clause-bytes g c = record { count_is = c.told-bytes; are_bytes = c.same_slice-bytes.ensures.bytes }
