use Rattle.bson_stream.proofs.document_buf.DocumentBuf.as_document.Goals as goal

pub from_spelled-requires : goal.from_spelled-requires
from_spelled-requires c = rw c.deref.ensures.value c.self.invariant
