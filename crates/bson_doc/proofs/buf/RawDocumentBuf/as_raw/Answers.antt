use Rattle.bson_doc.proofs.buf.RawDocumentBuf.as_raw.Goals as goal

pub from_spelled-requires : goal.from_spelled-requires
from_spelled-requires c = rw c.deref.ensures.value c.args.self.now.spelled
