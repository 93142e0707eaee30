-- What an owned document in its bytes shows.
use Rattle.std.specs.Prelude.{ℕ, List}
use Rattle.bson_doc.specs.declared.buf.RawDocumentBuf.{RawDocumentBuf}

-- the bytes of the document
abbrev pub buf_bytes : RawDocumentBuf → List ℕ
buf_bytes d = d.bytes.items
