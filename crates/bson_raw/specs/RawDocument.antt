-- What a borrowed document shows.
use Rattle.std.specs.Prelude.{ℕ, List}
use Rattle.bson_raw.specs.declared.document.RawDocument.{RawDocument}

-- the bytes of the document
abbrev pub document_bytes : RawDocument → List ℕ
document_bytes d = d.bytes.now
