-- The text that `dump` writes for documents back to back.
use Rattle.std.specs.Prelude.{ℕ, List, Bool, true, false, Option, Some}
use Rattle.bson_elem.specs.{Tree}
use Rattle.bson_text.specs.{document_text, document_text_at}
use Rattle.file_commands.specs.Documents.{IsWholeText, told_at}
use Rattle.file_commands.specs.Output.{TextOf, nothing}

-- the text of a document that begins at this offset, by whether with offsets
abbrev pub dump_text : Bool → ℕ → Tree → List ℕ
dump_text false start t = document_text t
dump_text true start t = document_text_at start t

-- what `dump` writes for a document
abbrev pub dump_of : Bool → ℕ → Tree → Option (List ℕ)
dump_of offsets start t = Some (dump_text offsets start t)

-- what `dump` writes for bytes, and whether it ends with a fault line
abbrev pub DumpText : Bool → TextOf
DumpText offsets = IsWholeText (told_at (dump_of offsets)) nothing
