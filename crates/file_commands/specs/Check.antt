-- What `check` writes.
use Rattle.std.specs.Prelude.{ℕ, List, ◌++◌, codes, Bool, false, Option, Some, if◌then◌else◌}
use Rattle.std.specs.Fmt.{decimal}
use Rattle.bson_elem.specs.{Tree}
use Rattle.bson_raw.specs.{is_plain}
use Rattle.bson_text.specs.{document_size}
use Rattle.file_commands.specs.Documents.{IsWholeText, told_by}
use Rattle.file_commands.specs.Output.{TextOf, nothing}

-- the end of a document's line, by whether it is in canonical form
abbrev pub form_word : Bool → List ℕ
form_word canonical = if canonical then codes " canonical\n" else codes " other\n"

-- the line of a document of this size
abbrev pub sized_line : ℕ → Bool → List ℕ
sized_line size canonical = codes "ok " ++ (decimal size ++ form_word canonical)

-- the line of a document: how many bytes it has, and whether it is in canonical form
abbrev pub check_line : Tree → List ℕ
check_line t = sized_line (document_size t) (is_plain false 0 t)

-- what `check` writes for a document
abbrev pub check_of : Tree → Option (List ℕ)
check_of t = Some (check_line t)

-- what `check` writes for bytes, and whether it ends with a fault line
abbrev pub CheckText : TextOf
CheckText = IsWholeText (told_by check_of) nothing
