-- What `canon` writes.
use Rattle.std.specs.Prelude.{ℕ, nat_lt, List, [], codes, Bool, true, false, Option, Some}
use Rattle.std.specs.Prelude.{None, if◌then◌else◌}
use Rattle.hex.specs.Hex.{encode_lower}
use Rattle.bson_elem.specs.{Tree, document, elements}
use Rattle.bson_doc.specs.{canonical_len, plain}
use Rattle.file_commands.specs.Documents.{IsWholeText, told_by}
use Rattle.file_commands.specs.Output.{TextOf}

-- bytes as they are, or as hexadecimal text
abbrev pub in_form : Bool → List ℕ → List ℕ
in_form false bytes = bytes
in_form true bytes = encode_lower bytes

-- the canonical form of a document, if it has no more bytes than the limit
abbrev pub canon_of : ℕ → Bool → Tree → Option (List ℕ)
canon_of limit hex t =
    if nat_lt limit (canonical_len t) then None
    else Some (in_form hex (document (elements (plain t))))

-- the end of the line of hexadecimal text, where there is a document
abbrev pub line_end : Bool → List ℕ
line_end false = []
line_end true = codes "\n"

-- what follows the canonical forms
abbrev pub behind_forms : Bool → Bool → List ℕ
behind_forms false any = []
behind_forms true any = line_end any

-- what `canon` writes for bytes, as bytes or as hexadecimal text in one line, and whether it ends
-- with a fault line
abbrev pub CanonText : ℕ → Bool → TextOf
CanonText limit hex = IsWholeText (told_by (canon_of limit hex)) (behind_forms hex)
