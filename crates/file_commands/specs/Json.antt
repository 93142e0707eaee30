-- What `json` writes.
use Rattle.std.specs.Prelude.{◌≡◌, ℕ, ◌==◌, List, [], ◌++◌, codes, Bool, Some, if◌then◌else◌}
use Rattle.bson_json.specs.declared.mode.Mode.{Mode}
use Rattle.bson_json.specs.{IsJson}
use Rattle.file_commands.specs.declared.json.Layout.{Layout}
use Rattle.file_commands.specs.declared.json.Layout.TheVariants.{Lines, Array}
use Rattle.file_commands.specs.Documents.{IsWholeText, TextRule}
use Rattle.file_commands.specs.Output.{TextOf}

-- what stands before the value of a document that begins at this offset, and behind it
abbrev pub front_of : Layout → ℕ → List ℕ
front_of Lines start = []
front_of Array start = if start == 0 then codes "[" else codes ",\n"

abbrev pub end_of_value : Layout → List ℕ
end_of_value Lines = codes "\n"
end_of_value Array = []

-- what may be written for a document: it has several texts where it holds doubles, of which
-- Extended JSON doesn't tell the digits
abbrev pub MayBeJson : Mode → Layout → TextRule
MayBeJson mode layout start t shown =
    (json : List ℕ) × IsJson mode t json
    × (shown ≡ Some (front_of layout start ++ (json ++ end_of_value layout)))

-- what stands behind all values, by whether there are any
abbrev pub behind_values : Layout → Bool → List ℕ
behind_values Lines any = []
behind_values Array any = if any then codes "]\n" else codes "[]\n"

-- what `json` writes for bytes, and whether it ends with a fault line
abbrev pub JsonText : Mode → Layout → TextOf
JsonText mode layout = IsWholeText (MayBeJson mode layout) (behind_values layout)
