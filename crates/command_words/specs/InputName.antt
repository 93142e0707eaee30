-- What a message calls the input of a run.
use Rattle.std.specs.Prelude.{◌≡◌, ◌≢◌, ℕ, List, ◌==◌, ◌||◌, Bool, true, false, length, Option}
use Rattle.std.specs.Prelude.{Some, codes}
use Rattle.std.specs.List.{list_any}
use Rattle.std.specs.Str.{chars}
use Rattle.core.specs.Char.{is_control}
use Rattle.core.specs.Fmt.{debug_str}
use Rattle.command_words.specs.declared.input_name.InputName.{InputName}
use Rattle.command_words.specs.declared.input_name.InputName.TheVariants.{StandardInput, File}
use Rattle.command_words.specs.declared.input_name.InputName.TheVariants.{Quoted}

abbrev pub name_text : InputName → Option (List ℕ)
name_text StandardInput = Some (codes "standard input")
name_text (File file) = Some file.now
name_text (Quoted file) = debug_str file.now

-- a name that would be invisible or break the line, so that it is put in quotes
abbrev pub wants_quotes : List ℕ → Bool
wants_quotes operand = length operand == 0 || list_any is_control (chars operand)

-- the name is that of this operand FILE
abbrev pub NamesFile : InputName → List ℕ → Type 0
NamesFile StandardInput operand = operand ≡ codes "-"
NamesFile (File file) operand =
    (operand ≢ codes "-") × (wants_quotes operand ≡ false) × (file.now ≡ operand)
NamesFile (Quoted file) operand =
    (operand ≢ codes "-") × (wants_quotes operand ≡ true) × (file.now ≡ operand)
