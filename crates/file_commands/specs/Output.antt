-- What a command writes for an input.
use Rattle.std.specs.Prelude.{◌≡◌, ℕ, Bool, true, false, List, [], Option, None, Some}
use Rattle.std.specs.Io.KnownBytes.{Appends, Consumes}
use Rattle.file_commands.specs.InputFault.{hex_line}
use Rattle.file_commands.specs.Input.{bytes_of, hex_fault}

-- what a command may write for bytes, and whether that ends with a fault line
abbrev pub TextOf : Type 1
TextOf = List ℕ → List ℕ → Bool → Type 0

-- what is written for bytes; or where the text that was to spell them is at fault, the line of that
-- alone
abbrev pub OrHexFault : TextOf → Option ℕ → TextOf
OrHexFault Text None bytes text fault = Text bytes text fault
OrHexFault Text (Some place) bytes text fault = (text ≡ hex_line place) × (fault ≡ true)

-- What a command writes for an input, by what it writes for bytes: with `--hex` the input is the
-- bytes that the text spells, else the output is the line of its fault alone.
abbrev pub IsOutput : TextOf → Bool → List ℕ → List ℕ → Bool → Type 0
IsOutput Text hex input = OrHexFault Text (hex_fault hex input) (bytes_of hex input)

-- ---- where an input isn't read to its end

-- What was written of an input that couldn't be read further, by what is written for the bytes so
-- far: with `--hex` nothing.
abbrev pub IsAllOf : (List ℕ → List ℕ → Type 0) → Bool → List ℕ → List ℕ → Type 0
IsAllOf All false read texts = All read texts
IsAllOf All true read texts = texts ≡ []

-- the first few texts of bytes; or where the text that was to spell them is at fault, none
abbrev pub OrNone : (List ℕ → List ℕ → Type 0) → Option ℕ → List ℕ → List ℕ → Type 0
OrNone First None bytes texts = First bytes texts
OrNone First (Some place) bytes texts = texts ≡ []

-- What was written of an input where memory ran out, by the first few texts of bytes.
abbrev pub IsFirstOf : (List ℕ → List ℕ → Type 0) → Bool → List ℕ → List ℕ → Type 0
IsFirstOf First hex input = OrNone First (hex_fault hex input) (bytes_of hex input)

-- nothing follows the texts
abbrev pub nothing : Bool → List ℕ
nothing any = []

-- ---- what was written

-- Known bytes grow by a text of this sort.
abbrev pub AppendsOne : (List ℕ → Type 0) → Option (List ℕ) → Option (List ℕ) → Type 0
AppendsOne Is old new = (text : List ℕ) × Is text × Appends old new text

-- Bytes were read, and a text of this sort was written for them.
abbrev pub WritesRead : (List ℕ → List ℕ → Type 0) → Option (List ℕ) → Option (List ℕ)
    → Option (List ℕ) → Option (List ℕ) → Type 0
WritesRead Is from to old new =
    (read : List ℕ) × Consumes from to read × AppendsOne (Is read) old new
