-- What a command makes of documents back to back.
use Rattle.std.specs.Prelude.{◌≡◌, ◌⊎◌, ℕ, List, ◌++◌, Bool, Option, None, Some}
use Rattle.bson_elem.specs.declared.fault.BsonFault.{BsonFault}
use Rattle.bson_elem.specs.declared.fault.BsonCause.TheVariants.{Truncated}
use Rattle.bson_elem.specs.{Spells, Tree, fault}
use Rattle.bson_raw.specs.{IsSpelled}
use Rattle.bson_stream.specs.{IsBad, IsOpen}
use Rattle.file_commands.specs.declared.input_fault.InputFault.TheVariants.{Bson}
use Rattle.file_commands.specs.InputFault.{input_fault_line, too_large_line}
use Rattle.file_commands.specs.Output.{AppendsOne, IsAllOf, IsFirstOf, TextOf, WritesRead}
use Rattle.file_commands.specs.Items.{AllItems, FirstItems, ItemKind, ItemsText}

-- ---- what a command writes for a document

-- Whether this may be what is written for a document that begins at this offset: a text, or none.
abbrev pub TextRule : Type 1
TextRule = ℕ → Tree → Option (List ℕ) → Type 0

-- the rule that a document's text is what this function gives for its offset and the document
abbrev pub told_at : (ℕ → Tree → Option (List ℕ)) → TextRule
told_at text_of start t shown = text_of start t ≡ shown

-- the rule that a document's text is what this function gives for the document, at any offset
abbrev pub told_by : (Tree → Option (List ℕ)) → TextRule
told_by text_of start t shown = text_of t ≡ shown

-- ---- the documents of the input, where a document may have no text

-- a document without a text is in front, which is told at its offset
abbrev pub LacksText : TextRule → ℕ → List ℕ → List ℕ → Type 0
LacksText rule start bytes line =
    (t : Tree) × (front : List ℕ) × (after : List ℕ) × Spells t front × (bytes ≡ front ++ after)
    × rule start t None × (line ≡ too_large_line start)

-- Documents, of which each has the text that this rule tells, if it has one.
abbrev pub documents_of : TextRule → ItemKind
documents_of rule = record {
  is_item = IsSpelled;
  is_open = IsOpen;
  inside_line = λ start. input_fault_line (Bson (fault start Truncated));
  is_bad = λ start bytes line. LacksText rule start bytes line
      ⊎ ((f : BsonFault) × IsBad start bytes f × (line ≡ input_fault_line (Bson f)));
  is_text = λ start bytes text. (t : Tree) × Spells t bytes × rule start t (Some text);
}

-- The whole text of bytes, and whether it ends with a fault line: the texts of the documents up to
-- the first without one, what follows them all, by whether there are any, and the last line.
abbrev pub IsWholeText : TextRule → (Bool → List ℕ) → TextOf
IsWholeText rule = ItemsText (documents_of rule) 0

-- ---- where an input isn't read to its end

-- the texts of the first few documents in some bytes
abbrev pub FirstTexts : TextRule → List ℕ → List ℕ → Type 0
FirstTexts rule = FirstItems (documents_of rule) 0

-- the texts of all documents in some bytes, up to the first without one
abbrev pub AllTexts : TextRule → List ℕ → List ℕ → Type 0
AllTexts rule = AllItems (documents_of rule) 0

-- Known bytes grow by the texts of the first few documents of an input.
abbrev pub AppendsFirst : TextRule → Bool → List ℕ → Option (List ℕ) → Option (List ℕ) → Type 0
AppendsFirst rule hex input = AppendsOne (IsFirstOf (FirstTexts rule) hex input)

-- An input was read so far, and the texts of all its documents were written, with `--hex` none.
abbrev pub WritesAll : TextRule → Bool → Option (List ℕ) → Option (List ℕ)
    → Option (List ℕ) → Option (List ℕ) → Type 0
WritesAll rule hex = WritesRead (IsAllOf (AllTexts rule) hex)
