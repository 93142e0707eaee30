-- What is written for an input of which some bytes are damaged.
use Rattle.std.specs.Prelude.{◌≡◌, ◌⊎◌, ℕ, List, [], ◌∷◌, ◌++◌, codes, Bool, true, false, ◌||◌}
use Rattle.std.specs.Prelude.{None, Some, if◌then◌else◌}
use Rattle.std.specs.Fmt.{decimal}
use Rattle.bson_stream.specs.declared.gap.Gap.{Gap}
use Rattle.bson_stream.specs.declared.gap.GapFault.{GapFault}
use Rattle.bson_stream.specs.declared.gap.GapFault.TheVariants.{Bson, TooLong}
use Rattle.bson_stream.specs.{AreParts, ArePartsSoFar, Part, Salvages, a_document, a_gap}
use Rattle.file_commands.specs.declared.input_fault.InputFault.{InputFault}
use Rattle.file_commands.specs.declared.input_fault.InputFault.TheVariants as input
use Rattle.file_commands.specs.Documents.{TextRule}
use Rattle.file_commands.specs.InputFault.{input_fault_line}

-- ---- the text of a part

-- why no document begins at this offset
abbrev pub fault_of : ℕ → GapFault → InputFault
fault_of from (Bson f) = input.Bson f
fault_of from TooLong = input.TooLarge from

-- the lines of a gap: its fault, and the offsets of its first byte and of what follows it
abbrev pub gap_lines : Gap → List ℕ
gap_lines g =
    input_fault_line (fault_of g.from g.fault)
    ++ (codes "gap " ++ (decimal g.from ++ (codes " " ++ (decimal g.to ++ codes "\n"))))

-- what is written for a gap: its lines, if `lines` says so
abbrev pub gap_text : Bool → Gap → List ℕ
gap_text lines g = if lines then gap_lines g else []

-- The text of a part, and whether something is at fault there: a gap is, and a document that has no
-- text, for which nothing is written.
abbrev pub IsPartText : TextRule → Bool → Part → List ℕ → Bool → Type 0
IsPartText rule lines (a_document start t) text fault =
    (rule start t (Some text) × (fault ≡ false))
    ⊎ (rule start t None × (text ≡ []) × (fault ≡ true))
IsPartText rule lines (a_gap g) text fault = (text ≡ gap_text lines g) × (fault ≡ true)

-- the texts of parts, joined, and whether something is at fault in any
abbrev pub ArePartTexts : TextRule → Bool → List Part → List ℕ → Bool → Type 0
ArePartTexts rule lines [] texts fault = (texts ≡ []) × (fault ≡ false)
ArePartTexts rule lines (p ∷ parts) texts fault =
    (text others : List ℕ) × (here behind : Bool) × IsPartText rule lines p text here
    × ArePartTexts rule lines parts others behind × (texts ≡ text ++ others)
    × (fault ≡ (here || behind))

-- ---- the text of the input

-- the whole text of a damaged input, and whether something is at fault in it
abbrev pub SalvageText : TextRule → Bool → ℕ → List ℕ → List ℕ → Bool → Type 0
SalvageText rule lines limit input texts fault =
    (parts : List Part) × AreParts limit input parts × ArePartTexts rule lines parts texts fault

-- the texts of the first few parts of a damaged input
abbrev pub FirstSalvaged : TextRule → Bool → ℕ → List ℕ → List ℕ → Type 0
FirstSalvaged rule lines limit input texts =
    (parts : List Part) × (rest : List ℕ) × (fault : Bool)
    × Salvages limit 0 input parts rest × ArePartTexts rule lines parts texts fault

-- the texts of all parts that are decided, where reading failed behind these bytes
abbrev pub SalvagedSoFar : TextRule → Bool → ℕ → List ℕ → List ℕ → Type 0
SalvagedSoFar rule lines limit read texts =
    (parts : List Part) × (fault : Bool) × ArePartsSoFar limit read parts
    × ArePartTexts rule lines parts texts fault
