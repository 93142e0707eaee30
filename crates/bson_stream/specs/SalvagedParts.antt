-- The parts that were found in bytes of which some are damaged, as values.
use Rattle.std.specs.Prelude.{◌≡◌, ℕ, ◌^◌, ◌≤◌, List, [], ◌∷◌, Bool, length}
use Rattle.bson_elem.specs.{Spells}
use Rattle.bson_stream.specs.declared.reader_state.ReadRefusal.{ReadRefusal}
use Rattle.bson_stream.specs.declared.reader_state.ReadRefusal.TheVariants.{OutOfMemory}
use Rattle.bson_stream.specs.declared.reader_state.ReadRefusal.TheVariants.{TooFar, TooLong}
use Rattle.bson_stream.specs.declared.salvage.SalvagedPart.{SalvagedPart}
use Rattle.bson_stream.specs.declared.salvage.SalvagedPart.TheVariants.{Document, Gap}
use Rattle.bson_stream.specs.Salvage.{AreParts, Part, a_document, a_gap}
use Rattle.bson_stream.specs.Salvagers.{IsSettled, Salvaging, SoFar}

-- the value is this part: a gap is the same, and a document is spelled by its bytes
abbrev pub IsPart : SalvagedPart → Part → Type 0
IsPart (Document at bytes) (a_document start t) = (at ≡ start) × Spells t bytes
IsPart (Document at bytes) (a_gap g) = ⊥
IsPart (Gap g) (a_document start t) = ⊥
IsPart (Gap g) (a_gap h) = g ≡ h

-- the values are these parts, one each
abbrev pub ArePartsOf : List SalvagedPart → List Part → Type 0
ArePartsOf [] [] = Unit {0}
ArePartsOf (x ∷ found) (p ∷ parts) = IsPart x p × ArePartsOf found parts
ArePartsOf found parts = ⊥

-- the values are the parts of these bytes
abbrev pub HaveParts : ℕ → List ℕ → List SalvagedPart → Type 0
HaveParts limit bytes found =
    (parts : List Part) × AreParts limit bytes parts × ArePartsOf found parts

-- why the parts of the bytes weren't found
abbrev pub IsUnsalvaged : List ℕ → ReadRefusal → Type 0
IsUnsalvaged bytes OutOfMemory = Unit {0}
IsUnsalvaged bytes TooLong = ⊥
IsUnsalvaged bytes TooFar = 2 ^ 64 ≤ length bytes

-- Of bytes that were fed, the parts so far were told, and these are their values.
abbrev pub ToldParts : Bool → List ℕ → Salvaging → List SalvagedPart → Type 0
ToldParts ended fed s found = (told : List Part) × SoFar ended fed told s × ArePartsOf found told

-- A salvager told all parts that are decided, and they were put behind those of before.
abbrev pub FindsParts : Bool → Salvaging → List SalvagedPart → Salvaging → List SalvagedPart
    → Type 0
FindsParts ended old before new found =
    ((fed : List ℕ) → ToldParts ended fed old before
    → ToldParts ended fed new found × IsSettled ended new)
    × (new.limit ≡ old.limit)
