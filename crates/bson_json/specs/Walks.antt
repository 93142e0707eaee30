-- What writing some of the pairs of a tree leaves to be written.
use Rattle.std.specs.Prelude.{◌≡◌, ℕ, Bool, true, false, List, ◌++◌, Option}
use Rattle.bson_elem.specs.declared.kinds.Kind.{Kind}
use Rattle.bson_elem.specs.{Spells, Tree}
use Rattle.bson_raw.specs.{TreeValue, document_bytes, document_value, leaf_value}
use Rattle.text_writer.specs.{WritesOut}
use Rattle.bson_json.specs.declared.mode.Mode.{Mode}
use Rattle.bson_json.specs.declared.held.Held.{Held}
use Rattle.bson_json.specs.Json.{IsLeafJson, IsPairsJson, closing, comma, label, leaf_json, opening}

-- one text of this sort was written, and nothing else
abbrev pub WritesOne : {W : Type 0} → (W → Option (List ℕ)) → W → W → (List ℕ → Type 0) → Type 0
WritesOne contents old new IsText =
    (text : List ℕ) × IsText text × WritesOut contents old new text

-- the JSON of a value, up to the pairs that it holds
abbrev pub IsFrontJson : Mode → TreeValue → List ℕ → Type 0
IsFrontJson mode (leaf_value k v) json = IsLeafJson mode k v json
IsFrontJson mode (document_value k b inner) json = json ≡ opening k b

-- the same, of a value that is neither a double nor a date
abbrev pub front_json : Mode → TreeValue → List ℕ
front_json mode (leaf_value k v) = leaf_json mode k v
front_json mode (document_value k b inner) = opening k b

-- the value holds no pairs
abbrev pub HoldsNone : TreeValue → Type 0
HoldsNone (leaf_value k v) = Unit {0}
HoldsNone (document_value k b inner) = ⊥

-- the value holds these pairs, in a value of this kind, and the document spells them
abbrev pub IsHeld : TreeValue → Held → Tree → Type 0
IsHeld (leaf_value k v) held inner = ⊥
IsHeld (document_value k b i) held inner =
    (held.kind ≡ k) × (i ≡ inner) × Spells inner (document_bytes held.document)

-- what is written before the value of a pair
abbrev pub pair_front : Kind → Bool → List ℕ → List ℕ
pair_front holder first name = comma first ++ label holder name

-- the JSON of a pair, up to the pairs that its value holds
abbrev pub IsPairFront : Mode → Kind → Bool → List ℕ → TreeValue → List ℕ → Type 0
IsPairFront mode holder first name v json =
    (value : List ℕ) × IsFrontJson mode v value × (json ≡ pair_front holder first name ++ value)

-- The JSON of the pairs of t is written up to the pairs of the first value that holds some. Those,
-- what closes the value, and the other pairs of t are still to be written.
pub record StopsAt (mode : Mode) (holder : Kind) (first : Bool) (t : Tree) (held : Held)
    (IsLeft : Tree → Type 0) (IsWritten : List ℕ → Type 0) : Type 0 where
  pub inner : Tree
  pub others : Tree
  pub text : List ℕ
  pub spelled : Spells inner (document_bytes held.document)
  pub left : IsLeft others
  pub written : IsWritten text
  pub whole : (inside rest : List ℕ) → IsPairsJson mode held.kind true inner inside
      → IsPairsJson mode holder false others rest
      → IsPairsJson mode holder first t (text ++ (inside ++ (closing held.kind ++ rest)))
