-- The documents of which canonical JSON loses nothing.
use Rattle.std.specs.Prelude.{◌≡◌, ℕ, ◌+◌, ◌*◌, ◌%◌, ◌^◌, ◌<◌, ◌⊎◌, ⊤, Bool, List, None}
use Rattle.std.specs.List.{AllByRecursion}
use Rattle.std.specs.Float.Ieee.{nan}
use Rattle.bson_elem.specs.declared.kinds.Kind.{Kind}
use Rattle.bson_elem.specs.declared.kinds.Kind.TheVariants.{Decimal128, Document, Double, Regex}
use Rattle.bson_elem.specs.{Leaf, Tree, inner_pair, leaf_pair, no_pairs, raw_value}
use Rattle.bson_elem.specs.{regex_value}
use Rattle.bson_raw.specs.{double_bytes, double_of, names_of}
use Rattle.bson_doc.specs.{plain, repeat_depth}
use Rattle.bson_json.specs.{alphabetical}
use Rattle.bson_json.specs.Decimals.{bits_of, combination}
use Rattle.bson_json_read.specs.DecimalText.{sign_bit}
use Rattle.bson_json_read.specs.Forms.{form_named}

-- a NaN is the quiet one without a payload
abbrev pub IsLosslessDouble : List ℕ → Type 0
IsLosslessDouble bytes = double_of bytes ≡ nan → bytes ≡ double_bytes nan

-- The bits of a decimal128 that its text tells: the NaN without a sign and a payload, an infinity
-- without other bits, or a number whose coefficient has at most 34 digits and doesn't begin with
-- the bits 100.
abbrev pub IsCanonicalDecimal : ℕ → Type 0
IsCanonicalDecimal bits =
    (bits ≡ 31 * 2 ^ 122)
    ⊎ (((negative : Bool) × (bits ≡ sign_bit negative + 30 * 2 ^ 122))
    ⊎ ((combination bits < 24) × (bits % 2 ^ 113 < 10 ^ 34)))

abbrev pub IsLosslessLeaf : Kind → Leaf → Type 0
IsLosslessLeaf Double (raw_value bytes) = IsLosslessDouble bytes
IsLosslessLeaf Decimal128 (raw_value bytes) = IsCanonicalDecimal (bits_of bytes)
IsLosslessLeaf Regex (regex_value pattern options) = alphabetical options ≡ options
IsLosslessLeaf _ _ = ⊤

-- if the value is a document, none of its names is that of a form
abbrev pub IsNoForm : Kind → Tree → Type 0
IsNoForm Document inner = AllByRecursion (λ name. form_named name ≡ None) (names_of inner)
IsNoForm _ inner = ⊤

-- the values of pairs, at every depth
abbrev pub AreLossless : Tree → Type 0
AreLossless no_pairs = ⊤
AreLossless (leaf_pair name k v ps) = IsLosslessLeaf k v × AreLossless ps
AreLossless (inner_pair name k b inner ps) =
    IsNoForm k inner × AreLossless inner × AreLossless ps

-- Canonical JSON loses nothing of the document: the names in arrays are "0", "1" and so on; no
-- document has a name twice; no document inside it has the name of a form; each NaN is the quiet
-- one without a payload; each decimal128 is canonical; and the options of regular expressions are
-- in alphabetical order.
pub record IsLossless (t : Tree) : Type 0 where
  pub numbered : plain t ≡ t
  pub distinct : repeat_depth t ≡ None
  pub values : AreLossless t
