-- Which values hold a decimal128, which isn't compared.
use Rattle.std.specs.Prelude.{Bool, true, false, ◌||◌}
use Rattle.bson_elem.specs.declared.kinds.Kind.{Kind}
use Rattle.bson_elem.specs.declared.kinds.Kind.TheVariants as kinds
use Rattle.bson_elem.specs.{Tree, inner_pair, leaf_pair, no_pairs}
use Rattle.bson_raw.specs.{TreeValue, document_value, leaf_value}

abbrev pub is_decimal : Kind → Bool
is_decimal kinds.Decimal128 = true
is_decimal k = false

-- one of the values in a tree is a decimal128, or one at any depth
abbrev pub decimal_within : Tree → Bool
decimal_within no_pairs = false
decimal_within (leaf_pair n k v ps) = is_decimal k || decimal_within ps
decimal_within (inner_pair n k b t ps) = decimal_within t || decimal_within ps

-- a value is a decimal128, or holds one at any depth
abbrev pub holds_decimal : TreeValue → Bool
holds_decimal (leaf_value k v) = is_decimal k
holds_decimal (document_value k b t) = decimal_within t
