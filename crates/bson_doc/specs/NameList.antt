-- The names of a document, and where each of them stands.
use Rattle.std.specs.Prelude.{◌≡◌, ℕ, List, Option, String, length, map, position, string_bytes}
use Rattle.std.specs.Prelude.{vec_len}
use Rattle.std.specs.declared.alloc.Global.{Global}
use Rattle.std.specs.BTreeMap.{BTreeMap, get_by_text}
use Rattle.std.specs.Str.{bytes_eq}
use Rattle.bson_doc.specs.declared.name_list.Places.{Places}
use Rattle.bson_doc.specs.declared.name_list.Places.TheVariants as places
use Rattle.bson_doc.specs.declared.name_table.NameTable.{NameTable}
use Rattle.bson_doc.specs.NameSlots.{HasNames}

-- the index of the name with these bytes, if it is there
abbrev pub index_of : List ℕ → List (String Global) → Option ℕ
index_of name names = position (λ k. bytes_eq name (string_bytes k)) names

-- the table has all names
abbrev pub IsTable : NameTable → List (String Global) → Type 0
IsTable t names =
    HasNames (vec_len t.last) t.last.items t.before.items (length names) (map string_bytes names)

-- the tree tells the index of every name, and of no other
abbrev pub IsIndex : BTreeMap (String Global) ℕ → List (String Global) → Type 0
IsIndex tree names = (name : List ℕ) → get_by_text tree name ≡ index_of name names

-- by these the index of each name is found
abbrev pub ArePlaces : Places → List (String Global) → Type 0
ArePlaces places.InTurn names = Unit {0}
ArePlaces (places.Table table) names = IsTable table names
ArePlaces (places.Tree tree) names = IsIndex tree names
