-- Values that hold no document, and what an owned value lends.
use Rattle.std.specs.Prelude.{◌≡◌}
use Rattle.bson_elem.specs.declared.kinds.Kind.TheVariants as kinds
use Rattle.bson_elem.specs.{no_code, with_code}
use Rattle.bson_raw.specs.declared.value.RawBson.{RawBson}
use Rattle.bson_raw.specs.declared.value.RawBson.TheVariants as values
use Rattle.bson_raw.specs.{Shows, TreeValue, document_value}
use Rattle.bson_doc.specs.declared.bson_values.Bson.{Bson}
use Rattle.bson_doc.specs.declared.bson_values.Bson.TheVariants as owned
use Rattle.bson_doc.specs.declared.lent.Lent.{Lent}
use Rattle.bson_doc.specs.declared.lent.Lent.TheVariants as lent
use Rattle.bson_doc.specs.Array.{array_tree}
use Rattle.bson_doc.specs.Document.{tree_of}
use Rattle.bson_doc.specs.Formed.{IsFormedValue}

-- the value holds no document, no array and no scope
abbrev pub IsLeaf : RawBson → Type 0
IsLeaf (values.Document d) = ⊥
IsLeaf (values.Array a) = ⊥
IsLeaf (values.CodeWithScope code scope) = ⊥
IsLeaf _ = Unit {0}

-- the same of a value that is owned
abbrev pub IsOwnedLeaf : Bson → Type 0
IsOwnedLeaf (owned.Document d) = ⊥
IsOwnedLeaf (owned.Array a) = ⊥
IsOwnedLeaf (owned.CodeWithScope code scope) = ⊥
IsOwnedLeaf _ = Unit {0}

-- what is lent is this value of a tree; one that holds no document has all that its type gives it
abbrev pub Lends : Lent → TreeValue → Type 0
Lends (lent.Document d) v = v ≡ document_value kinds.Document no_code (tree_of d.now)
Lends (lent.Array a) v = v ≡ document_value kinds.Array no_code (array_tree 0 a.now)
Lends (lent.CodeWithScope code scope) v =
    v ≡ document_value kinds.CodeWithScope (with_code code.now) (tree_of scope.now)
Lends (lent.Leaf leaf) v = IsLeaf leaf × Shows leaf v × IsFormedValue v
