-- What the items and elements of the code show.
use Rattle.std.specs.Prelude.{ℕ, ◌-◌, [], List, length, slice_range, Ok, Err}
use Rattle.bson_elem.specs.declared.kinds.Kind.{Kind}
use Rattle.bson_elem.specs.declared.kinds.Kind.TheVariants as kinds
use Rattle.bson_elem.specs.declared.items.Item.{Item}
use Rattle.bson_elem.specs.declared.items.Item.TheVariants as items
use Rattle.bson_elem.specs.Trees.{Leaf, raw_value, boolean_value, number_value, timestamp_value}
use Rattle.bson_elem.specs.Trees.{text_value, pointer_value, binary_value, regex_value, no_code}
use Rattle.bson_elem.specs.Trees.{with_code}
use Rattle.bson_elem.specs.Checks.{Read, Value, a_leaf, opens}
use Rattle.bson_elem.specs.Checks as checks
use Rattle.bson_elem.specs.declared.elements.Element.{Element}
use Rattle.bson_elem.specs.Documents.{elements_of, IsFramed}

-- the kind of the item
abbrev pub item_kind : Item → Kind
item_kind (items.Double _) = kinds.Double
item_kind (items.String _) = kinds.String
item_kind (items.Document _) = kinds.Document
item_kind (items.Array _) = kinds.Array
item_kind (items.Binary _ _) = kinds.Binary
item_kind items.Undefined = kinds.Undefined
item_kind (items.ObjectId _) = kinds.ObjectId
item_kind (items.Boolean _) = kinds.Boolean
item_kind (items.DateTime _) = kinds.DateTime
item_kind items.Null = kinds.Null
item_kind (items.Regex _ _) = kinds.Regex
item_kind (items.DbPointer _ _) = kinds.DbPointer
item_kind (items.Code _) = kinds.Code
item_kind (items.Symbol _) = kinds.Symbol
item_kind (items.CodeWithScope _ _) = kinds.CodeWithScope
item_kind (items.Int32 _) = kinds.Int32
item_kind (items.Timestamp _ _) = kinds.Timestamp
item_kind (items.Int64 _) = kinds.Int64
item_kind (items.Decimal128 _) = kinds.Decimal128
item_kind items.MinKey = kinds.MinKey
item_kind items.MaxKey = kinds.MaxKey

-- the value that the item shows, if the offset after its element is next
abbrev pub item_value : ℕ → Item → Value
item_value next (items.Double b) = a_leaf (raw_value b)
item_value next (items.String s) = a_leaf (text_value s.now)
item_value next (items.Document d) = opens (next - length d.now) no_code (elements_of d.now)
item_value next (items.Array d) = opens (next - length d.now) no_code (elements_of d.now)
item_value next (items.Binary subtype b) = a_leaf (binary_value subtype b.now)
item_value next items.Undefined = a_leaf (raw_value [])
item_value next (items.ObjectId b) = a_leaf (raw_value b)
item_value next (items.Boolean b) = a_leaf (boolean_value b)
item_value next (items.DateTime n) = a_leaf (number_value n)
item_value next items.Null = a_leaf (raw_value [])
item_value next (items.Regex p o) = a_leaf (regex_value p.now o.now)
item_value next (items.DbPointer namespace id) = a_leaf (pointer_value namespace.now id)
item_value next (items.Code s) = a_leaf (text_value s.now)
item_value next (items.Symbol s) = a_leaf (text_value s.now)
item_value next (items.CodeWithScope s d) =
    opens (next - length d.now) (with_code s.now) (elements_of d.now)
item_value next (items.Int32 n) = a_leaf (number_value n)
item_value next (items.Timestamp i s) = a_leaf (timestamp_value i s)
item_value next (items.Int64 n) = a_leaf (number_value n)
item_value next (items.Decimal128 b) = a_leaf (raw_value b)
item_value next items.MinKey = a_leaf (raw_value [])
item_value next items.MaxKey = a_leaf (raw_value [])

-- a leaf that was read, as a value
abbrev pub as_value : Read Leaf → Read Value
as_value (Ok v) = Ok (a_leaf v.0, v.1)
as_value (Err c) = Err c

-- The element with this name and item. The bytes rest follow it, in a container whose last byte is
-- at offset end.
abbrev pub element_shown : ℕ → List ℕ → Item → List ℕ → checks.ElementRead
element_shown end name item rest =
    record
    { name = name; kind = item_kind item; value = item_value (end - length rest) item; rest = rest }

-- What an `Element` of the code shows. It was read from these bytes, in a container whose last byte
-- is at offset end.
abbrev pub element_view : List ℕ → ℕ → Element → checks.ElementRead
element_view bytes end e =
    record {
      name = e.name.now;
      kind = item_kind e.value;
      value = item_value e.next e.value;
      rest = slice_range bytes e.next end;
    }

-- If the item holds a document, it lends all bytes of that document.
abbrev pub LendsFramed : Item → Type 0
LendsFramed (items.Document d) = IsFramed d.now
LendsFramed (items.Array d) = IsFramed d.now
LendsFramed (items.CodeWithScope s d) = IsFramed d.now
LendsFramed _ = Unit {0}
