-- What the server holds, as its contracts see it: documents by namespace, and cursors.
use Rattle.std.specs.Prelude.{ℕ, zero, suc, ℤ, pos, nat_le, nat_lt, slice_get, ◌+◌, ◌-◌, ◌&&◌}
use Rattle.std.specs.Prelude.{List, [], ◌∷◌}
use Rattle.std.specs.Prelude.{◌++◌, Bool, Option, Some, None, codes, length, map, string_bytes}
use Rattle.std.specs.Prelude.{if◌then◌else◌, is_some, not, option_map, unwrap_or}
use Rattle.std.specs.List.{filter, list_any}
use Rattle.std.specs.Str.{bytes_eq}
use Rattle.bson_elem.specs.declared.kinds.Kind.TheVariants as kinds
use Rattle.bson_elem.specs.{number_value}
use Rattle.bson_raw.specs.{TreeValue, leaf_value}
use Rattle.bson_doc.specs.{value_of}
use Rattle.test_store.specs.Indexes.{IndexView, id_index, index_view}
use Rattle.test_store.specs.declared.namespace.Namespace.{Namespace}
use Rattle.test_store.specs.declared.namespace.NamespaceBuf.{NamespaceBuf}
use Rattle.test_store.specs.declared.store.Collection.{Collection}
use Rattle.test_store.specs.declared.store.Cursor.{Cursor}
use Rattle.test_store.specs.declared.store.Store.{Store}

-- the names of a database and of a collection in it
pub record NamespaceView : Type 0 where
  pub database : List ℕ
  pub collection : List ℕ

-- the indexes of a namespace, in the order in which they were made, and its documents, in the order
-- in which they were inserted
pub record CollectionView : Type 0 where
  pub namespace : NamespaceView
  pub indexes : List IndexView
  pub documents : List TreeValue

-- what was found in a namespace and not given yet; a cursor with nothing left is closed
pub record CursorView : Type 0 where
  pub namespace : NamespaceView
  pub left : List TreeValue

-- The collections, in the order in which they were made, and the cursors.
pub record StoreView : Type 0 where
  pub collections : List CollectionView
  pub cursors : List CursorView

-- no collections and no cursors
abbrev pub empty_store : StoreView
empty_store = record { collections = []; cursors = [] }

-- ---- what the program's values show

abbrev pub namespace_of : Namespace → NamespaceView
namespace_of n = record { database = n.database.now; collection = n.collection.now }

abbrev pub namespace_buf : NamespaceBuf → NamespaceView
namespace_buf n =
    record { database = string_bytes n.database; collection = string_bytes n.collection }

abbrev pub collection_of : Collection → CollectionView
collection_of c =
    record {
      namespace = namespace_buf c.namespace;
      indexes = map index_view c.indexes.items;
      documents = map value_of c.documents.items;
    }

abbrev pub cursor_of : Cursor → CursorView
cursor_of c = record { namespace = namespace_buf c.namespace; left = map value_of c.left.items }

abbrev pub store_of : Store → StoreView
store_of s =
    record {
      collections = map collection_of s.collections.items;
      cursors = map cursor_of s.cursors.items;
    }

-- ---- namespaces

-- whether two namespaces are the same
abbrev pub is_same_namespace : NamespaceView → NamespaceView → Bool
is_same_namespace a b = bytes_eq b.database a.database && bytes_eq b.collection a.collection

-- the two names with a full stop between them
abbrev pub namespace_text : NamespaceView → List ℕ
namespace_text n = n.database ++ codes "." ++ n.collection

-- ---- collections

-- the documents of a namespace
abbrev pub documents_in : NamespaceView → List CollectionView → List TreeValue
documents_in n [] = []
documents_in n (c ∷ cs) = if is_same_namespace n c.namespace then c.documents else documents_in n cs

-- a collection as it is made, with these documents
abbrev pub collection_with : NamespaceView → List TreeValue → CollectionView
collection_with n vs = record { namespace = n; indexes = id_index ∷ []; documents = vs }

-- a collection with these documents in the place of its own
abbrev pub holding : List TreeValue → CollectionView → CollectionView
holding vs c = record { namespace = c.namespace; indexes = c.indexes; documents = vs }

-- the collections with these documents added to a namespace, after those that are there
abbrev pub with_documents : NamespaceView → List TreeValue → List CollectionView
    → List CollectionView
with_documents n vs [] = collection_with n vs ∷ []
with_documents n vs (c ∷ cs) =
    if is_same_namespace n c.namespace then holding (c.documents ++ vs) c ∷ cs
    else c ∷ with_documents n vs cs

-- the same, unless there are no documents
abbrev pub with_any : NamespaceView → List TreeValue → List CollectionView → List CollectionView
with_any n [] cs = cs
with_any n (v ∷ vs) cs = with_documents n (v ∷ vs) cs

-- the collections with these documents in the place of those of a namespace
abbrev pub with_replaced : NamespaceView → List TreeValue → List CollectionView
    → List CollectionView
with_replaced n vs [] = with_any n vs []
with_replaced n vs (c ∷ cs) =
    if is_same_namespace n c.namespace then holding vs c ∷ cs else c ∷ with_replaced n vs cs

-- the indexes of a namespace, if there is a collection
abbrev pub held_indexes : NamespaceView → List CollectionView → Option (List IndexView)
held_indexes n [] = None
held_indexes n (c ∷ cs) =
    if is_same_namespace n c.namespace then Some c.indexes else held_indexes n cs

-- the indexes of a namespace, or those that a collection of it would be made with
abbrev pub indexes_in : NamespaceView → List CollectionView → List IndexView
indexes_in n cs = unwrap_or (held_indexes n cs) (id_index ∷ [])

-- the collections with these indexes in the place of those of a namespace
abbrev pub with_indexes_of : NamespaceView → List IndexView → List CollectionView
    → List CollectionView
with_indexes_of n is [] = record { namespace = n; indexes = is; documents = [] } ∷ []
with_indexes_of n is (c ∷ cs) =
    if is_same_namespace n c.namespace
    then record { namespace = c.namespace; indexes = is; documents = c.documents } ∷ cs
    else c ∷ with_indexes_of n is cs

-- the collections without that of a namespace, or nothing if there is none
abbrev pub without_collection : NamespaceView → List CollectionView → Option (List CollectionView)
without_collection n [] = None
without_collection n (c ∷ cs) =
    if is_same_namespace n c.namespace then Some cs
    else option_map (λ others. c ∷ others) (without_collection n cs)

-- whether a collection is of the database with this name
abbrev pub is_in_database : List ℕ → CollectionView → Bool
is_in_database db c = bytes_eq c.namespace.database db

-- whether there is a collection of this database
abbrev pub has_database : List ℕ → List CollectionView → Bool
has_database db cs = list_any (is_in_database db) cs

-- the names of the databases, each once, in the order of their first collections
abbrev pub database_names : List CollectionView → List (List ℕ)
database_names [] = []
database_names (c ∷ cs) =
    c.namespace.database ∷ filter (λ n. not (is_in_database n c)) (database_names cs)

-- the collections of all other databases
abbrev pub without_database : List ℕ → List CollectionView → List CollectionView
without_database db cs = filter (λ c. not (is_in_database db c)) cs

-- the index of the collection of a namespace
abbrev pub collection_index : NamespaceView → List CollectionView → Option ℕ
collection_index n [] = None
collection_index n (c ∷ cs) =
    if is_same_namespace n c.namespace then Some 0
    else option_map (λ i. suc i) (collection_index n cs)

-- ---- cursors

-- the id of the first cursor, 2 to the power of 32; the next one has the next number
abbrev pub first_cursor_id : ℕ
first_cursor_id = 4294967296

-- the cursors with one more over what is left, if anything is left
abbrev pub opened : NamespaceView → List TreeValue → List CursorView → List CursorView
opened n [] cs = cs
opened n (v ∷ vs) cs = cs ++ record { namespace = n; left = v ∷ vs } ∷ []

-- the id of that cursor, or 0 if none was opened
abbrev pub opened_id : List TreeValue → List CursorView → ℤ
opened_id [] cs = pos 0
opened_id (v ∷ vs) cs = pos (first_cursor_id + length cs)

-- the index of the cursor with this id
abbrev pub cursor_index : ℤ → Option ℕ
cursor_index (pos n) = if nat_le first_cursor_id n then Some (n - first_cursor_id) else None
cursor_index _ = None

-- the cursor, if it is of this namespace and has something left
abbrev pub if_open : NamespaceView → Option CursorView → Option CursorView
if_open n None = None
if_open n (Some c) =
    if (is_same_namespace n c.namespace && nat_lt 0 (length c.left)) then Some c else None

-- the open cursor of this namespace at an index
abbrev pub open_at : NamespaceView → Option ℕ → List CursorView → Option CursorView
open_at n None cs = None
open_at n (Some i) cs = if_open n (slice_get cs i)

-- the cursors, after the one at an index was left with this
abbrev pub with_left : Option ℕ → List TreeValue → List CursorView → List CursorView
with_left None vs cs = cs
with_left (Some i) vs [] = []
with_left (Some zero) vs (c ∷ cs) = record { namespace = c.namespace; left = vs } ∷ cs
with_left (Some (suc i)) vs (c ∷ cs) = c ∷ with_left (Some i) vs cs

-- the id of a cursor that has this left, or 0 if it is nothing
abbrev pub id_if_left : ℤ → List TreeValue → ℤ
id_if_left id [] = pos 0
id_if_left id (v ∷ vs) = id

-- the index of the cursor whose id is a value
abbrev pub index_of_value : TreeValue → Option ℕ
index_of_value (leaf_value kinds.Int64 (number_value z)) = cursor_index z
index_of_value _ = None

-- whether an open cursor of this namespace is at an index
abbrev pub is_open : NamespaceView → Option ℕ → List CursorView → Bool
is_open n i cs = is_some (open_at n i cs)

-- the cursors, after the one at an index was closed, if it is an open one of this namespace
abbrev pub closed_at : NamespaceView → Option ℕ → List CursorView → List CursorView
closed_at n i cs = if is_open n i cs then with_left i [] cs else cs
