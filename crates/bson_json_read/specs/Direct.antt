-- What is read of the tokens of a JSON value, from the first one on, and written.
use Rattle.std.specs.Prelude.{◌≡◌, ◌≤◌, ◌<◌, ◌+◌, ◌∷◌, ◌++◌, ℕ, List, Option, Some, None, Ok}
use Rattle.json.specs.Json.{Items, Json, Members, boolean, member, no_members, null, number, object}
use Rattle.json.specs.Json.{string}
use Rattle.json.specs.Token.{Token}
use Rattle.json.specs.Tree.{depth, items_depth, items_tokens, json_tokens, members_depth}
use Rattle.json.specs.Tree.{members_tokens}
use Rattle.bson_elem.specs.{document, elements}
use Rattle.bson_raw.specs.{TreeValue}
use Rattle.bson_doc.specs.{array_tree, tree_of}
use Rattle.bson_doc.specs.Values.{element_bytes}
use Rattle.bson_json_read.specs.declared.form.Form.{Form}
use Rattle.bson_json_read.specs.Forms.{form_in, form_named}
use Rattle.bson_json_read.specs.Reads.{Read}
use Rattle.bson_json_read.specs.Values.{Pair, array_read, document_read, value_read}

-- a value is read, and its element of this name was appended
pub record IsPut (read : Read TreeValue) (name old new : List ℕ) : Type 0 where
  pub value : TreeValue
  pub is_read : read ≡ Ok value
  pub bytes : new ≡ old ++ element_bytes name value

-- the pairs of a document are read, and its bytes were appended
pub record IsDocumentPut (read : Read (List Pair)) (old new : List ℕ) : Type 0 where
  pub pairs : List Pair
  pub is_read : read ≡ Ok pairs
  pub bytes : new ≡ old ++ document (elements (tree_of pairs))

-- the values of an array are read, and its bytes were appended
pub record IsArrayPut (read : Read (List TreeValue)) (old new : List ℕ) : Type 0 where
  pub values : List TreeValue
  pub is_read : read ≡ Ok values
  pub bytes : new ≡ old ++ document (elements (array_tree 0 values))

-- The tokens begin with a JSON value, and the others are left. The element of that value was
-- appended, in what so many documents and arrays may be nested. An object of a form is two deep.
pub record ReadsValue (room : ℕ) (name : List ℕ) (tokens left : List Token) (old new : List ℕ)
    : Type 0 where
  pub json : Json
  pub begins : tokens ≡ json_tokens json ++ left
  pub deep : depth json ≤ room + 2
  pub put : IsPut (value_read room json) name old new

-- the same of the members of an object, none of which has the name of a form, and of a document
pub record ReadsMembers (room : ℕ) (tokens left : List Token) (old new : List ℕ) : Type 0 where
  pub members : Members
  pub begins : tokens ≡ members_tokens members ++ left
  pub deep : members_depth members < room + 2
  pub formless : form_in members ≡ None
  pub put : IsDocumentPut (document_read room members) old new

-- the same of the items of an array
pub record ReadsItems (room : ℕ) (tokens left : List Token) (old new : List ℕ) : Type 0 where
  pub items : Items
  pub begins : tokens ≡ items_tokens items ++ left
  pub deep : items_depth items < room + 2
  pub put : IsArrayPut (array_read room items) old new

-- the same of an object's one member behind its name, which is that of a form
pub record ReadsForm (form : Form) (name : List ℕ) (tokens left : List Token) (old new : List ℕ)
    : Type 0 where
  pub json : Json
  pub begins : tokens ≡ json_tokens json ++ (Token.end_object ∷ left)
  pub deep : depth json ≤ 1
  pub put : (key : List ℕ) (room : ℕ) → form_named key ≡ Some form
      → IsPut (value_read room (object (member key json no_members))) name old new

-- the JSON value of one token
abbrev pub leaf_json : Token → Option Json
leaf_json (Token.string s) = Some (string s)
leaf_json (Token.number s) = Some (number s)
leaf_json (Token.boolean b) = Some (boolean b)
leaf_json Token.null = Some null
leaf_json t = None

-- the token is a JSON value, whose element was appended
abbrev pub PutsLeaf : Token → List ℕ → List ℕ → List ℕ → Type 0
PutsLeaf t name old new =
    (j : Json) × (leaf_json t ≡ Some j)
    × ((room : ℕ) → IsPut (value_read room j) name old new)
