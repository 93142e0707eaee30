-- What is said of the fields of an index, one after another.
use Rattle.std.proofs.Common.{◌≡◌, ◌≢◌, ℕ, ◌&&◌, List, [], ◌∷◌, length, refl}
use Rattle.bson_elem.specs.declared.kinds.Kind.TheVariants as kinds
use Rattle.bson_elem.specs.{Tree, no_code}
use Rattle.bson_raw.specs.{TreeValue, document_value, leaf_value, with_first}
use Rattle.bson_doc.specs.Document.{tree_of}
use Rattle.doc_stages.specs.{are_keys}
use Rattle.test_store.specs.Indexes.{has_index_fields, is_key_document, may_have}

pub fields_with_first : (name : List ℕ) (v : TreeValue) (others : Tree) → has_index_fields (with_first name v others) ≡ (may_have name v && has_index_fields others)
fields_with_first name (leaf_value k v) others = refl
fields_with_first name (document_value k b t) others = refl

-- a document that isn't empty is a key by its fields alone
pub key_document : (ps : List (List ℕ × TreeValue)) → (length ps ≢ 0) → is_key_document (document_value kinds.Document no_code (tree_of ps)) ≡ are_keys (tree_of ps)
key_document [] some = absurd (some refl)
key_document ((n, leaf_value k v) ∷ ps) some = refl
key_document ((n, document_value k b t) ∷ ps) some = refl
