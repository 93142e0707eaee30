-- The canonical form of a document, and where a document departs from it.
use Rattle.std.specs.Prelude.{◌≡◌, ℕ, ◌+◌, ◌-◌, List, length, Bool, true, false, Option, Some, None}
use Rattle.std.specs.Prelude.{if◌then◌else◌, option_map}
use Rattle.std.specs.Option.{option_or}
use Rattle.bson_elem.specs.declared.fault.BsonFault.{BsonFault}
use Rattle.bson_elem.specs.{Spells, Tree, elements, inner_pair, leaf_pair, no_pairs}
use Rattle.bson_raw.specs.{TreeValue, WholeFault, document_value, is_array_kind, leaf_value}
use Rattle.bson_raw.specs.Naming.{is_named}
use Rattle.byte_views.specs.declared.form.FormPlace.{FormPlace}
use Rattle.byte_views.specs.Fault.{first_fault}

-- how many bytes a document has from these pairs on, which are its last ones, with its 00
abbrev pub bytes_from : Tree → ℕ
bytes_from ps = length (elements ps) + 1

-- How many bytes a document has from the first element on whose name isn't canonical, if there is
-- one among its pairs from this index on, at any depth. A document inside is the last part of its
-- element, so the other pairs follow its bytes.
abbrev pub misnamed : Bool → ℕ → Tree → Option ℕ
misnamed in_array index no_pairs = None
misnamed in_array index (leaf_pair name k v ps) =
    if is_named in_array index name then misnamed in_array (index + 1) ps
    else Some (bytes_from (leaf_pair name k v ps))
misnamed in_array index (inner_pair name k b inner ps) =
    if is_named in_array index name
    then option_or (option_map (λ n. bytes_from ps + n) (misnamed (is_array_kind k) 0 inner))
    (misnamed in_array (index + 1) ps)
    else Some (bytes_from (inner_pair name k b inner ps))

-- the same of the document in a value
abbrev pub misnamed_in : TreeValue → Option ℕ
misnamed_in (leaf_value k leaf) = None
misnamed_in (document_value k b inner) = misnamed (is_array_kind k) 0 inner

-- the form of a document of so many bytes, which has so many from the first such element on
abbrev pub told_form : ℕ → Option ℕ → FormPlace
told_form n None = record { fault = first_fault None; canonical = true; offset = 0 }
told_form n (Some left) = record { fault = first_fault None; canonical = false; offset = n - left }

-- The bytes are one document, and this is its form; or this is their first fault.
pub data IsFormPlace (bytes : List ℕ) : FormPlace → Type 0 where
  is_document : {place : FormPlace} (t : Tree) → Spells t bytes
      → place ≡ told_form (length bytes) (misnamed false 0 t) → IsFormPlace bytes place
  has_fault : {place : FormPlace} (f : BsonFault) → WholeFault bytes f
      → place ≡ record { fault = first_fault (Some f); canonical = false; offset = 0 }
      → IsFormPlace bytes place
