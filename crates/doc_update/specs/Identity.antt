-- The `_id` of documents: which ones share it, and which one is made where there is none (MongoDB
-- manual, Documents: The _id Field).
use Rattle.std.specs.Prelude.{ℕ, zero, suc, ◌+◌, List, [], ◌∷◌, Bool, true, false, ◌||◌, Option}
use Rattle.std.specs.Prelude.{Some, None, codes, length, if◌then◌else◌}
use Rattle.std.specs.Int.{to_be_bytes, w64}
use Rattle.bson_elem.specs.declared.kinds.Kind.TheVariants as kinds
use Rattle.bson_elem.specs.{no_code, raw_value}
use Rattle.bson_raw.specs.{TreeValue, document_value, first_named, leaf_value}
use Rattle.bson_doc.specs.{Pairs, pairs_of, put, tree_of}
use Rattle.bson_doc.specs.Document.{value_named}
use Rattle.doc_query.specs.{equal}

-- the `_id` of a document
abbrev pub id_in : TreeValue → Option TreeValue
id_in (document_value kinds.Document b t) = first_named (codes "_id") t
id_in _ = None

-- two `_id`s are one if they are equal: 1 and 1.0 are
abbrev pub is_same_id : Option TreeValue → Option TreeValue → Bool
is_same_id (Some a) (Some b) = equal a b
is_same_id _ _ = false

-- one of the documents has this `_id`
abbrev pub is_taken : Option TreeValue → List TreeValue → Bool
is_taken id [] = false
is_taken id (v ∷ vs) = if is_same_id (id_in v) id then true else is_taken id vs

-- why a value can't be an `_id`, in the words of a server
abbrev pub id_fault : Option TreeValue → Option (List ℕ)
id_fault (Some (document_value kinds.Array b t)) = Some (codes "can't use an array for _id")
id_fault (Some (leaf_value kinds.Regex v)) = Some (codes "can't use a regex for _id")
id_fault (Some (leaf_value kinds.Undefined v)) = Some (codes "can't use a undefined for _id")
id_fault _ = None

-- ---- making one

-- the ObjectId with this number: 4 bytes 0, and the 8 bytes of the number, the highest first
abbrev pub made_id : ℕ → TreeValue
made_id n = leaf_value kinds.ObjectId (raw_value (0 ∷ 0 ∷ 0 ∷ 0 ∷ to_be_bytes w64 n))

-- the first number from this one on whose ObjectId is the `_id` of no document, of so many numbers
abbrev pub free_from : ℕ → ℕ → List TreeValue → List TreeValue → ℕ
free_from zero n vs ws = n
free_from (suc k) n vs ws =
    if is_taken (Some (made_id n)) vs || is_taken (Some (made_id n)) ws
    then free_from k (n + 1) vs ws
    else n

-- the number of the `_id` that is made beside these documents and those: the first one that is
-- free, from how many there are on
abbrev pub free_number : List TreeValue → List TreeValue → ℕ
free_number vs ws = free_from (length vs + length ws) (length vs + length ws) vs ws

-- the fields of a document with each of these fields set, in order
abbrev pub put_each : Pairs → Pairs → Pairs
put_each [] ps = ps
put_each (f ∷ fs) ps = put_each fs (put f.0 f.1 ps)

abbrev pub own_or_made : Option TreeValue → ℕ → TreeValue
own_or_made (Some id) n = id
own_or_made None n = made_id n

-- a document whose first field is its `_id`, or the ObjectId with this number where it has none
abbrev pub with_id : ℕ → Pairs → Pairs
with_id n ps = put_each ps ((codes "_id", own_or_made (value_named (codes "_id") ps) n) ∷ [])

abbrev pub identified : ℕ → TreeValue → TreeValue
identified n (document_value kinds.Document b t) =
    document_value kinds.Document no_code (tree_of (with_id n (pairs_of t)))
identified n v = v
