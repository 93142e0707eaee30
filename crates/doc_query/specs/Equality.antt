-- Which values are equal (MongoDB manual, Comparison/Sort Order): numbers of all kinds by value,
-- also inside documents and arrays.
use Rattle.std.specs.Prelude.{List, [], ◌∷◌, Bool, true, false, ◌&&◌, Option, Some, None}
use Rattle.std.specs.Ordering.{is_eq}
use Rattle.std.specs.Str.{bytes_eq}
use Rattle.bson_elem.specs.declared.kinds.Kind.{Kind}
use Rattle.bson_elem.specs.declared.kinds.Kind.TheVariants as kinds
use Rattle.bson_elem.specs.{Tree, inner_pair, leaf_pair, no_pairs}
use Rattle.bson_raw.specs.{TreeValue, document_value, leaf_value}
use Rattle.bson_doc.specs.{coded_value, same}
use Rattle.doc_query.specs.Comparing.{PlaceView, place, place_order}

-- two values in their places: those without one are equal if their kinds and bytes are the same
abbrev pub equal_at : TreeValue → TreeValue → Option PlaceView → Option PlaceView → Bool
equal_at v w (Some p) (Some q) = is_eq (place_order p q)
equal_at v w None None = same coded_value v w
equal_at v w _ _ = false

abbrev pub equal_alone : TreeValue → TreeValue → Bool
equal_alone v w = equal_at v w (place v) (place w)

-- Two documents, or two arrays, are equal by what is in them. Code with a scope is compared alone.
abbrev pub equal_inner : Kind → Kind → Bool → Bool → Bool
equal_inner kinds.Document kinds.Document inside alone = inside
equal_inner kinds.Array kinds.Array inside alone = inside
equal_inner k l inside alone = alone

-- the same names, and equal values, in the same order
abbrev pub equal_pairs : Tree → Tree → Bool
equal_pairs no_pairs no_pairs = true
equal_pairs (leaf_pair n k v ps) (leaf_pair m l w qs) =
    bytes_eq n m && equal_alone (leaf_value k v) (leaf_value l w) && equal_pairs ps qs
equal_pairs (inner_pair n k b t ps) (inner_pair m l c u qs) =
    bytes_eq n m
    && equal_inner k l (equal_pairs t u)
    (equal_alone (document_value k b t) (document_value l c u))
    && equal_pairs ps qs
equal_pairs _ _ = false

-- Two values are equal: documents and arrays if they have the same names and equal values, in the
-- same order, and all others by their places, or by kind and bytes where they have none.
abbrev pub equal : TreeValue → TreeValue → Bool
equal (document_value k b t) (document_value l c u) =
    equal_inner k l (equal_pairs t u)
    (equal_alone (document_value k b t) (document_value l c u))
equal v w = equal_alone v w

-- the values of two lists are equal, in the same order
abbrev pub equal_each : List TreeValue → List TreeValue → Bool
equal_each [] [] = true
equal_each (v ∷ vs) (w ∷ ws) = equal v w && equal_each vs ws
equal_each _ _ = false
