-- The order of values (MongoDB manual, Comparison/Sort Order). Each has a place: the bracket of its
-- kind, by the manual's table, and in it a number and bytes. The order is that of the places.
use Rattle.std.specs.Prelude.{ℕ, ℤ, pos, List, [], Option, Some, None, if◌then◌else◌, unwrap_or}
use Rattle.std.specs.Cmp.Lexicographic.{slice_cmp}
use Rattle.std.specs.Int.{w64, from_le_bytes}
use Rattle.std.specs.Ordering.{int_cmp, nat_cmp, ordering_then}
use Rattle.std.specs.declared.cmp.Ordering.{Ordering}
use Rattle.bson_elem.specs.declared.kinds.Kind.TheVariants as kinds
use Rattle.bson_elem.specs.{boolean_value, number_value, raw_value, text_value}
use Rattle.bson_raw.specs.{TreeValue, leaf_value}
use Rattle.doc_query.specs.declared.comparing.Place.{Place}
use Rattle.doc_query.specs.Numbers.{double_number, is_nan, whole_number}
use Rattle.doc_query.specs.Numbers as numbers

pub record PlaceView : Type 0 where
  pub bracket : ℕ
  pub number : ℤ
  pub bytes : List ℕ

-- a place without bytes
abbrev pub numbered : ℕ → ℤ → PlaceView
numbered bracket number = record { bracket = bracket; number = number; bytes = [] }

-- a place by bytes alone
abbrev pub lettered : ℕ → List ℕ → PlaceView
lettered bracket bytes = record { bracket = bracket; number = pos 0; bytes = bytes }

-- NaN is below all numbers, in a bracket of its own
abbrev pub double_place : ℕ → PlaceView
double_place bits = if is_nan bits then numbered 2 (pos 0) else numbered 3 (double_number bits)

-- The place of a value, by the manual's table. Those without one aren't compared: decimal128s,
-- documents, arrays, binary data, timestamps, regexes, and the kinds that the manual leaves out.
abbrev pub place : TreeValue → Option PlaceView
place (leaf_value kinds.MinKey v) = Some (numbered 0 (pos 0))
place (leaf_value kinds.Undefined v) = Some (numbered 1 (pos 0))
place (leaf_value kinds.Null v) = Some (numbered 1 (pos 0))
place (leaf_value kinds.Double (raw_value bytes)) = Some (double_place (from_le_bytes w64 bytes))
place (leaf_value kinds.Int32 (number_value z)) = Some (numbered 3 (whole_number z))
place (leaf_value kinds.Int64 (number_value z)) = Some (numbered 3 (whole_number z))
place (leaf_value kinds.String (text_value s)) = Some (lettered 4 s)
place (leaf_value kinds.Symbol (text_value s)) = Some (lettered 4 s)
place (leaf_value kinds.ObjectId (raw_value bytes)) = Some (lettered 5 bytes)
place (leaf_value kinds.Boolean (boolean_value b)) =
    Some (numbered 6 (if b then pos 1 else pos 0))
place (leaf_value kinds.DateTime (number_value z)) = Some (numbered 7 z)
place (leaf_value kinds.MaxKey v) = Some (numbered 8 (pos 0))
place _ = None

-- by the bracket, then by the number, and then by the bytes
abbrev pub place_order : PlaceView → PlaceView → Ordering
place_order p q =
    ordering_then (nat_cmp p.bracket q.bracket)
    (ordering_then (int_cmp p.number q.number) (slice_cmp nat_cmp p.bytes q.bytes))

-- a missing field is as null
abbrev pub field_place : Option TreeValue → PlaceView
field_place None = numbered 1 (pos 0)
field_place (Some v) = unwrap_or (place v) (numbered 1 (pos 0))

-- the order of the values of a field in two documents
abbrev pub field_order : Option TreeValue → Option TreeValue → Ordering
field_order v w = place_order (field_place v) (field_place w)

-- a place of the code
abbrev pub place_view : Place → PlaceView
place_view p =
    record {
      bracket = p.bracket;
      number = numbers.number_value p.number;
      bytes = p.bytes.now;
    }
