-- What reading a pair, an item and a value comes to.
use Rattle.std.proofs.Common.{◌≡◌, ◌<◌, ℕ, zero, suc, ◌-◌, List, [], ◌∷◌, ◌++◌, Bool, true, false, cond, Some, None, Result, Ok, refl, ap, arith}
use Rattle.std.specs.Str.{bytes_eq}
use Rattle.json.specs.Find.{as_array, as_bool, as_number, as_object, as_str}
use Rattle.json.specs.Json as json
use Rattle.bson_elem.specs.declared.kinds.Kind.TheVariants as kinds
use Rattle.bson_elem.specs.Trees.{boolean_value, raw_value}
use Rattle.bson_raw.specs.Pairs.{TreeValue, leaf_value}
use Rattle.bson_doc.specs.Document.{put, value_named}
use Rattle.bson_json_read.specs.declared.fault.JsonFault.{JsonFault}
use Rattle.bson_doc.specs.declared.bson_values.Bson.{Bson}
use Rattle.bson_json_read.specs.Forms.{form_in}
use Rattle.bson_json_read.specs.Reads.{and_map}
use Rattle.bson_json_read.specs.Table.{string_value}
use Rattle.bson_json_read.specs.Values.{IsRead, array_of, number_read, object_as, Pair, array_read, document_read, items_read, pairs_read, value_read, value_with}

-- a pair of a new name goes last
pub put_last : (name : List ℕ) (v : TreeValue) (ps : List Pair) → value_named name ps ≡ None → put name v ps ≡ ps ++ (name, v) ∷ []
put_last name v [] h = refl
put_last name v (p ∷ ps) h =
    (elim (bytes_eq name p.0) as (λ b. cond b (Some p.1) (value_named name ps) ≡ None → cond b ((p.0, v) ∷ ps) (p ∷ put name v ps) ≡ p ∷ (ps ++ (name, v) ∷ []))
    [ true ↦ λ e. absurd cc | false ↦ λ e. ap (λ qs. p ∷ qs) (put_last name v ps e) ]) h

some_is : {A : Type 0} {x y : A} → Some x ≡ Some y → x ≡ y
some_is e = cc

-- a value is read by how documents and arrays are
pub value_at : (room : ℕ) (j : json.Json) → value_read room j ≡ value_with (document_read room) (array_read room) j
value_at zero j = refl
value_at (suc room) j = refl

pub document_at : (room : ℕ) (ms : json.Members) → 0 < room → document_read room ms ≡ pairs_read (value_read (room - 1)) [] ms
document_at zero ms h = absurd (omega arith)
document_at (suc room) ms h = let e : suc room - 1 ≡ room = omega arith in rw e refl

pub array_at : (room : ℕ) (js : json.Items) → 0 < room → array_read room js ≡ items_read (value_read (room - 1)) [] js
array_at zero js h = absurd (omega arith)
array_at (suc room) js h = let e : suc room - 1 ≡ room = omega arith in rw e refl

-- what is read of a string, a number, an object, an array, a truth value and null
pub of_string : (room : ℕ) (j : json.Json) (text : List ℕ) (r : Result Bson JsonFault) → as_str j ≡ Some text → IsRead (Ok (string_value text)) r → IsRead (value_read room j) r
of_string room json.null text r e h = absurd cc
of_string room (json.boolean b) text r e h = absurd cc
of_string room (json.number s) text r e h = absurd cc
of_string room (json.string s) text r e h = rw (value_at room (json.string s), some_is e) h
of_string room (json.array js) text r e h = absurd cc
of_string room (json.object ms) text r e h = absurd cc

pub of_number : (room : ℕ) (j : json.Json) (text : List ℕ) (r : Result Bson JsonFault) → as_number j ≡ Some text → IsRead (number_read text) r → IsRead (value_read room j) r
of_number room json.null text r e h = absurd cc
of_number room (json.boolean b) text r e h = absurd cc
of_number room (json.number s) text r e h = rw (value_at room (json.number s), some_is e) h
of_number room (json.string s) text r e h = absurd cc
of_number room (json.array js) text r e h = absurd cc
of_number room (json.object ms) text r e h = absurd cc

pub of_object : (room : ℕ) (j : json.Json) (ms : json.Members) (r : Result Bson JsonFault) → as_object j ≡ Some ms → IsRead (object_as (document_read room) ms (form_in ms)) r → IsRead (value_read room j) r
of_object room json.null ms r e h = absurd cc
of_object room (json.boolean b) ms r e h = absurd cc
of_object room (json.number s) ms r e h = absurd cc
of_object room (json.string s) ms r e h = absurd cc
of_object room (json.array js) ms r e h = absurd cc
of_object room (json.object ns) ms r e h = rw (value_at room (json.object ns), some_is e) h

pub of_array : (room : ℕ) (j : json.Json) (js : json.Items) (r : Result Bson JsonFault) → as_array j ≡ Some js → IsRead (and_map array_of (array_read room js)) r → IsRead (value_read room j) r
of_array room json.null js r e h = absurd cc
of_array room (json.boolean b) js r e h = absurd cc
of_array room (json.number s) js r e h = absurd cc
of_array room (json.string s) js r e h = absurd cc
of_array room (json.array is) js r e h = rw (value_at room (json.array is), some_is e) h
of_array room (json.object ms) js r e h = absurd cc

pub of_boolean : (room : ℕ) (j : json.Json) (b : Bool) → as_bool j ≡ Some b → value_read room j ≡ Ok (leaf_value kinds.Boolean (boolean_value b))
of_boolean room json.null b e = absurd cc
of_boolean room (json.boolean t) b e = rw (value_at room (json.boolean t), some_is e) refl
of_boolean room (json.number s) b e = absurd cc
of_boolean room (json.string s) b e = absurd cc
of_boolean room (json.array js) b e = absurd cc
of_boolean room (json.object ms) b e = absurd cc

pub of_null : (room : ℕ) (j : json.Json) → as_str j ≡ None → as_number j ≡ None → as_object j ≡ None → as_array j ≡ None → as_bool j ≡ None
    → value_read room j ≡ Ok (leaf_value kinds.Null (raw_value []))
of_null room json.null s n o a b = value_at room json.null
of_null room (json.boolean t) s n o a b = absurd cc
of_null room (json.number t) s n o a b = absurd cc
of_null room (json.string t) s n o a b = absurd cc
of_null room (json.array js) s n o a b = absurd cc
of_null room (json.object ms) s n o a b = absurd cc
