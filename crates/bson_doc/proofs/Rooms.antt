-- The room left behind the pairs of a container, one pair after another.
use Rattle.std.proofs.Common.{◌≡◌, ℕ, ◌+◌, ◌<◌, Bool, List, Option, Some, None, length, ap, ◌∙◌, arith, length-append}
use Rattle.bson_elem.specs.Spelling.{document, elements}
use Rattle.bson_elem.specs.Trees.{Tree}
use Rattle.bson_raw.specs.Naming.{name_at}
use Rattle.bson_raw.specs.Pairs.{TreeValue, with_first}
use Rattle.bson_doc.specs.Plain.{plain_from}
use Rattle.bson_doc.specs.Room.{IsRoomLeft}
use Rattle.bson_doc.specs.Values.{plain_value, element_bytes}
use Rattle.bson_doc.proofs.Values.{elements-first}
use Rattle.bson_doc.proofs.Writing.{elements-with_first}

-- behind what has this length, there is room for what is left of the container
abbrev pub IsRoomFor : ℕ → ℕ → List ℕ → List ℕ → Type 0
IsRoomFor room left all others = left + length (document all) ≡ room + length others

first_len : (n : List ℕ) (v : TreeValue) (t others : Tree) → t ≡ with_first n v others
    → length (elements t) ≡ length (element_bytes n v) + length (elements others)
first_len n v t others first = ap length (ap elements first ∙ elements-with_first n v others) ∙ length-append (element_bytes n v) (elements others)

-- one more pair is behind
pub room_more : (room left after : ℕ) (all : List ℕ) (n : List ℕ) (v : TreeValue) (t others : Tree) → IsRoomFor room left all (elements t)
    → t ≡ with_first n v others → after + length (element_bytes n v) ≡ left → IsRoomFor room after all (elements others)
room_more room left after all n v t others is first e = omega (arith, is, e, first_len n v t others first)

-- there is no room for one more pair
pub room_less : (room left : ℕ) (all : List ℕ) (n : List ℕ) (v : TreeValue) (t others : Tree) → IsRoomFor room left all (elements t)
    → t ≡ with_first n v others → left < length (element_bytes n v) → room < length (document all)
room_less room left all n v t others is first e = omega (arith, is, e, first_len n v t others first)

plain_len : (in_array : Bool) (index : ℕ) (n : List ℕ) (v : TreeValue) (t others : Tree) → t ≡ with_first n v others
    → length (elements (plain_from in_array index t)) ≡ length (element_bytes (name_at in_array index n) (plain_value v)) + length (elements (plain_from in_array (index + 1) others))
plain_len in_array index n v t others first =
    ap length (ap (λ (x : Tree). elements (plain_from in_array index x)) first ∙ elements-first in_array index n v others)
    ∙ length-append (element_bytes (name_at in_array index n) (plain_value v)) (elements (plain_from in_array (index + 1) others))

-- the same in canonical form
pub plain_room_more : (room left after : ℕ) (all : List ℕ) (in_array : Bool) (index : ℕ) (n : List ℕ) (v : TreeValue) (t others : Tree) → IsRoomFor room left all (elements (plain_from in_array index t))
    → t ≡ with_first n v others → after + length (element_bytes (name_at in_array index n) (plain_value v)) ≡ left → IsRoomFor room after all (elements (plain_from in_array (index + 1) others))
plain_room_more room left after all in_array index n v t others is first e = omega (arith, is, e, plain_len in_array index n v t others first)

pub plain_room_less : (room left : ℕ) (all : List ℕ) (in_array : Bool) (index : ℕ) (n : List ℕ) (v : TreeValue) (t others : Tree) → IsRoomFor room left all (elements (plain_from in_array index t))
    → t ≡ with_first n v others → left < length (element_bytes (name_at in_array index n) (plain_value v)) → room < length (document all)
plain_room_less room left all in_array index n v t others is first e = omega (arith, is, e, plain_len in_array index n v t others first)

-- what is left behind more bytes
pub room_behind : (limit room len n : ℕ) (r : Option ℕ) → room + len ≡ limit → IsRoomLeft room n r → IsRoomLeft limit (len + n) r
room_behind limit room len n None e h = omega (arith, e, h)
room_behind limit room len n (Some left) e h = omega (arith, e, h)
