-- A message with the ids that the cursors of the record have on the server.
use Rattle.std.specs.Prelude.{◌≡◌, ◌≢◌, ◌++◌, ◌+◌, ◌-◌, ◌==◌, ◌&&◌, ◌||◌, ℕ, ℤ, Bool, List, []}
use Rattle.std.specs.Prelude.{◌∷◌, true, false, bit_and, codes, drop, if◌then◌else◌, length, nat_lt}
use Rattle.std.specs.Prelude.{None, Option, Some, pos, slice_get, take, unwrap_or}
use Rattle.std.specs.Ordering.{int_eq}
use Rattle.std.specs.Int.{w64, cast_unsigned, to_le_bytes}
use Rattle.std.specs.Str.{bytes_eq}
use Rattle.bson_elem.specs.declared.kinds.Kind.TheVariants as kinds
use Rattle.bson_elem.specs.{Spells, Tree, elements, inner_pair, leaf_pair, no_pairs, number_value}
use Rattle.bson_raw.specs.{TreeValue, document_value, first_named, is_array_kind, leaf_value}
use Rattle.replay.specs.Cursors.{id_now, noted}
use Rattle.replay.specs.declared.cursors.Cursor.{Cursor}

-- ---- where the ids stand

-- the offset behind a value, in a document that ends at this offset: the pairs behind it and the
-- last 00 stand there
abbrev pub behind : ℕ → Tree → ℕ
behind end others = end - (length (elements others) + 1)

-- The ids in the pairs of a document that ends at this offset, each with the offset of its 8 bytes:
-- those that `ids` gives of each pair's name, of the offset behind its value, and of the value.
abbrev pub pair_ids : (List ℕ → ℕ → TreeValue → List (ℕ × ℤ)) → ℕ → Tree → List (ℕ × ℤ)
pair_ids ids end no_pairs = []
pair_ids ids end (leaf_pair n k v ps) =
    ids n (behind end ps) (leaf_value k v) ++ pair_ids ids end ps
pair_ids ids end (inner_pair n k b inner ps) =
    ids n (behind end ps) (document_value k b inner) ++ pair_ids ids end ps

-- an int64 that ends at this offset
abbrev pub number_ids : ℕ → TreeValue → List (ℕ × ℤ)
number_ids end (leaf_value kinds.Int64 (number_value id)) = (end - 8, id) ∷ []
number_ids end v = []

-- one in an array; or in a document, if its name is "id"
abbrev pub inner_ids : Bool → List ℕ → ℕ → TreeValue → List (ℕ × ℤ)
inner_ids in_array name end v =
    if in_array || bytes_eq name (codes "id") then number_ids end v else []

-- whether the array of this name holds ids: that of killCursors, or one of its reply
abbrev pub is_id_array : List ℕ → Bool
is_id_array name =
    if bytes_eq name (codes "cursors") then true else
    if bytes_eq name (codes "cursorsKilled") then true else
    if bytes_eq name (codes "cursorsNotFound") then true else
    if bytes_eq name (codes "cursorsAlive") then true else
    if bytes_eq name (codes "cursorsUnknown") then true else false

-- whether the array of this name holds ids, or the document
abbrev pub holds_ids : Bool → List ℕ → Bool
holds_ids true name = is_id_array name
holds_ids false name = bytes_eq name (codes "cursor")

-- those in an array or a document in a field of this name
abbrev pub held_ids : List ℕ → ℕ → TreeValue → List (ℕ × ℤ)
held_ids name end (leaf_value k v) = []
held_ids name end (document_value k b inner) =
    if holds_ids (is_array_kind k) name then pair_ids (inner_ids (is_array_kind k)) end inner
    else []

-- those in a field of a body: getMore is one
abbrev pub field_ids : List ℕ → ℕ → TreeValue → List (ℕ × ℤ)
field_ids name end v =
    if bytes_eq name (codes "getMore") then number_ids end v else held_ids name end v

-- ---- what becomes of them

-- the bytes with this id as the 8 bytes at an offset
abbrev pub with_id : ℤ → ℕ → List ℕ → List ℕ
with_id id at bytes =
    if nat_lt (length bytes) (at + 8) then bytes
    else take at bytes ++ (to_le_bytes w64 (cast_unsigned w64 id) ++ drop (at + 8) bytes)

-- the bytes with each of these ids as it is on the server
abbrev pub with_ids : List Cursor → List (ℕ × ℤ) → List ℕ → List ℕ
with_ids cursors [] bytes = bytes
with_ids cursors (p ∷ ids) bytes = with_ids cursors ids (with_id (id_now cursors p.1) p.0 bytes)

-- ---- messages

-- the byte at an index, or 255 behind the last one
abbrev pub byte_at : List ℕ → ℕ → ℕ
byte_at bytes i = unwrap_or (slice_get bytes i) 255

-- whether the bytes begin as an OP_MSG, opCode 2013, without a checksum, whose first section is of
-- kind 0, the body
abbrev pub begins_body : List ℕ → Bool
begins_body bytes =
    byte_at bytes 12 == 221 && byte_at bytes 13 == 7 && byte_at bytes 14 == 0
    && byte_at bytes 15 == 0 && bit_and (byte_at bytes 16) 1 == 0 && byte_at bytes 20 == 0

-- The bytes are such a message with this body, before these bytes.
pub record HasBody (bytes : List ℕ) (t : Tree) (rest : List ℕ) : Type 0 where
  pub body : List ℕ
  pub begins : begins_body bytes ≡ true
  pub spelled : Spells t body
  pub parts : drop 21 bytes ≡ body ++ rest

-- The bytes are carried over as these: each id of a cursor in the body is as it is on the server,
-- and nothing else is changed; nor is anything in bytes without such a body.
pub record IsCarried (cursors : List Cursor) (bytes carried : List ℕ) : Type 0 where
  pub body : (t : Tree) (rest : List ℕ) → HasBody bytes t rest
      → carried ≡ with_ids cursors (pair_ids field_ids (length bytes - length rest) t) bytes
  pub none : ((t : Tree) (rest : List ℕ) → HasBody bytes t rest → ⊥) → carried ≡ bytes

-- ---- which id a cursor has

-- the number of an int64
abbrev pub id_of : Option TreeValue → Option ℤ
id_of (Some (leaf_value kinds.Int64 (number_value z))) = Some z
id_of _ = None

-- the id in the document that is this value of a body
abbrev pub cursor_in : Option TreeValue → Option ℤ
cursor_in (Some (document_value kinds.Document b inner)) = id_of (first_named (codes "id") inner)
cursor_in _ = None

-- the id of the cursor in a body
abbrev pub cursor_of : Tree → Option ℤ
cursor_of t = cursor_in (first_named (codes "cursor") t)

-- The cursor in the body of these bytes has this id, or there is no cursor, or no body.
pub record IsCursorOf (bytes : List ℕ) (id : Option ℤ) : Type 0 where
  pub body : (t : Tree) (rest : List ℕ) → HasBody bytes t rest → id ≡ cursor_of t
  pub none : ((t : Tree) (rest : List ℕ) → HasBody bytes t rest → ⊥) → id ≡ None

-- the cursors, once an answer with this cursor was taken for a recorded one with this cursor; an id
-- of 0 is no cursor
abbrev pub noted_both : Option ℤ → Option ℤ → List Cursor → List Cursor
noted_both (Some recorded) (Some now) cursors =
    if int_eq recorded (pos 0) || int_eq now (pos 0) then cursors else noted recorded now cursors
noted_both _ _ cursors = cursors
