-- The documents in a view, one after another, as a caller gets them.
use Rattle.std.specs.Prelude.{◌≡◌, ◌≤◌, ℕ, ◌+◌, List, length, slice_range, Ok, Err}
use Rattle.bson_elem.specs.declared.fault.BsonFault.{BsonFault}
use Rattle.bson_elem.specs.{document_at}
use Rattle.byte_views.specs.declared.view.View.{View}
use Rattle.byte_views.specs.Views.{no_view, view}

-- the view lies in the bytes
abbrev pub IsWithin : List ℕ → View → Type 0
IsWithin bytes v = v.offset + v.length ≤ length bytes

-- the bytes that a view has
abbrev pub bytes_in : List ℕ → View → List ℕ
bytes_in bytes v = slice_range bytes v.offset (v.offset + v.length)

-- The view begins with bytes that begin with their number and end with 00; these are told, and the
-- others are left. Or it doesn't, or lies not in the bytes, and none is told.
pub data IsSplit (bytes : List ℕ) (left : View) : View → View → Type 0 where
  splits : {first others : View} (body rest : List ℕ) → IsWithin bytes left
      → document_at 0 0 (bytes_in bytes left) ≡ Ok (body, rest)
      → first ≡ view left.offset (length body + 5)
      → others ≡ view (left.offset + (length body + 5)) (length rest)
      → IsSplit bytes left first others
  no_document : {first others : View} (f : BsonFault) → IsWithin bytes left
      → document_at 0 0 (bytes_in bytes left) ≡ Err f → first ≡ no_view → others ≡ left
      → IsSplit bytes left first others
  not_within : {first others : View} → (IsWithin bytes left → ⊥) → first ≡ no_view
      → others ≡ left → IsSplit bytes left first others
