-- Parts of the caller's bytes.
use Rattle.std.specs.Prelude.{◌≡◌, ◌≤◌, ℕ, ◌+◌, List, length, slice_range}
use Rattle.byte_views.specs.declared.view.View.{View}

-- so many bytes from an offset on
abbrev pub view : ℕ → ℕ → View
view offset n = record { offset = offset; length = n }

abbrev pub no_view : View
no_view = view 0 0

-- The view lies in the bytes, and these are the bytes that it has.
pub record IsView (bytes : List ℕ) (v : View) (part : List ℕ) : Type 0 where
  pub within : v.offset + v.length ≤ length bytes
  pub part_is : slice_range bytes v.offset (v.offset + v.length) ≡ part
