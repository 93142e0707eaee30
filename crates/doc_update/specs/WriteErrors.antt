-- The errors of single documents and statements of a write.
use Rattle.std.specs.Prelude.{ℕ, ℤ, List, [], ◌∷◌, Bool, true, false, codes}
use Rattle.bson_raw.specs.{TreeValue}
use Rattle.doc_query.specs.{count_value, inner, int32, text}

-- the error of the document or the statement of a write at this index: its number, and its words
abbrev pub write_error : ℕ → ℤ → List ℕ → TreeValue
write_error i code words =
    inner ((codes "index", count_value i) ∷ (codes "code", int32 code)
    ∷ (codes "errmsg", text words) ∷ [])

abbrev pub has_error : List TreeValue → Bool
has_error [] = false
has_error (e ∷ es) = true
