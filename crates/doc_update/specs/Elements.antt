-- The elements of arrays that the steps of an update name: by their indexes, from 0 on.
use Rattle.std.specs.Prelude.{ℕ, zero, suc, ◌^◌, List, [], ◌∷◌, Bool, ◌&&◌, ◌||◌, nat_le, nat_lt}
use Rattle.std.specs.Prelude.{Option, Some, None, Result, Ok, Err, length, if◌then◌else◌}
use Rattle.std.specs.Fmt.{decimal}
use Rattle.std.specs.Str.{bytes_eq}
use Rattle.std.specs.Str.Parse.{digits_value}
use Rattle.bson_raw.specs.{TreeValue}
use Rattle.doc_query.specs.declared.failure.CommandError.{CommandError}
use Rattle.doc_query.specs.declared.failure.CommandError.TheVariants as errors
use Rattle.doc_query.specs.{null}

-- a step is the number below 2 ^ 32 that it writes: in decimal, without zeros in front
abbrev pub writes : List ℕ → ℕ → Bool
writes s n = nat_lt n (2 ^ 32) && bytes_eq s (decimal n)

abbrev pub index_of : List ℕ → Option ℕ
index_of s = if writes s (digits_value 10 s) then Some (digits_value 10 s) else None

-- an element can be made at an index: it is there, or the index is at most 1,500,000
abbrev pub is_near : ℕ → List TreeValue → Bool
is_near i vs = nat_lt i (length vs) || nat_le i 1500000

abbrev pub near : Option ℕ → List TreeValue → Result ℕ CommandError
near None vs = Err errors.NotViable
near (Some i) vs = if is_near i vs then Ok i else Err errors.Backfill

-- the index of the element that a step makes
abbrev pub index_in : List ℕ → List TreeValue → Result ℕ CommandError
index_in s vs = near (index_of s) vs

-- the values with this one at an index, and with null where there was none before it
abbrev pub put_at : ℕ → TreeValue → List TreeValue → List TreeValue
put_at zero v [] = v ∷ []
put_at zero v (w ∷ vs) = v ∷ vs
put_at (suc i) v [] = null ∷ put_at i v []
put_at (suc i) v (w ∷ vs) = w ∷ put_at i v vs
