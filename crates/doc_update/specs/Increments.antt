-- The sums that $inc makes (MongoDB manual, Update Operators: $inc).
use Rattle.std.specs.Prelude.{ℕ, ℤ, pos, negsuc, ◌+ℤ◌, Bool, nat_lt, Option, Some, None, Result}
use Rattle.std.specs.Prelude.{Ok, Err, if◌then◌else◌}
use Rattle.std.specs.Float.{Float, binary64}
use Rattle.std.specs.Float.Ieee as ieee
use Rattle.bson_elem.specs.declared.kinds.Kind.TheVariants as kinds
use Rattle.bson_elem.specs.{number_value, raw_value}
use Rattle.bson_raw.specs.{TreeValue, double_bytes, double_of, leaf_value}
use Rattle.doc_query.specs.declared.failure.CommandError.{CommandError}
use Rattle.doc_query.specs.declared.failure.CommandError.TheVariants as errors
use Rattle.doc_update.specs.declared.increments.Number.{Number}
use Rattle.doc_update.specs.declared.increments.Number.TheVariants as numbers
use Rattle.doc_query.specs.{int32, int64}

-- the number of an int32, an int64 or a double
abbrev pub number_of : TreeValue → Option Number
number_of (leaf_value kinds.Int32 (number_value z)) = Some (numbers.Int32 z)
number_of (leaf_value kinds.Int64 (number_value z)) = Some (numbers.Int64 z)
number_of (leaf_value kinds.Double (raw_value bytes)) = Some (numbers.Double (double_of bytes))
number_of _ = None

-- the number is at least minus this bound, and less than the bound
abbrev pub is_within : ℕ → ℤ → Bool
is_within bound (pos n) = nat_lt n bound
is_within bound (negsuc n) = nat_lt n bound

-- the sum of two int32s is an int32 if it fits, and otherwise an int64
abbrev pub short_sum : ℤ → TreeValue
short_sum z = if is_within 2147483648 z then int32 z else int64 z

-- the sum of an int64 and another number is an int64, or an error
abbrev pub long_sum : ℤ → Result TreeValue CommandError
long_sum z = if is_within 9223372036854775808 z then Ok (int64 z) else Err errors.Overflow

-- the double that is nearest to a number
abbrev pub nearest_double : Number → Float
nearest_double (numbers.Int32 z) = ieee.of_int binary64 z
nearest_double (numbers.Int64 z) = ieee.of_int binary64 z
nearest_double (numbers.Double x) = x

-- the sum of a double and another number is the double that is nearest to that of the two doubles
abbrev pub double_sum : Number → Number → TreeValue
double_sum a b =
    leaf_value kinds.Double
    (raw_value (double_bytes (ieee.add binary64 (nearest_double a) (nearest_double b))))

-- the sum of two numbers
abbrev pub sum : Number → Number → Result TreeValue CommandError
sum (numbers.Int32 a) (numbers.Int32 b) = Ok (short_sum (a +ℤ b))
sum (numbers.Int32 a) (numbers.Int64 b) = long_sum (a +ℤ b)
sum (numbers.Int64 a) (numbers.Int32 b) = long_sum (a +ℤ b)
sum (numbers.Int64 a) (numbers.Int64 b) = long_sum (a +ℤ b)
sum a b = Ok (double_sum a b)
