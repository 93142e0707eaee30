-- What a handler does that stops at one request.
use Rattle.std.specs.Prelude.{ℕ, zero, suc, Option, Some, None}

-- how many requests come before the one to stop at, once one more came
abbrev pub one_fewer : Option ℕ → Option ℕ
one_fewer None = None
one_fewer (Some zero) = None
one_fewer (Some (suc k)) = Some k
