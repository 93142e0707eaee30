-- The tokens under which connections are registered.
use Rattle.std.specs.Prelude.{ℕ, ◌+◌, ◌-◌, ◌*◌, ◌^◌, min}
use Rattle.shared_proxy.specs.declared.side.Side.{Side}
use Rattle.shared_proxy.specs.declared.side.Side.TheVariants as sides

-- Twice the number of a connection, and one more for one to the server. No token is larger than the
-- greatest one.
abbrev pub token_of : Side → ℕ
token_of (sides.Client number) = min (number * 2) (2 ^ 64 - 1)
token_of (sides.Server number) = min (min (number * 2) (2 ^ 64 - 1) + 1) (2 ^ 64 - 1)
