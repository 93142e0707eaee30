-- What it means that connecting to the server failed.
use Rattle.std.specs.Prelude.{◌≡◌, ◌⊎◌, ℤ, pos, Option, Some, ⊤}
use Rattle.std.specs.declared.io.ErrorKind.{ErrorKind}
use Rattle.sockets.specs.declared.failure.IoFailure.{IoFailure}
use Rattle.proxy.specs.declared.proxy.Unreached.{Unreached}
use Rattle.proxy.specs.declared.proxy.Unreached.TheVariants as unreached

-- The system has no memory (12), no open file for any process (23) or for this one (24), or no room
-- for buffers left (105; `man 3 errno`).
abbrev pub LeavesNone : Option ℤ → Type 0
LeavesNone code =
    (code ≡ Some (pos 12)) ⊎ (code ≡ Some (pos 23)) ⊎ (code ≡ Some (pos 24))
    ⊎ (code ≡ Some (pos 105))

-- what is kept of an error is its kind and its number
abbrev pub IsKeptOf : ErrorKind → Option ℤ → IoFailure → Type 0
IsKeptOf kind code failure = (failure.kind ≡ kind) × (failure.code ≡ code)

-- It is tried again later where the system has nothing left, and else the connection is refused.
abbrev pub IsUnreached : ErrorKind → Option ℤ → Unreached → Type 0
IsUnreached kind code (unreached.NoneLeft failure) = LeavesNone code × IsKeptOf kind code failure
IsUnreached kind code (unreached.Refused failure) =
    (LeavesNone code → ⊥) × IsKeptOf kind code failure

-- the system has nothing left, so that it is tried again later
abbrev pub IsNoneLeft : Unreached → Type 0
IsNoneLeft (unreached.NoneLeft failure) = ⊤
IsNoneLeft (unreached.Refused failure) = ⊥

-- a connection is refused only where the system has something left
abbrev pub WantsNoRoom : Unreached → Type 0
WantsNoRoom (unreached.NoneLeft failure) = ⊤
WantsNoRoom (unreached.Refused failure) = LeavesNone failure.code → ⊥
