-- Why a server stops for an error.
use Rattle.std.specs.Prelude.{◌≡◌, ◌⊎◌, None}
use Rattle.std.specs.IoError.{error_kind, raw_os_error}
use Rattle.std.specs.declared.io.Error.{Error}
use Rattle.std.specs.declared.io.ErrorKind.TheVariants as kind
use Rattle.server_core.specs.declared.stop.Stop.{Stop}
use Rattle.server_core.specs.declared.stop.Stop.TheVariants.{InOut, OutOfMemory}

-- memory ran out, and it wasn't the system that lacked it, whose errors have a number
abbrev pub WantsMemory : Error → Type 0
WantsMemory e = (error_kind e ≡ kind.OutOfMemory) × (raw_os_error e ≡ None)

-- for an error that wants memory the server stops since memory ran out, and for others by them
abbrev pub StopsBy : Error → Stop → Type 0
StopsBy e stop = (WantsMemory e × (stop ≡ OutOfMemory)) ⊎ ((WantsMemory e → ⊥) × (stop ≡ InOut e))
