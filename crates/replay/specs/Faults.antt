-- Why a replay ends early.
use Rattle.std.specs.Prelude.{◌≡◌}
use Rattle.std.specs.IoError.{error_kind}
use Rattle.std.specs.declared.io.ErrorKind.TheVariants.{OutOfMemory}
use Rattle.std.specs.declared.io.Error.{Error}
use Rattle.replay.specs.declared.fault.ReplayFault.{ReplayFault}
use Rattle.replay.specs.declared.fault.ReplayFault.TheVariants.{Address, Io, Records}

-- the error of the call that failed
abbrev pub error_of : ReplayFault → Error
error_of (Records error) = error
error_of (Address error) = error
error_of (Io error) = error

-- Memory ran out, and for anything but the records.
pub record IsOutOfMemory (fault : ReplayFault) : Type 0 where
  pub error : Error
  pub is : fault ≡ Io error
  pub kind : error_kind error ≡ OutOfMemory
