-- What reading a JSON value gives, or its first fault and where that is.
use Rattle.std.specs.Prelude.{◌≡◌, ◌⊎◌, ℕ, List, [], ◌∷◌, ◌++◌, Option, Some, None, Result, Ok, Err}
use Rattle.bson_json_read.specs.declared.fault.Cause.{Cause}
use Rattle.bson_json_read.specs.declared.fault.Cause.TheVariants.{OutOfMemory}
use Rattle.bson_json_read.specs.declared.fault.JsonFault.{JsonFault}

-- a cause, and the indexes of the value at fault and of those that hold it, the innermost first
abbrev pub Fault : Type 0
Fault = Cause × List ℕ

abbrev pub Read : Type 0 → Type 0
Read A = Result A Fault

-- the value itself is at fault
abbrev pub refused : {A : Type 0} → Cause → Read A
refused cause = Err (cause, [])

-- of the value at this index
abbrev pub within : {A : Type 0} → ℕ → Read A → Read A
within index (Ok x) = Ok x
within index (Err f) = Err (f.0, f.1 ++ index ∷ [])

-- the second step, if the first gave a value
abbrev pub and_then : {A B : Type 0} → Read A → (A → Read B) → Read B
and_then (Ok x) next = next x
and_then (Err f) next = Err f

-- what f makes of the value that was read
abbrev pub and_map : {A B : Type 0} → (A → B) → Read A → Read B
and_map f (Ok x) = Ok (f x)
and_map f (Err e) = Err e

-- the value, or this cause
abbrev pub or_refused : {A : Type 0} → Cause → Option A → Read A
or_refused cause (Some x) = Ok x
or_refused cause None = refused cause

-- the fault of the code is this one, or memory ran out
abbrev pub IsFault : {A : Type 0} → Read A → JsonFault → Type 0
IsFault read e = (e.cause ≡ OutOfMemory) ⊎ (read ≡ Err (e.cause, e.path.items))
