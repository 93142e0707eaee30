-- What a fault that ends a proxy displays as.
use Rattle.std.specs.Prelude.{◌≡◌, ℕ, List, [], codes, Option, Some, None, ⊤}
use Rattle.std.specs.IoError.{error_kind}
use Rattle.std.specs.declared.io.ErrorKind.TheVariants.{OutOfMemory}
use Rattle.proxy.specs.declared.fault.ProxyFault.{ProxyFault}
use Rattle.proxy.specs.declared.fault.ProxyFault.TheVariants as faults

-- the text before that of its own cause
abbrev pub fault_text : ProxyFault → List ℕ
fault_text (faults.Listen cause) = codes "can't listen: "
fault_text (faults.Upstream cause) = codes "the server's address: "
fault_text faults.Itself = codes "the server's address is the proxy's own"
fault_text (faults.PortFile cause) = codes "the file of the port can't be written: "
fault_text (faults.RecordFile cause) = codes "the file of records can't be written: "
fault_text (faults.Io cause) = []

-- all that it displays as, where it has no cause of the system
abbrev pub shown_fault : ProxyFault → Option (List ℕ)
shown_fault faults.Itself = Some (codes "the server's address is the proxy's own")
shown_fault fault = None

-- it is the error of writing, of waiting or of memory
abbrev pub IsIo : ProxyFault → Type 0
IsIo (faults.Io cause) = ⊤
IsIo fault = ⊥

-- it says that memory ran out
abbrev pub TellsNoMemory : ProxyFault → Type 0
TellsNoMemory (faults.Io cause) = error_kind cause ≡ OutOfMemory
TellsNoMemory fault = ⊥

-- it is a fault of serving: the file of records, or what `IsIo` says
abbrev pub IsOfServing : ProxyFault → Type 0
IsOfServing (faults.RecordFile cause) = ⊤
IsOfServing (faults.Io cause) = ⊤
IsOfServing fault = ⊥

-- it is a fault of telling where the proxy listens: the file of the port, or what `IsIo` says
abbrev pub IsOfTelling : ProxyFault → Type 0
IsOfTelling (faults.PortFile cause) = ⊤
IsOfTelling (faults.Io cause) = ⊤
IsOfTelling fault = ⊥

-- it is a fault of the addresses: the server has none, or the proxy's own, or what `IsIo` says
abbrev pub IsOfAddresses : ProxyFault → Type 0
IsOfAddresses (faults.Upstream cause) = ⊤
IsOfAddresses faults.Itself = ⊤
IsOfAddresses (faults.Io cause) = ⊤
IsOfAddresses fault = ⊥

-- it is the fault of the file of records
abbrev pub IsRecordFile : ProxyFault → Type 0
IsRecordFile (faults.RecordFile cause) = ⊤
IsRecordFile fault = ⊥

-- it is a fault of what comes behind listening
abbrev pub IsPastListening : ProxyFault → Type 0
IsPastListening (faults.Listen cause) = ⊥
IsPastListening fault = ⊤
