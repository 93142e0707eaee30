-- What a handle owns: the same as a box of its core, or nothing where it has none.
use base.Fml.{Fml, ftrue}
use base.Stored.{Coded}
use denote.RawPtr.{Ptr}
use Rattle.std.specs.Box.Ownership.{box_owns}
use Rattle.std.specs.Coded.{coded_option}
use Rattle.std.specs.Global.{Global}
use Rattle.std.specs.Prelude.{Option, None, Some}
use Rattle.std_heap.specs.contracts.GlobalAllocator.TheImpl.{ghosts}
use Rattle.core_handles.specs.declared.cores.Core.{Core}
use Rattle.core_handles.specs.contracts.cores.Core.{the_row}

abbrev pub handle_owns : Global → Ptr → Option Core → Fml
handle_owns alloc at None = ftrue
handle_owns alloc at (Some core) = box_owns (ghosts.dealloc_token alloc) the_row at core

-- how the logic keeps the core of a handle, if it has one
abbrev pub core_coded : Coded (Option Core)
core_coded = coded_option the_row.coded
