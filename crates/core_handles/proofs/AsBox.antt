-- The handle and its parts own what a box at the same types owns.
use mir.Syntax.{impl, tnil, dnil}
use mathlib.Core.List.{[]}
use denote.Signature.{Slot, plain}
use mathlib.Core.List.{List}
use mathlib.Core.Path.{◌≡◌, refl}
use seplogic.Ra.Ura.{Ura}
use mir.Val.{Val}
use base.Logic.{ent, id⊢}
use types.Logic.{Logic, sem}
use denote.RawPtr.{Ptr}
use Rattle.std.specs.Prelude.{true, Option, Some, None}
use Rattle.std.specs.Option.{is_some}
use Rattle.std.specs.Global.{Global}
use Rattle.std_alloc.proofs.BoxSteps.Form.{B}
use Rattle.core_handles.specs.declared.cores.Core.{Core as Kept}
use Rattle.std_alloc.proofs.BoxSteps.Form.{Bx}
use Rattle.std_heap.specs.contracts.Global as Heap
use Rattle.std_heap.specs.contracts.GlobalAllocator.TheImpl.{ghosts, dict}
use Rattle.std_heap.proofs.Global.TheLaws as heap
use Rattle.core_handles.specs.contracts.cores.Core as Core
use Rattle.core_handles.proofs.cores.Core.TheLaws as core
use Rattle.core_handles.specs.contracts.parts.Parts as Parts
use Rattle.core_handles.specs.contracts.handle.Handle as Handle

abbrev pub E : Bx
E = record { row = Core.the_row; laws = core.the_row_laws; al = record { row = Heap.the_row; laws = heap.the_row_laws; g = ghosts; d = dict; drops = impl [] tnil dnil } }

abbrev pub FromParts : Slot 0
FromParts = plain (λ _. Parts.the_row Core.the_row Heap.the_row ghosts)

abbrev pub FromSeal : Slot 0
FromSeal = plain (λ _. Handle.the_row)

-- the core that is there
pub core_in : (o : Option Kept) → is_some o ≡ true → Kept
core_in (Some core) some = core
core_in None some = absurd cc

pub core_is : (o : Option Kept) (some : is_some o ≡ true) → o ≡ Some (core_in o some)
unfolding core_in
core_is (Some core) some = refl
core_is None some = absurd cc

-- a handle of a core owns what a box of it does
pub as_box : {M : Type 1} {𝓤 : Ura M} (𝓛 : Logic 𝓤) (at : Ptr) (alloc : Global) (o : Option Kept) (some : is_some o ≡ true) (vs : List Val)
    → ent 𝓤 (sem 𝓛 ((Handle.the_row).own_val (record { at = at; alloc = alloc; core = o }) vs)) (sem 𝓛 ((B E).own_val (record { ptr = at; alloc = alloc; value = core_in o some }) vs))
unfolding core_in
as_box {𝓤} 𝓛 at alloc (Some core) some vs = id⊢ 𝓤 _
as_box {𝓤} 𝓛 at alloc None some vs = absurd cc
