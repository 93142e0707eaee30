-- When a request can't be answered with a document.
use Rattle.std.specs.Prelude.{◌≢◌, ◌⊎◌, ℕ, List}
use Rattle.bson_elem.specs.{Spells, Tree}
use Rattle.bson_doc.specs.declared.refusal.DocRefusal.{DocRefusal}
use Rattle.bson_doc.specs.declared.refusal.DocRefusal.TheVariants as written
use Rattle.bson_doc.specs.{IsUnwritable}
use Rattle.wire_msg.specs.declared.refusal.MsgRefusal.{MsgRefusal}
use Rattle.wire_msg.specs.declared.refusal.MsgRefusal.TheVariants as messages
use Rattle.wire_msg.specs.{IsBodyRefusal}

-- the answer can't be written: it is nested too deep or too long for a document, or too long for a
-- message
abbrev pub IsUnanswerable : Tree → Type 0
IsUnanswerable t =
    ((e : DocRefusal) × (e ≢ written.OutOfMemory) × IsUnwritable t e)
    ⊎ ((e : MsgRefusal) × (e ≢ messages.OutOfMemory) × IsBodyRefusal t e)

-- memory may run out for the answer: while it is written, or, if it can be, while it is put into a
-- message
abbrev pub WantsMemory : Tree → Type 0
WantsMemory t =
    IsUnwritable t written.OutOfMemory
    ⊎ (((bytes : List ℕ) × Spells t bytes) × IsBodyRefusal t messages.OutOfMemory)
