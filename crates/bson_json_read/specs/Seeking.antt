-- What the reader of an input of several texts finds.
use Rattle.std.specs.Prelude.{⊤, ℕ, List}
use Rattle.bson_json_read.specs.declared.seek.Sought.{Sought}
use Rattle.bson_json_read.specs.declared.seek.Sought.TheVariants as sought
use Rattle.bson_json_read.specs.Sequences.{Next, fault_here, nothing, text_here}

-- what is next, where this was found in front of this rest
abbrev pub next_at : Sought → List ℕ → Next
next_at sought.Nothing rest = nothing
next_at (sought.Text frame) rest = text_here frame rest
next_at (sought.Fault cause) rest = fault_here cause

-- it is a text
abbrev pub IsText : Sought → Type 0
IsText (sought.Text frame) = ⊤
IsText found = ⊥
