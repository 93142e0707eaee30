-- The text of the value of one element, in the room of a caller.
use Rattle.std.specs.Prelude.{◌≡◌, ◌<◌, List, ℕ, Ok, Err, Some, slice_range}
use Rattle.bson_elem.specs.declared.fault.BsonFault.{BsonFault}
use Rattle.bson_elem.specs.Checks.{ElementRead, element_at}
use Rattle.bson_text.specs.{read_text}
use Rattle.byte_views.specs.declared.iter.ElementIter.{ElementIter}
use Rattle.byte_views.specs.declared.text.TextWritten.{TextWritten}
use Rattle.byte_views.specs.Elements.{wrong_element}
use Rattle.byte_views.specs.Fault.{first_fault}
use Rattle.byte_views.specs.Iters.{IsInside}
use Rattle.byte_views.specs.Texts.{IsPut, memory_fault, no_text}

-- The value of the element at the walk is put into the room, as it stands behind the name in the
-- text of a document; or there is no memory for it, or the element has this fault, or none stands
-- there, and the room stays as it was.
pub data IsValueWritten (bytes : List ℕ) (s : ElementIter) (old new : List ℕ)
    : TextWritten → Type 0 where
  is_put : {w : TextWritten} (read : ElementRead) → IsInside bytes s → s.at < s.end
      → element_at s.depth s.start s.at (slice_range bytes s.at s.end) ≡ Ok read
      → IsPut (read_text read.kind read.value) old new w → IsValueWritten bytes s old new w
  no_memory : {w : TextWritten} (read : ElementRead) → IsInside bytes s → s.at < s.end
      → element_at s.depth s.start s.at (slice_range bytes s.at s.end) ≡ Ok read
      → w ≡ no_text memory_fault → new ≡ old → IsValueWritten bytes s old new w
  has_fault : {w : TextWritten} (f : BsonFault) → IsInside bytes s → s.at < s.end
      → element_at s.depth s.start s.at (slice_range bytes s.at s.end) ≡ Err f
      → w ≡ no_text (first_fault (Some f)) → new ≡ old → IsValueWritten bytes s old new w
  none_there : {w : TextWritten} → ((IsInside bytes s × (s.at < s.end)) → ⊥)
      → w ≡ no_text wrong_element.fault → new ≡ old → IsValueWritten bytes s old new w
