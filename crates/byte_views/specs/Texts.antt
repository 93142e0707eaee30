-- A text that is written into the room of a caller.
use Rattle.std.specs.Prelude.{◌≡◌, ◌≤◌, ◌<◌, ◌^◌, ℕ, List, ◌++◌, drop, length, Bool, true, false}
use Rattle.std.specs.Prelude.{None, Some, if◌then◌else◌}
use Rattle.bson_elem.specs.declared.fault.BsonFault.{BsonFault}
use Rattle.bson_elem.specs.{Spells, Tree}
use Rattle.bson_raw.specs.{IsSpelled, WholeFault}
use Rattle.bson_json.specs.declared.mode.Mode.{Mode}
use Rattle.bson_json.specs.declared.mode.Mode.TheVariants.{Canonical, Relaxed}
use Rattle.byte_views.specs.Pickles.{document_pickle}
use Rattle.bson_doc.specs.declared.refusal.DocRefusal.{DocRefusal}
use Rattle.bson_doc.specs.declared.refusal.DocRefusal.TheVariants.{TooLarge}
use Rattle.bson_doc.specs.{canonical_len, plain}
use Rattle.bson_text.specs.Dump.{document_text}
use Rattle.byte_views.specs.declared.fault.FirstFault.{FirstFault}
use Rattle.byte_views.specs.declared.text.TextWritten.{TextWritten}
use Rattle.byte_views.specs.Fault.{first_fault}

-- there is a text of n bytes, and it was written or not
abbrev pub text_put : ℕ → Bool → TextWritten
text_put n written = record { fault = first_fault None; length = n; written = written }

-- there is no text, by this fault
abbrev pub no_text : FirstFault → TextWritten
no_text fault = record { fault = fault; length = 0; written = false }

-- the fault of a call that has no memory for the text
abbrev pub memory_fault : FirstFault
memory_fault = record { number = 254; offset = 0 }

-- the fault of a canonical form that is longer than a document may be
abbrev pub too_large_fault : FirstFault
too_large_fault = record { number = 253; offset = 0 }

-- The text is put to the front of the room; or the room is too short for it, and stays as it was.
pub data IsPut (text old new : List ℕ) : TextWritten → Type 0 where
  fits : {w : TextWritten} → length text ≤ length old → w ≡ text_put (length text) true
      → new ≡ text ++ drop (length text) old → IsPut text old new w
  too_long : {w : TextWritten} → length old < length text → w ≡ text_put (length text) false
      → new ≡ old → IsPut text old new w

-- A text of this sort, of the document that the bytes are, is put into the room; or there is no
-- memory for it, or this is the first fault of the bytes, and the room stays as it was.
pub data IsTextWritten (bytes : List ℕ) (IsText : Tree → List ℕ → Type 0)
    (old new : List ℕ) : TextWritten → Type 0 where
  is_put : {w : TextWritten} (t : Tree) (text : List ℕ) → Spells t bytes → IsText t text
      → IsPut text old new w → IsTextWritten bytes IsText old new w
  no_memory : {w : TextWritten} → IsSpelled bytes → w ≡ no_text memory_fault → new ≡ old
      → IsTextWritten bytes IsText old new w
  has_fault : {w : TextWritten} (f : BsonFault) → WholeFault bytes f
      → w ≡ no_text (first_fault (Some f)) → new ≡ old → IsTextWritten bytes IsText old new w

-- the text is that of the document
abbrev pub IsDump : Tree → List ℕ → Type 0
IsDump t text = text ≡ document_text t

-- the text is the pickle of the document
abbrev pub IsPickle : Tree → List ℕ → Type 0
IsPickle t text = text ≡ document_pickle t

-- the form of Extended JSON
abbrev pub json_mode : Bool → Mode
json_mode relaxed = if relaxed then Relaxed else Canonical

-- the bytes are the canonical form of the document
abbrev pub IsCanonical : Tree → List ℕ → Type 0
IsCanonical t form = Spells (plain t) form

-- there is no canonical form, since it was refused so
abbrev pub no_form : DocRefusal → TextWritten
no_form TooLarge = no_text too_large_fault
no_form _ = no_text memory_fault

-- The canonical form of the document that the bytes are is put into the room; or there is no memory
-- for it, or it would be longer than a document may be, or this is the bytes' first fault; and the
-- room stays as it was then.
pub data IsCanonicalWritten (bytes old new : List ℕ) : TextWritten → Type 0 where
  is_form : {w : TextWritten} (t : Tree) (form : List ℕ) → Spells t bytes → IsCanonical t form
      → IsPut form old new w → IsCanonicalWritten bytes old new w
  wants_memory : {w : TextWritten} (t : Tree) → Spells t bytes → canonical_len t < 2 ^ 31
      → w ≡ no_text memory_fault → new ≡ old → IsCanonicalWritten bytes old new w
  too_large : {w : TextWritten} (t : Tree) → Spells t bytes → 2 ^ 31 ≤ canonical_len t
      → w ≡ no_text too_large_fault → new ≡ old → IsCanonicalWritten bytes old new w
  no_document : {w : TextWritten} (f : BsonFault) → WholeFault bytes f
      → w ≡ no_text (first_fault (Some f)) → new ≡ old → IsCanonicalWritten bytes old new w
