-- The sections of a message, as a caller gets them: one for each call.
use Rattle.std.specs.Prelude.{◌≡◌, ◌≢◌, ◌≤◌, ◌<◌, ℕ, ◌+◌, List, [], ◌∷◌, drop, length, Ok, Err}
use Rattle.bson_elem.specs.declared.fault.BsonCause.{BsonCause}
use Rattle.bson_elem.specs.declared.fault.BsonFault.{BsonFault}
use Rattle.bson_elem.specs.{cstring_at, document, document_at, elements}
use Rattle.bson_raw.specs.{documents_bytes}
use Rattle.wire_msg.specs.{Sequence}
use Rattle.wire_msg.specs.Faults.{AreSeen, IsSized, Seen, body_seen, no_body_yet, seen_bytes}
use Rattle.wire_msg.specs.Faults.{sequence_rest}
use Rattle.byte_views.specs.declared.parts.Section.{Section}
use Rattle.byte_views.specs.declared.view.View.{View}
use Rattle.byte_views.specs.Views.{IsView, no_view, view}

abbrev pub section : ℕ → View → View → ℕ → Section
section kind identifier documents next =
    record { kind = kind; identifier = identifier; documents = documents; next = next }

abbrev pub end_section : ℕ → Section
end_section at = section 0 no_view no_view at

abbrev pub wrong_section : ℕ → Section
wrong_section at = section 255 no_view no_view at

-- the body's document has n bytes
abbrev pub body_place : ℕ → ℕ → Section
body_place at n = section 1 no_view (view (at + 1) n) (at + 1 + n)

-- an identifier and documents of so many bytes
abbrev pub sequence_place : ℕ → ℕ → ℕ → Section
sequence_place at name documents =
    section 2 (view (at + 5) name) (view (at + 6 + name) documents) (at + 6 + name + documents)

-- These bytes follow the kind byte of a document sequence, which is at an offset. They begin with
-- its size and its identifier; or they don't, and no section is told.
pub data IsSequenceSection (rest : List ℕ) (at : ℕ) : Section → Type 0 where
  is_sequence : {s : Section} (name documents : List ℕ) → IsSized rest
      → cstring_at (sequence_rest rest) ≡ Ok (name, documents)
      → s ≡ sequence_place at (length name) (length documents) → IsSequenceSection rest at s
  not_sized : {s : Section} → (IsSized rest → ⊥) → s ≡ wrong_section at
      → IsSequenceSection rest at s
  no_name : {s : Section} (c : BsonCause) → IsSized rest → cstring_at (sequence_rest rest) ≡ Err c
      → s ≡ wrong_section at → IsSequenceSection rest at s

-- These bytes follow the kind byte of a body, which is at an offset. They begin with a length and
-- end with 00; or they don't, and no section is told.
pub data IsBodySection (rest : List ℕ) (at : ℕ) : Section → Type 0 where
  is_body : {s : Section} (body after : List ℕ) → document_at 0 0 rest ≡ Ok (body, after)
      → s ≡ body_place at (length body + 5) → IsBodySection rest at s
  no_body : {s : Section} (f : BsonFault) → document_at 0 0 rest ≡ Err f → s ≡ wrong_section at
      → IsBodySection rest at s

-- The section whose kind byte is at an offset; or that none stands there.
pub data IsSection (bytes : List ℕ) (at : ℕ) : Section → Type 0 where
  past_end : {s : Section} → length bytes < at → s ≡ wrong_section at → IsSection bytes at s
  ends : {s : Section} → at ≡ length bytes → s ≡ end_section at → IsSection bytes at s
  of_body : {s : Section} (rest : List ℕ) → drop at bytes ≡ 0 ∷ rest → IsBodySection rest at s
      → IsSection bytes at s
  of_sequence : {s : Section} (rest : List ℕ) → drop at bytes ≡ 1 ∷ rest
      → IsSequenceSection rest at s → IsSection bytes at s
  of_kind : {s : Section} (kind : ℕ) (rest : List ℕ) → drop at bytes ≡ kind ∷ rest → kind ≢ 0
      → kind ≢ 1 → s ≡ wrong_section at → IsSection bytes at s

-- the sections from an offset on are these
abbrev pub SectionsFrom : List ℕ → ℕ → Seen → Type 0
SectionsFrom bytes at left =
    (at ≤ length bytes) × AreSeen left × (drop at bytes ≡ seen_bytes left)

-- the section is this document sequence
pub record ShowsSequence (bytes : List ℕ) (s : Section) (q : Sequence) : Type 0 where
  pub kind : s.kind ≡ 2
  pub identifier : IsView bytes s.identifier q.identifier
  pub documents : IsView bytes s.documents (documents_bytes q.documents)

-- the first of these sections is given, and the others are left; or there is none
abbrev pub GivesSection : List ℕ → Section → Seen → Type 0
GivesSection bytes s (no_body_yet []) = s.kind ≡ 0
GivesSection bytes s (no_body_yet (q ∷ qs)) =
    ShowsSequence bytes s q × SectionsFrom bytes s.next (no_body_yet qs)
GivesSection bytes s (body_seen [] body after) =
    (s.kind ≡ 1) × IsView bytes s.documents (document (elements body))
    × SectionsFrom bytes s.next (no_body_yet after)
GivesSection bytes s (body_seen (q ∷ qs) body after) =
    ShowsSequence bytes s q × SectionsFrom bytes s.next (body_seen qs body after)
