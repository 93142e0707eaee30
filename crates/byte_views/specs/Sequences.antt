-- The document sequences of a message, which are put one behind the other into the room of a caller
-- (MongoDB Wire Protocol manual: OP_MSG, sections of kind 1).
use Rattle.std.specs.Prelude.{◌≡◌, ◌≤◌, ◌<◌, ℕ, ◌+◌, ◌^◌, List, [], ◌∷◌, ◌++◌, length, take}
use Rattle.bson_elem.specs.{IsName, Tree, cstring, little}
use Rattle.wire_msg.specs.Messages.{AreSequences, Sequence}
use Rattle.wire_msg.specs.Spelling.{sequences_bytes}
use Rattle.byte_views.specs.declared.build.built.Built.{Built}
use Rattle.byte_views.specs.Appends.{done, no_room, refused}
use Rattle.byte_views.specs.Placing.{placed}

-- a section of kind 1: the size, which counts itself; the identifier; and bytes of documents
abbrev pub section_of : List ℕ → List ℕ → List ℕ
section_of identifier documents =
    1 ∷ (little (4 + length (cstring identifier) + length documents)
    ++ (cstring identifier ++ documents))

-- where the section ends that is put behind so many bytes
abbrev pub section_end : ℕ → List ℕ → List ℕ → ℕ
section_end end identifier documents = end + length (section_of identifier documents)

-- The section is put behind the first bytes of the room; or, for the first of these reasons,
-- nothing changes: there are fewer first bytes, the identifier isn't a name, the bytes would be too
-- many, or the room is too short.
pub data IsSequencePut (room : List ℕ) (end : ℕ) (identifier documents new : List ℕ) (after : ℕ)
    : Built → Type 0 where
  is_put : {w : Built} → IsName identifier → section_end end identifier documents ≤ length room
      → section_end end identifier documents < 2 ^ 31
      → w ≡ done (section_end end identifier documents)
      → new ≡ placed end (section_of identifier documents) room
      → after ≡ section_end end identifier documents
      → IsSequencePut room end identifier documents new after w
  too_short : {w : Built} → IsName identifier → length room < section_end end identifier documents
      → section_end end identifier documents < 2 ^ 31 → end ≤ length room
      → w ≡ no_room (section_end end identifier documents) → new ≡ room → after ≡ end
      → IsSequencePut room end identifier documents new after w
  too_large : {w : Built} → IsName identifier → end ≤ length room
      → 2 ^ 31 ≤ section_end end identifier documents → w ≡ refused 253 → new ≡ room → after ≡ end
      → IsSequencePut room end identifier documents new after w
  no_name : {w : Built} → end ≤ length room → (IsName identifier → ⊥) → w ≡ refused 2
      → new ≡ room → after ≡ end → IsSequencePut room end identifier documents new after w
  out_of_range : {w : Built} → length room < end → w ≡ refused 255 → new ≡ room → after ≡ end
      → IsSequencePut room end identifier documents new after w

-- the first bytes of the room are these document sequences
abbrev pub HoldsSequences : List ℕ → ℕ → List Sequence → Type 0
HoldsSequences room end qs = AreSequences qs × (take end room ≡ sequences_bytes qs)

-- the sequences, and one more with this identifier and these documents
abbrev pub with_sequence : List Sequence → List ℕ → List Tree → List Sequence
with_sequence qs identifier ts = qs ++ record { identifier = identifier; documents = ts } ∷ []
