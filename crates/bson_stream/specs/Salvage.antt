-- The documents that are found in bytes of which some are damaged.
use Rattle.std.specs.Prelude.{◌≡◌, ◌≢◌, ◌⊎◌, ℕ, ◌+◌, ◌≤◌, List, [], ◌∷◌, ◌++◌, length}
use Rattle.bson_elem.specs.declared.fault.BsonFault.{BsonFault}
use Rattle.bson_elem.specs.{FrontFault, Spells, Tree}
use Rattle.bson_stream.specs.declared.gap.Gap.{Gap}
use Rattle.bson_stream.specs.declared.gap.GapFault.{GapFault}
use Rattle.bson_stream.specs.declared.gap.GapFault.TheVariants.{Bson, TooLong}
use Rattle.bson_stream.specs.Readers.{AnnouncesMore}
use Rattle.bson_stream.specs.Standing.{in_stream}

-- a document of at most so many bytes stands at the front
abbrev pub BeginsDocument : ℕ → List ℕ → Type 0
BeginsDocument limit bytes =
    (t : Tree) × (b after : List ℕ) × Spells t b × (length b ≤ limit) × (bytes ≡ b ++ after)

-- Such a document begins at none of the first bytes, behind which the others follow.
abbrev pub NoneBegins : ℕ → List ℕ → List ℕ → Type 0
NoneBegins limit [] after = Unit {0}
NoneBegins limit (b ∷ skipped) after =
    (BeginsDocument limit (b ∷ (skipped ++ after)) → ⊥) × NoneBegins limit skipped after

-- Why none begins with bytes that begin at this offset: a good length above the limit is in front;
-- else their first fault, at its offset in the stream.
abbrev pub IsGapFault : ℕ → ℕ → List ℕ → GapFault → Type 0
IsGapFault limit start bytes TooLong = AnnouncesMore limit bytes
IsGapFault limit start bytes (Bson f) =
    (AnnouncesMore limit bytes → ⊥)
    × ((own : BsonFault) × FrontFault bytes own × (f ≡ in_stream start own))

-- one part of a stream: the document at an offset, or a gap
pub data Part : Type 0 where
  a_document : ℕ → Tree → Part
  a_gap : Gap → Part

-- The front of bytes that begin at this offset is these parts, and behind them is this rest. Where
-- a document of at most `limit` bytes stands, it is the next part, and what follows it is looked at
-- behind it. Elsewhere the next part is a gap: it has the fault of its first byte's offset, and
-- ends where the next such document begins, or else at the end.
pub data Salvages (limit : ℕ) : ℕ → List ℕ → List Part → List ℕ → Type 0 where
  no_more : {start : ℕ} {bytes : List ℕ} → Salvages limit start bytes [] bytes
  at_document : {start : ℕ} {bytes rest : List ℕ} {parts : List Part} (t : Tree) (b after : List ℕ)
      → Spells t b → length b ≤ limit → bytes ≡ b ++ after
      → Salvages limit (start + length b) after parts rest
      → Salvages limit start bytes (a_document start t ∷ parts) rest
  at_gap : {start : ℕ} {bytes rest : List ℕ} {parts : List Part} (f : GapFault)
      (skipped after : List ℕ) → skipped ≢ [] → bytes ≡ skipped ++ after
      → NoneBegins limit skipped after → IsGapFault limit start bytes f
      → (after ≡ []) ⊎ BeginsDocument limit after
      → Salvages limit (start + length skipped) after parts rest
      → Salvages limit start bytes
      (a_gap (record { from = start; to = start + length skipped; fault = f }) ∷ parts) rest

-- the bytes are these parts: the documents in them, and the gaps
abbrev pub AreParts : ℕ → List ℕ → List Part → Type 0
AreParts limit bytes parts = Salvages limit 0 bytes parts []
