-- What a salvager holds, and what it has found so far.
use Rattle.std.specs.Prelude.{◌≡◌, ◌≢◌, ◌⊎◌, ℕ, ◌+◌, ◌*◌, ◌^◌, ◌<◌, ◌≤◌, List, [], ◌∷◌, ◌++◌}
use Rattle.std.specs.Prelude.{Bool, true, false, Option, None, Some, drop, length, take}
use Rattle.bson_raw.specs.{IsSpelled}
use Rattle.bson_stream.specs.declared.gap.Find.{Find}
use Rattle.bson_stream.specs.declared.gap.Find.TheVariants as find
use Rattle.bson_stream.specs.declared.gap.GapFault.{GapFault}
use Rattle.bson_stream.specs.declared.gap.GapStart.{GapStart}
use Rattle.bson_stream.specs.declared.reader_state.ReadRefusal.{ReadRefusal}
use Rattle.bson_stream.specs.declared.reader_state.ReadRefusal.TheVariants.{OutOfMemory}
use Rattle.bson_stream.specs.declared.reader_state.ReadRefusal.TheVariants.{TooFar, TooLong}
use Rattle.bson_stream.specs.declared.seek.Ahead.{Ahead}
use Rattle.bson_stream.specs.declared.seek.Ahead.TheVariants.{Open, Document, Fault}
use Rattle.bson_stream.specs.declared.seek.Stand.{Stand}
use Rattle.bson_stream.specs.declared.seek.Stand.TheVariants as stand
use Rattle.bson_stream.specs.declared.seek.Sought.{Sought}
use Rattle.bson_stream.specs.Readers.{AnnouncesMore, TellsForm}
use Rattle.bson_stream.specs.Salvage.{BeginsDocument, IsGapFault, NoneBegins, Part, Salvages}
use Rattle.bson_stream.specs.Salvage.{a_gap}
use Rattle.bson_stream.specs.Standing.{IsOpen}

-- what a caller sees of a salvager: the greatest length of a document, the offset of the first held
-- byte in the stream, the held bytes, the gap in which they begin, if they do, and how many bytes
-- there is memory for
pub record Salvaging : Type 0 where
  pub limit : ℕ
  pub start : ℕ
  pub held : List ℕ
  pub gap : Option GapStart
  pub room : ℕ

-- what may follow the bytes of a stream: anything, or nothing if it has ended
abbrev pub MayFollow : Bool → List ℕ → Type 0
MayFollow ended more = ended ≡ true → more ≡ []

-- more bytes decide whether a document of at most so many bytes stands at the front
abbrev pub IsUndecided : ℕ → List ℕ → Type 0
IsUndecided limit bytes = IsOpen bytes × (AnnouncesMore limit bytes → ⊥)

-- the first bytes are a document, and this is its length and its form
abbrev pub IsDocumentOf : ℕ → List ℕ → ℕ → Bool → Type 0
IsDocumentOf limit bytes len canonical =
    (len ≤ length bytes) × (len ≤ limit) × IsSpelled (take len bytes)
    × TellsForm (take len bytes) canonical

-- what stands at the front of bytes that begin at this offset, whatever may follow
abbrev pub IsFront : ℕ → Bool → ℕ → List ℕ → Ahead → Type 0
IsFront limit ended start bytes Open = (ended ≡ false) × IsUndecided limit bytes
IsFront limit ended start bytes (Document len canonical) = IsDocumentOf limit bytes len canonical
IsFront limit ended start bytes (Fault f) =
    (more : List ℕ) → MayFollow ended more
    → IsGapFault limit start (bytes ++ more) f × (BeginsDocument limit (bytes ++ more) → ⊥)

-- The gap behind the first n bytes, which begin at this offset, at none of which a document begins:
-- the one in which the bytes begin; else, if n isn't 0, one that begins with them.
abbrev pub IsGapBehind : ℕ → Bool → ℕ → List ℕ → ℕ → Option GapStart → Option GapStart → Type 0
IsGapBehind limit ended start bytes n (Some g) gap = gap ≡ Some g
IsGapBehind limit ended start bytes n None None = n ≡ 0
IsGapBehind limit ended start bytes n None (Some g) =
    (0 < n) × (g.from ≡ start)
    × ((more : List ℕ) → MayFollow ended more → IsGapFault limit start (bytes ++ more) g.fault)

-- the gap that goes on at an offset with this fault, or begins there
abbrev pub gap_on : Option GapStart → ℕ → GapFault → Option GapStart
gap_on None from f = Some (record { from = from; fault = f })
gap_on (Some g) from f = Some g

-- no document begins at the first n bytes, whatever may follow
abbrev pub NoneInFront : ℕ → Bool → ℕ → List ℕ → Type 0
NoneInFront limit ended n bytes =
    (more : List ℕ) → MayFollow ended more → NoneBegins limit (take n bytes) (drop n bytes ++ more)

-- what stands behind the bytes that were passed over: more bytes decide, or a document, or the end
abbrev pub IsStand : ℕ → Bool → List ℕ → Stand → Type 0
IsStand limit ended bytes stand.Open = (ended ≡ false) × IsUndecided limit bytes
IsStand limit ended bytes (stand.Document len canonical) = IsDocumentOf limit bytes len canonical
IsStand limit ended bytes stand.End = bytes ≡ []

-- The bytes at which no document begins were passed over, up to one or to where more bytes decide.
pub record IsSought (limit : ℕ) (ended : Bool) (start : ℕ) (bytes : List ℕ)
    (gap : Option GapStart) (s : Sought) : Type 0 where
  pub within : s.passed ≤ length bytes
  pub none : NoneInFront limit ended s.passed bytes
  pub gap_is : IsGapBehind limit ended start bytes s.passed gap s.gap
  pub stand_is : IsStand limit ended (drop s.passed bytes) s.stand

-- What is found behind bytes that were passed over, and the gap that goes on there: a gap ends
-- where a document stands, or at the end of the stream.
abbrev pub IsOutcome : Bool → ℕ → Sought → Option GapStart → Find → Type 0
IsOutcome ended to s gap find.Nothing =
    (gap ≡ s.gap)
    × ((s.stand ≡ stand.Open) ⊎ ((s.stand ≡ stand.End) × (ended ≡ true → s.gap ≡ None)))
IsOutcome ended to s gap (find.Gap g) =
    (gap ≡ None) × (s.gap ≡ Some (record { from = g.from; fault = g.fault })) × (g.to ≡ to)
    × (((len : ℕ) × (canonical : Bool) × (s.stand ≡ stand.Document len canonical))
    ⊎ ((s.stand ≡ stand.End) × (ended ≡ true)))
IsOutcome ended to s gap (find.Document len canonical) =
    (gap ≡ None) × (s.gap ≡ None) × (s.stand ≡ stand.Document len canonical)

-- the gap in which the held bytes begin has these bytes so far, which are none if there is no gap
abbrev pub IsInGap : Bool → Salvaging → List ℕ → Option GapStart → Type 0
IsInGap ended s skipped None = skipped ≡ []
IsInGap ended s skipped (Some g) =
    (skipped ≢ []) × (g.from + length skipped ≡ s.start)
    × ((more : List ℕ) → MayFollow ended more
    → IsGapFault s.limit g.from ((skipped ++ s.held) ++ more) g.fault)

-- These bytes were fed, and these parts were told: the first ones, whatever may follow. Behind them
-- are the bytes of the gap so far, and what is held.
pub record SoFar (ended : Bool) (fed : List ℕ) (told : List Part) (s : Salvaging) : Type 0 where
  pub skipped : List ℕ
  pub parts : (more : List ℕ) → MayFollow ended more
      → Salvages s.limit 0 (fed ++ more) told ((skipped ++ s.held) ++ more)
  pub none : (more : List ℕ) → MayFollow ended more → NoneBegins s.limit skipped (s.held ++ more)
  pub in_gap : IsInGap ended s skipped s.gap
  pub size : s.start + length s.held ≡ length fed

-- Nothing more is to be told: more bytes decide, or the stream has ended and all was told.
abbrev pub IsSettled : Bool → Salvaging → Type 0
IsSettled ended s =
    (ended ≡ false → IsUndecided s.limit s.held)
    × (ended ≡ true → (s.held ≡ []) × (s.gap ≡ None))

-- what was found behind the parts that were told: nothing; a gap, which is the next part; or a
-- document, which is held
abbrev pub IsFound : Bool → List ℕ → List Part → Salvaging → Find → Type 0
IsFound ended fed told s find.Nothing = SoFar ended fed told s × IsSettled ended s
IsFound ended fed told s (find.Gap g) = SoFar ended fed (told ++ a_gap g ∷ []) s
IsFound ended fed told s (find.Document len canonical) =
    SoFar ended fed told s × (s.gap ≡ None) × IsDocumentOf s.limit s.held len canonical

-- what is left to go over: the held bytes, and the gap that hasn't ended
abbrev pub open_gaps : Option GapStart → ℕ
open_gaps None = 0
open_gaps (Some g) = 1

abbrev pub left_of : Salvaging → ℕ
left_of s = 2 * length s.held + open_gaps s.gap

-- a search leaves no more, and less where it found a gap
abbrev pub LeavesLess : Salvaging → Salvaging → Find → Type 0
LeavesLess old new (find.Gap g) = left_of new < left_of old
LeavesLess old new _ = left_of new ≤ left_of old

-- why a salvager took nothing of the piece
abbrev pub IsNotFed : Salvaging → List ℕ → ReadRefusal → Type 0
IsNotFed s piece OutOfMemory = s.room < length s.held + length piece
IsNotFed s piece TooLong = ⊥
IsNotFed s piece TooFar = 2 ^ 64 ≤ s.start + length s.held + length piece

-- The parts of a stream of which these bytes have come, as far as they are decided: behind them is
-- the beginning of a gap, or nothing, and then bytes of which more decide whether a document begins
-- with them.
abbrev pub ArePartsSoFar : ℕ → List ℕ → List Part → Type 0
ArePartsSoFar limit bytes parts =
    (skipped held : List ℕ)
    × ((more : List ℕ) → Salvages limit 0 (bytes ++ more) parts ((skipped ++ held) ++ more))
    × ((more : List ℕ) → NoneBegins limit skipped (held ++ more)) × IsUndecided limit held
