-- What is noted of cursors where answers of the server are taken for recorded ones.
use Rattle.std.specs.Prelude.{◌≡◌, ℕ, ℤ, List, [], ◌∷◌, Option}
use Rattle.replay.specs.Carried.{IsCursorOf, noted_both}
use Rattle.replay.specs.declared.cursors.Cursor.{Cursor}
use Rattle.replay.specs.declared.finding.Finding.{Finding}
use Rattle.replay.specs.declared.finding.Finding.TheVariants.{Compare, Failed, Late, Missing}
use Rattle.replay.specs.declared.finding.Finding.TheVariants.{Unexpected, Unrecorded}

-- By an answer of the record, and one of the server that was taken for it, the id on the server of
-- their cursor was noted, if both have one.
abbrev pub NotesBoth : (recorded received : List ℕ) → (old new : List Cursor) → Type 0
NotesBoth recorded received old new =
    (x y : Option ℤ) × IsCursorOf recorded x × IsCursorOf received y
    × (new ≡ noted_both x y old)

-- Two answers were taken for each other, or nothing was noted.
abbrev pub IsNoted : Finding → (old new : List Cursor) → Type 0
IsNoted (Compare a b) old new = NotesBoth a.bytes.items b.bytes.items old new
IsNoted (Missing a) old new = new ≡ old
IsNoted (Late b) old new = new ≡ old
IsNoted (Unexpected b) old new = new ≡ old
IsNoted (Unrecorded b) old new = new ≡ old
IsNoted (Failed broken) old new = new ≡ old

-- All of them were noted, one after another.
abbrev pub AreNoted : List Finding → (old new : List Cursor) → Type 0
AreNoted [] old new = new ≡ old
AreNoted (f ∷ fs) old new =
    (between : List Cursor) × IsNoted f old between × AreNoted fs between new
