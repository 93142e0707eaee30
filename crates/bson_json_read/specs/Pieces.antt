-- What a reader holds of an input of several texts that comes in pieces.
use Rattle.std.specs.Prelude.{◌≡◌, ◌⊎◌, ℕ, ◌+◌, ◌<◌, ◌≤◌, List, [], ◌∷◌, ◌++◌, Bool, true, drop}
use Rattle.std.specs.Prelude.{length, take}
use Rattle.bson_json_read.specs.declared.frame.Frame.{Frame}
use Rattle.bson_json_read.specs.declared.place.Place.{Place}
use Rattle.bson_json_read.specs.declared.text_reader.Begun.{Begun}
use Rattle.bson_json_read.specs.Extents.{HasPassed, text_len}
use Rattle.bson_json_read.specs.Places.{place_behind}
use Rattle.bson_json_read.specs.Sequences.{next_in, text_here}

-- where reading stands, the line and the column of the first held byte, and the held bytes
pub record Held : Type 0 where
  pub frame : Frame
  pub place : ℕ × ℕ
  pub bytes : List ℕ

-- such bytes may follow: none behind the last ones
abbrev pub MayFollow : Bool → List ℕ → Type 0
MayFollow last more = last ≡ true → more ≡ []

-- the text that is next begins in the held bytes, whatever follows, and its end wasn't found yet
pub record IsBegun (frame : Frame) (bytes : List ℕ) (b : Begun) : Type 0 where
  pub inside : b.passed < length bytes
  pub next : (more : List ℕ)
      → next_in frame (bytes ++ more) ≡ text_here b.frame (drop b.passed bytes ++ more)
  pub scanned : HasPassed b.scan (drop b.passed bytes)

-- the text that begins here ends behind so many bytes
pub record EndsIn (last : Bool) (text : List ℕ) (n : ℕ) : Type 0 where
  pub some : 0 < n
  pub inside : n ≤ length text
  pub whatever : (more : List ℕ) → MayFollow last more → text_len (text ++ more) ≡ n

-- the place is that of a held byte, or of the one behind them
abbrev pub StandsBehind : Held → Place → Type 0
StandsBehind h p =
    (n : ℕ) × (n ≤ length h.bytes)
    × ((p.line, p.column) ≡ place_behind h.place.0 h.place.1 (take n h.bytes))

-- The first n held bytes were dropped, and the place is that of the byte after them.
pub record MovesBy (n : ℕ) (old new : Held) : Type 0 where
  pub inside : n ≤ length old.bytes
  pub place : new.place ≡ place_behind old.place.0 old.place.1 (take n old.bytes)
  pub bytes : new.bytes ≡ drop n old.bytes

-- the bytes end between texts: what follows is what is next behind them
abbrev pub EndsBetween : Frame → List ℕ → Type 0
EndsBetween frame bytes =
    (behind : Frame) × ((more : List ℕ) → next_in frame (bytes ++ more) ≡ next_in behind more)

-- the bytes end inside the text that is next: whatever byte follows belongs to it
abbrev pub EndsInside : Frame → List ℕ → Type 0
EndsInside frame bytes =
    (here : Frame) × (text : List ℕ) × (next_in frame bytes ≡ text_here here text)
    × ((b : ℕ) → text_len (text ++ b ∷ []) ≡ length text + 1)

-- The bytes don't settle what the next text is: they end between two texts, or inside one.
abbrev pub IsOpen : Frame → List ℕ → Type 0
IsOpen frame bytes = EndsBetween frame bytes ⊎ EndsInside frame bytes
