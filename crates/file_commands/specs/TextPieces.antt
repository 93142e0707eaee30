-- The documents of texts that come piece by piece.
use Rattle.std.specs.Prelude.{◌≡◌, ℕ, List, ◌++◌, length, [], Bool, false, true, Option}
use Rattle.std.specs.Prelude.{None}
use Rattle.std.specs.Io.KnownBytes.{Appends}
use Rattle.bson_json_read.specs.declared.frame.Frame.TheVariants.{Start}
use Rattle.bson_json_read.specs.{Held, IsOpen, Left, MayFollow, Pair, ReadsTo}
use Rattle.bson_json_read.specs.{place_behind}
use Rattle.file_commands.specs.declared.texts.Passed.{Passed}
use Rattle.file_commands.specs.declared.texts.Passed.TheVariants.{Wanted, Over}
use Rattle.file_commands.specs.BsonOf.{IsPlaced, StopsAt, bytes_of_each}

-- what is left where these bytes are held, and more follow
abbrev pub left_of : Held → List ℕ → Left
left_of h more = record { frame = h.frame; rest = h.bytes ++ more }

-- nothing was read or written
abbrev pub IsBegun : ℕ → Held → Type 0
IsBegun count h = (count ≡ 0) × (h ≡ record { frame = Start; place = (1, 1); bytes = [] })

-- The documents of an input's first texts, so many, were written, and this is left.
abbrev pub Reached : List ℕ → ℕ → Left → Option (List ℕ) → Option (List ℕ) → Type 0
Reached input count left old new =
    (ds : List (List Pair)) × ReadsTo input ds left × (count ≡ length ds)
    × Appends old new (bytes_of_each ds)

-- These bytes of an input came. Whatever follows, the documents of its first texts, so many, were
-- written, and the bytes behind those texts are held.
pub record HaveRead (last : Bool) (read : List ℕ) (count : ℕ) (h : Held)
    (old new : Option (List ℕ)) : Type 0 where
  pub reached : (more : List ℕ) → MayFollow last more
      → Reached (read ++ more) count (left_of h more) old new
  pub before : List ℕ
  pub held : read ≡ before ++ h.bytes
  pub place : h.place ≡ place_behind 1 1 before

-- What became of the texts that came: all that are whole were read, and more may follow; or no more
-- documents are written, for this reason.
abbrev pub IsPassed : Bool → List ℕ → Passed → ℕ → Held → Option (List ℕ) → Option (List ℕ)
    → Type 0
IsPassed last read Wanted count h old new =
    (last ≡ false) × IsOpen h.frame h.bytes × HaveRead last read count h old new
IsPassed last read (Over stop) count h old new =
    (stop ≡ None → last ≡ true) × (from : Held) × HaveRead last read count from old new
    × ((more : List ℕ) → MayFollow last more
    → StopsAt stop count (left_of from more) × IsPlaced (read ++ more) stop)
