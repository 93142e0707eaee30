-- What is told of an input that is told by its first bytes, piece by piece.
use Rattle.std.specs.Prelude.{◌≡◌, ℕ, ◌<◌, List, [], ◌++◌, take, Option}
use Rattle.wire_frames.specs.{signature}
use Rattle.file_commands.specs.declared.or_records.OrRecordsReader.{OrRecordsReader}
use Rattle.file_commands.specs.declared.or_records.Sort.{Sort}
use Rattle.file_commands.specs.declared.or_records.Sort.TheVariants.{Undecided, Records, Others}
use Rattle.file_commands.specs.OrRecords.{RecordsOr}
use Rattle.file_commands.specs.Walk.{IsBetween, Tells}

-- the bytes don't begin with the signature
abbrev pub HasNoSignature : List ℕ → Type 0
HasNoSignature bytes = (behind : List ℕ) → bytes ≡ signature ++ behind → ⊥

-- the same, whatever follows the bytes
abbrev pub GetsNoSignature : List ℕ → Type 0
GetsNoSignature bytes = (more : List ℕ) → HasNoSignature (bytes ++ more)

-- What the bytes tell of the sort of their input, behind whose signature these follow.
abbrev pub IsSorted : List ℕ → Sort → List ℕ → Type 0
IsSorted bytes (Undecided n) behind = (n < 8) × (bytes ≡ take n signature)
IsSorted bytes Records behind = bytes ≡ signature ++ behind
IsSorted bytes Others behind = GetsNoSignature bytes

-- Of the first few bytes of the signature, which are not all of it, nothing is told: there are no
-- texts, and what follows decides whether they are at fault.
pub record Waits {R : Type 0} (t : Tells R) : Type 0 where
  pub silent : (n : ℕ) (texts : List ℕ) → n < 8 → t.first (take n signature) texts → texts ≡ []
  pub sound : (n : ℕ) (r : R) (texts line : List ℕ) → n < 8
      → t.is_bad r (take n signature) texts line → ⊥

-- how the two readers stand
abbrev pub StandSorted : {A B : Type 0} → Tells A → Tells B → Sort → A → B → List ℕ → List ℕ
    → Type 0
StandSorted t u (Undecided n) a b read texts =
    (n < 8) × (read ≡ take n signature) × IsBetween t a read texts × IsBetween u b [] []
StandSorted t u Records a b read texts =
    (behind : List ℕ) × (read ≡ signature ++ behind) × IsBetween u b behind texts
StandSorted t u Others a b read texts = GetsNoSignature read × IsBetween t a read texts

-- where bytes end, and their last line
abbrev pub EndSorted : {A B : Type 0} → Tells A → Tells B → Sort → A → B → List ℕ → List ℕ
    → Option (List ℕ) → Type 0
EndSorted t u Records a b bytes texts last =
    (behind : List ℕ) × (bytes ≡ signature ++ behind) × u.ends b behind texts last
EndSorted t u sort a b bytes texts last = HasNoSignature bytes × t.ends a bytes texts last

-- where bytes are at fault, and the line of that
abbrev pub BadSorted : {A B : Type 0} → Tells A → Tells B → Sort → A → B → List ℕ → List ℕ
    → List ℕ → Type 0
BadSorted t u Records a b bytes texts line =
    (behind : List ℕ) × (bytes ≡ signature ++ behind) × u.is_bad b behind texts line
BadSorted t u sort a b bytes texts line = HasNoSignature bytes × t.is_bad a bytes texts line

-- what is told of bytes, where `u` is told of what follows the signature of a file of records, and
-- `t` of other bytes
abbrev pub or_records_tells : {A B : Type 0} → Tells A → Tells B → Tells (OrRecordsReader A B)
or_records_tells t u = record {
  stands = λ r. StandSorted t u r.sort r.others r.records;
  ends = λ r. EndSorted t u r.sort r.others r.records;
  is_bad = λ r. BadSorted t u r.sort r.others r.records;
  first = λ bytes texts.
      RecordsOr (λ behind. u.first behind texts) (λ other. t.first other texts) bytes;
  all = λ bytes texts. RecordsOr (λ behind. u.all behind texts) (λ other. t.all other texts) bytes;
  whole = λ bytes text fault.
      RecordsOr (λ behind. u.whole behind text fault) (λ other. t.whole other text fault) bytes;
}
