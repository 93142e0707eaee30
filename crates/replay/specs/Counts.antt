-- What a replay counts, and what it came to.
use Rattle.std.specs.Prelude.{◌≡◌, ◌+◌, ◌⊎◌, ℕ, List, [], ◌∷◌, None, Option, is_some, min, true}
use Rattle.replay.specs.declared.finding.Finding.{Finding}
use Rattle.replay.specs.declared.finding.Finding.TheVariants.{Compare, Failed, Late, Missing}
use Rattle.replay.specs.declared.finding.Finding.TheVariants.{Unexpected, Unrecorded}
use Rattle.replay.specs.declared.input_fault.InputFault.{InputFault}
use Rattle.replay.specs.declared.replaying.Outcome.{Outcome}
use Rattle.replay.specs.declared.replaying.Outcome.TheVariants.{Different, Fault, Same}
use Rattle.replay.specs.declared.tally.Tally.{Tally}

-- one more, up to the most that a count can be
abbrev pub one_more : ℕ → ℕ
one_more n = min (n + 1) 18446744073709551615

-- An answer was compared: it was counted as the same where this holds, and else as different.
-- Nothing else was counted.
abbrev pub HasCounted : Type 0 → Tally → Tally → Type 0
HasCounted IsSame before after =
    (IsSame → after ≡ record before { same = one_more before.same })
    × (¬ IsSame → after ≡ record before { different = one_more before.different })

-- No answer differs, is missing or is unexpected, and no connection failed. Late answers are among
-- the missing ones, and those that weren't recorded are no difference.
abbrev pub AreAllSame : Tally → Type 0
AreAllSame t = (t.different ≡ 0) × (t.missing ≡ 0) × (t.unexpected ≡ 0) × (t.failed ≡ 0)

-- It is what these counts say, or that the file has a fault.
abbrev pub IsOutcome : Option InputFault → Tally → Outcome → Type 0
IsOutcome fault t Same = (fault ≡ None) × AreAllSame t
IsOutcome fault t Different = (fault ≡ None) × ¬ AreAllSame t
IsOutcome fault t Fault = is_some fault ≡ true

-- An answer was counted by what was found of it. Two that were compared are the same or different.
abbrev pub IsCounted : Finding → Tally → Tally → Type 0
IsCounted (Compare a b) before after =
    (after ≡ record before { same = one_more before.same })
    ⊎ (after ≡ record before { different = one_more before.different })
IsCounted (Missing a) before after = after ≡ record before { missing = one_more before.missing }
IsCounted (Late b) before after = after ≡ record before { late = one_more before.late }
IsCounted (Unexpected b) before after =
    after ≡ record before { unexpected = one_more before.unexpected }
IsCounted (Unrecorded b) before after =
    after ≡ record before { unrecorded = one_more before.unrecorded }
IsCounted (Failed broken) before after = after ≡ record before { failed = one_more before.failed }

-- All of them were counted, one after another, and nothing else.
abbrev pub AreCounted : List Finding → Tally → Tally → Type 0
AreCounted [] before after = after ≡ before
AreCounted (f ∷ fs) before after =
    (between : Tally) × IsCounted f before between × AreCounted fs between after

-- Some findings were counted, and nothing else.
pub record HasTold (before after : Tally) : Type 0 where
  pub found : List Finding
  pub counted : AreCounted found before after
