-- Two runs of sequences, one after the other.
use Rattle.std.proofs.Common.{◌≡◌, ◌≢◌, ℕ, ◌+◌, List, [], ◌∷◌, ◌++◌, length, refl, sym, ap, ◌∙◌, arith}
use Rattle.std.proofs.lemmas.List.{append-nil}
use Rattle.wire_msg.specs.Messages.{Sequence, AreSequences}
use Rattle.wire_msg.specs.Spelling.{sequences_bytes}
use Rattle.wire_msg.specs.Known.{AreRuns}
use Rattle.wire_msg.proofs.ReadLaws.{length-sequence}
use Rattle.wire_msg.proofs.DocumentLaws.{nothing}
use Rattle.std.proofs.lemmas.List.{length-append}
use Rattle.wire_msg.specs.Spelling.{sequence_section}

pub no_bytes : (bytes : List ℕ) (qs : List Sequence) → bytes ≡ sequences_bytes qs → length bytes ≡ 0 → qs ≡ []
no_bytes bytes [] is none = refl
no_bytes bytes (q ∷ qs) is none = absurd (omega (arith, none, ap length is, length-append (sequence_section q) (sequences_bytes qs), length-sequence q))

-- the second run in place of the first
pub second_run : (bytes then : List ℕ) (qs : List Sequence) → length bytes ≡ 0 → AreRuns bytes then qs → AreRuns then [] qs
second_run bytes then qs none r = record {
  first = r.last;
  last = [];
  first_fit = r.last_fit;
  last_fit = tt;
  first_are = r.last_are;
  last_are = refl;
  all = r.all ∙ ap (λ (x : List Sequence). x ++ r.last) (no_bytes bytes r.first r.first_are none) ∙ sym (append-nil r.last);
}

pub no_runs : (bytes then : List ℕ) (qs : List Sequence) → length bytes ≡ 0 → length then ≡ 0 → AreRuns bytes then qs → qs ≡ []
no_runs bytes then qs none also r = r.all ∙ ap (λ (x : List Sequence). x ++ r.last) (no_bytes bytes r.first r.first_are none) ∙ no_bytes then r.last r.last_are also

-- runs without bytes
pub used_up : (bytes then : List ℕ) → length bytes + length then ≡ 0 → AreRuns bytes then []
used_up bytes then none = record {
  first = [];
  last = [];
  first_fit = tt;
  last_fit = tt;
  first_are = nothing bytes (omega (arith, none));
  last_are = nothing then (omega (arith, none));
  all = refl;
}

-- the first sequence of a run that isn't empty
pub record FirstOf (bytes then : List ℕ) (qs : List Sequence) : Type 0 where
  pub sequence : Sequence
  pub rest : List Sequence
  pub last : List Sequence
  pub fits : AreSequences (sequence ∷ rest)
  pub last_fit : AreSequences last
  pub first_are : bytes ≡ sequences_bytes (sequence ∷ rest)
  pub last_are : then ≡ sequences_bytes last
  pub all : qs ≡ sequence ∷ (rest ++ last)

first_cases : (bytes then : List ℕ) (qs first last : List Sequence) → length bytes ≢ 0 → AreSequences first → AreSequences last → bytes ≡ sequences_bytes first → then ≡ sequences_bytes last → qs ≡ first ++ last → FirstOf bytes then qs
first_cases bytes then qs [] last some f g is are all = absurd (some (ap length is))
first_cases bytes then qs (q ∷ rest) last some f g is are all = record { sequence = q; rest = rest; last = last; fits = f; last_fit = g; first_are = is; last_are = are; all = all }

pub first_of_runs : (bytes then : List ℕ) (qs : List Sequence) → length bytes ≢ 0 → AreRuns bytes then qs → FirstOf bytes then qs
first_of_runs bytes then qs some r = first_cases bytes then qs r.first r.last some r.first_fit r.last_fit r.first_are r.last_are r.all
