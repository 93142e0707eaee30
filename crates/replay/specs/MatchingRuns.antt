-- What becomes of a connection's answers, whichever come when.
use Rattle.std.specs.Prelude.{◌≡◌, ◌⊎◌, ◌++◌, ℕ, List, [], ◌∷◌, flat_map, if◌then◌else◌}
use Rattle.replay.specs.declared.answers.Answer.{Answer}
use Rattle.replay.specs.declared.finding.Finding.{Finding}
use Rattle.replay.specs.declared.channel.Broken.{Broken}
use Rattle.replay.specs.declared.finding.Finding.TheVariants.{Compare, Failed, Late, Missing}
use Rattle.replay.specs.declared.finding.Finding.TheVariants.{Unexpected, Unrecorded}
use Rattle.replay.specs.Matchings.{Seen, asked, expected, given_up, is_to, met}

-- what happens on a connection
pub data Act : Type 0 where
  -- a request with this id is sent
  ask : ℕ → Act
  -- a recorded answer is read
  expect : Answer → Act
  -- one of the server comes
  meet : Answer → Act
  -- time goes on to this moment
  give_up : ℕ → Act
  -- nothing more goes over the connection to the server
  fail : Broken → Act

-- what is left behind an act, and what is found by it
abbrev pub step : Seen → Act → Seen × List Finding
step s (ask id) = asked id s
step s (expect a) = expected a s
step s (meet b) = met b s
step s (give_up now) = given_up now s
step s (fail broken) = (s, Failed broken ∷ [])

-- what is left behind the acts, one after another
abbrev pub after_acts : Seen → List Act → Seen
after_acts s [] = s
after_acts s (act ∷ acts) = after_acts (step s act).0 acts

-- what is found by them
abbrev pub found_by : Seen → List Act → List Finding
found_by s [] = []
found_by s (act ∷ acts) = (step s act).1 ++ found_by (step s act).0 acts

-- the bytes of the answers to the request, in order
abbrev pub bytes_to : ℕ → List Answer → List (List ℕ)
bytes_to request [] = []
bytes_to request (a ∷ zs) =
    if is_to request a then a.bytes.items ∷ bytes_to request zs else bytes_to request zs

-- the recorded answers that were compared or found missing
abbrev pub recorded_in : Finding → List Answer
recorded_in (Compare a b) = a ∷ []
recorded_in (Missing a) = a ∷ []
recorded_in (Late b) = []
recorded_in (Unexpected b) = []
recorded_in (Unrecorded b) = []
recorded_in (Failed broken) = []

-- the recorded answers that an act reads
abbrev pub read_in : Act → List Answer
read_in (ask id) = []
read_in (expect a) = a ∷ []
read_in (meet b) = []
read_in (give_up now) = []
read_in (fail broken) = []

abbrev pub recorded_by : List Finding → List Answer
recorded_by findings = flat_map recorded_in findings

abbrev pub read_by : List Act → List Answer
read_by acts = flat_map read_in acts

-- Of each request, no recorded answer is awaited while one of the server is kept.
abbrev pub IsOneSided : Seen → Type 0
IsOneSided s =
    (request : ℕ) → (bytes_to request s.awaited ≡ []) ⊎ (bytes_to request s.early ≡ [])

-- ---- what was done

-- These acts were done, and what they find was found, and nothing else.
pub record Does (acts : List Act) (old new : Seen) (before after : List Finding) : Type 0 where
  pub state : new ≡ after_acts old acts
  pub found : after ≡ before ++ found_by old acts

-- Some acts were done.
abbrev pub DoesSome : (old new : Seen) → (before after : List Finding) → Type 0
DoesSome old new before after = (acts : List Act) × Does acts old new before after
