-- Which recorded answer one of the server belongs to.
use Rattle.std.specs.Prelude.{◌≡◌, ◌++◌, ◌-◌, ◌==◌, ◌&&◌, not, ℕ, Bool, List, [], ◌∷◌, Option, None}
use Rattle.std.specs.Prelude.{Some, count_by, find, if◌then◌else◌, map, max, nat_le, true}
use Rattle.replay.specs.Firsts.{has, without_first}
use Rattle.replay.specs.declared.answers.Answer.{Answer}
use Rattle.replay.specs.declared.finding.Finding.{Finding}
use Rattle.replay.specs.declared.finding.Finding.TheVariants.{Compare, Late, Missing, Unexpected}
use Rattle.replay.specs.declared.finding.Finding.TheVariants.{Unrecorded}
use Rattle.replay.specs.declared.matching.Matching.{Matching}

-- What is seen of a connection's answers: the recorded ones that are awaited, those that came
-- before their recorded ones; the requests whose last answer wasn't recorded yet; and those whose
-- recorded answer was given up.
pub record Seen : Type 0 where
  pub awaited : List Answer
  pub early : List Answer
  pub open_ids : List ℕ
  pub given_up_ids : List ℕ

abbrev pub seen : Matching → Seen
seen m = record {
  awaited = m.awaited.list.items;
  early = m.early.list.items;
  open_ids = m.«open».ids.items;
  given_up_ids = m.given_up.ids.items;
}

abbrev pub nothing : Seen
nothing = record { awaited = []; early = []; open_ids = []; given_up_ids = [] }

-- ---- the answers to a request

-- whether it is to the request with this id
abbrev pub is_to : ℕ → Answer → Bool
is_to request a = a.request == request

-- the first answer to the request, and the others
abbrev pub first_to : ℕ → List Answer → Option Answer
first_to request xs = find (is_to request) xs

abbrev pub without_first_to : ℕ → List Answer → List Answer
without_first_to request xs = without_first (is_to request) xs

-- how many requests have this id, whether one has, and the others but for the first one that has
abbrev pub count_of : ℕ → List ℕ → ℕ
count_of id ids = count_by (λ other. other == id) ids

abbrev pub has_id : ℕ → List ℕ → Bool
has_id id ids = has (λ other. other == id) ids

abbrev pub without_id : ℕ → List ℕ → List ℕ
without_id id ids = without_first (λ other. other == id) ids

-- ---- time

-- when the first one is no longer awaited, and the last one
abbrev pub first_due : List Answer → Option ℕ
first_due [] = None
first_due (a ∷ xs) = Some a.due

abbrev pub last_due : List Answer → ℕ
last_due [] = 0
last_due (a ∷ []) = a.due
last_due (a ∷ (b ∷ xs)) = last_due (b ∷ xs)

-- the first answers that are no longer awaited, and those behind them
abbrev pub past : ℕ → List Answer → List Answer
past now [] = []
past now (a ∷ xs) = if nat_le a.due now then a ∷ past now xs else []

abbrev pub not_past : ℕ → List Answer → List Answer
not_past now [] = []
not_past now (a ∷ xs) = if nat_le a.due now then not_past now xs else a ∷ xs

-- The first answer leaves if it is no longer awaited. There is none such, or it was that one.
abbrev pub TakesPast : ℕ → List Answer → List Answer → Option Answer → Type 0
TakesPast now old new None = (past now old ≡ []) × (new ≡ old)
TakesPast now old new (Some a) = (nat_le a.due now ≡ true) × (old ≡ a ∷ new)

-- ---- what is done with each

-- whether an answer stays that came before a request with this id: it isn't to such a one, or so
-- many earlier ones aren't answered yet
abbrev pub stays : ℕ → ℕ → Answer → Bool
stays n request a = not (is_to request a && n == 0)

-- how many requests of so many with this id aren't answered behind an answer
abbrev pub left_by : ℕ → Answer → ℕ → ℕ
left_by request a n = if is_to request a && not a.more then n - 1 else n

-- the answers that stay, where so many requests with this id aren't answered yet
abbrev pub within : ℕ → ℕ → List Answer → List Answer
within n request [] = []
within n request (a ∷ xs) =
    (if stays n request a then a ∷ [] else []) ++ within (left_by request a n) request xs

-- the others
abbrev pub beyond : ℕ → ℕ → List Answer → List Answer
beyond n request [] = []
beyond n request (a ∷ xs) =
    (if stays n request a then [] else a ∷ []) ++ beyond (left_by request a n) request xs

-- A request is sent. Answers to its id that came before are none to it: those that no earlier
-- request explains are unexpected.
abbrev pub asked : ℕ → Seen → Seen × List Finding
asked id s =
    let n = count_of id s.open_ids in (
      record s { early = within n id s.early; open_ids = s.open_ids ++ id ∷ [] },
      map (λ a. Unexpected a) (beyond n id s.early),
    )

-- A recorded answer is awaited, no shorter than the one before it.
abbrev pub awaiting : Answer → List Answer → List Answer
awaiting a xs = xs ++ record a { due = max (last_due xs) a.due } ∷ []

-- the requests whose last answer wasn't recorded yet, behind this recorded answer
abbrev pub open_behind : Answer → List ℕ → List ℕ
open_behind a ids = if a.more then ids else without_id a.request ids

-- A recorded answer is compared with the first one to its request that came, or awaited.
abbrev pub paired : Answer → Seen → Option Answer → Seen × List Finding
paired a s None = (record s { awaited = awaiting a s.awaited }, [])
paired a s (Some b) = (
  record s { early = without_first_to a.request s.early },
  Compare a b ∷ [],
)

abbrev pub expected : Answer → Seen → Seen × List Finding
expected a s =
    paired a (record s { open_ids = open_behind a s.open_ids }) (first_to a.request s.early)

-- One of the server is compared with the first recorded one to its request that is awaited, or it
-- is kept.
abbrev pub matched : Answer → Seen → Option Answer → Seen × List Finding
matched b s None = (record s { early = s.early ++ b ∷ [] }, [])
matched b s (Some a) = (
  record s { awaited = without_first_to b.request s.awaited },
  Compare a b ∷ [],
)

-- It comes late where one to its request was given up.
abbrev pub met : Answer → Seen → Seen × List Finding
met b s =
    if has_id b.request s.given_up_ids
    then (record s { given_up_ids = without_id b.request s.given_up_ids }, Late b ∷ [])
    else matched b s (first_to b.request s.awaited)

-- The first recorded answers are given up, as far as they are no longer awaited.
abbrev pub given_up : ℕ → Seen → Seen × List Finding
given_up now s = (
  record s {
    awaited = not_past now s.awaited;
    given_up_ids = s.given_up_ids ++ map (λ a. a.request) (past now s.awaited);
  },
  map (λ a. Missing a) (past now s.awaited),
)

-- what is found of an answer that is left at the end: the record lacks the last answer to its
-- request, or it is unexpected
abbrev pub explained : Answer → List ℕ → Finding
explained a ids = if has_id a.request ids then Unrecorded a else Unexpected a

-- the requests whose last answer wasn't recorded, behind that
abbrev pub open_left : Answer → List ℕ → List ℕ
open_left a ids = if has_id a.request ids then open_behind a ids else ids

-- what is found of all that are left
abbrev pub left_over : List ℕ → List Answer → List Finding
left_over ids [] = []
left_over ids (a ∷ xs) = explained a ids ∷ left_over (open_left a ids) xs
