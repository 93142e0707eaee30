-- Which request an answer answers, and when requests were recorded.
use Rattle.std.specs.Prelude.{◌++◌, ◌==◌, ℕ, Bool, List, [], ◌∷◌, drop, find, if◌then◌else◌, length}
use Rattle.std.specs.Prelude.{nat_lt, option_map, unwrap_or}
use Rattle.replay.specs.Firsts.{without_first}
use Rattle.replay.specs.declared.asked.Request.{Request}
use Rattle.replay.specs.declared.follows.Follow.{Follow}

-- The request that an answer with this responseTo answers: the one of the answer with that id
-- behind which another one comes, if there is such an answer, and else the one with that id.
abbrev pub request_of : ℕ → List Follow → ℕ
request_of response_to follows =
    unwrap_or (option_map (λ f. f.request) (find (λ f. f.id == response_to) follows)) response_to

-- the answers without the first one to this request
abbrev pub forgotten : ℕ → List Follow → List Follow
forgotten request follows = without_first (λ f. f.request == request) follows

-- the answers behind which another one comes, once one with this id and responseTo came
abbrev pub noted : ℕ → ℕ → Bool → List Follow → List Follow
noted id response_to more follows =
    let request = request_of response_to follows in
    if more then forgotten request follows ++ record { id = id; request = request } ∷ []
    else forgotten request follows

-- the requests, without the first one if there are 1,024
abbrev pub with_room : List Request → List Request
with_room requests = if nat_lt (length requests) 1024 then requests else drop 1 requests
