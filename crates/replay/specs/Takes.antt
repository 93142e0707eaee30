-- What the records of a file give to each connection to the server.
use Rattle.std.specs.Prelude.{◌++◌, ◌==◌, ℕ, List, [], ◌∷◌, Option, None, Some, find, flat_map}
use Rattle.std.specs.Prelude.{if◌then◌else◌, map}

-- A record is taken: the number of its connection, and its request as it is sent, if it has one.
pub record Take : Type 0 where
  pub number : ℕ
  pub requests : List (List ℕ)

-- a connection to the server: the number of the recorded one, and the requests that it was given
pub record Lane : Type 0 where
  pub number : ℕ
  pub given : List (List ℕ)

-- A record goes to the first connection of its number, which is made if there is none.
abbrev pub taken : Take → List Lane → List Lane
taken t [] = record { number = t.number; given = t.requests } ∷ []
taken t (lane ∷ lanes) =
    if lane.number == t.number then record lane { given = lane.given ++ t.requests } ∷ lanes
    else lane ∷ taken t lanes

-- the connections once these records were taken, one after another
abbrev pub after_takes : List Lane → List Take → List Lane
after_takes lanes [] = lanes
after_takes lanes (t ∷ ts) = after_takes (taken t lanes) ts

-- the requests that a record has of the connection of this number
abbrev pub requests_in : ℕ → Take → List (List ℕ)
requests_in number t = if t.number == number then t.requests else []

-- the requests of the recorded connection of this number, in order
abbrev pub requests_of : ℕ → List Take → List (List ℕ)
requests_of number ts = flat_map (requests_in number) ts

-- the requests that a connection was given, if there is one
abbrev pub given_of : Option Lane → List (List ℕ)
given_of None = []
given_of (Some lane) = lane.given

-- the requests that the connection of this number was given, in order
abbrev pub given_to : ℕ → List Lane → List (List ℕ)
given_to number lanes = given_of (find (λ lane. lane.number == number) lanes)
