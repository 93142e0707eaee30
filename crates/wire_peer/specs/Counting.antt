-- The answers that count.
use Rattle.std.specs.Prelude.{ℕ, zero, suc, pos, ◌+◌, List, [], ◌∷◌, Option, Some, codes, nat_le}
use Rattle.std.specs.Prelude.{if◌then◌else◌}
use Rattle.bson_elem.specs.declared.kinds.Kind.TheVariants.{Int32}
use Rattle.bson_elem.specs.{leaf_pair, no_pairs, number_value}
use Rattle.bson_raw.specs.{TreeValue, first_named, leaf_value}
use Rattle.wire_msg.specs.{Content, body_alone}
use Rattle.wire_peer.specs.Requests.{Asked, takes_more}

-- {"n": k}, with an int32
abbrev pub numbered : ℕ → Content
numbered k = body_alone (leaf_pair (codes "n") Int32 (number_value (pos k)) no_pairs)

-- a number of them, from number k on
abbrev pub numbers_from : ℕ → ℕ → List Content
numbers_from k zero = []
numbers_from k (suc count) = numbered k ∷ numbers_from (k + 1) count

-- the number that a value is, if it is an int32 from 1 to 100, and else 0
abbrev pub small_number : Option TreeValue → ℕ
small_number (Some (leaf_value Int32 (number_value (pos k)))) = if nat_le k 100 then k else 0
small_number _ = 0

-- how many answers the request wants counted: the field s of its body, where it takes more, and
-- else 0
abbrev pub wanted : Asked → ℕ
wanted a = if takes_more a then small_number (first_named (codes "s") a.payload.body) else 0

-- {"n": 1} and so on up to that number, or {"n": 0} alone
abbrev pub numbers : ℕ → List Content
numbers zero = numbered 0 ∷ []
numbers (suc k) = numbers_from 1 (suc k)
