-- How documents are cut into batches (MongoDB manual, Cursors, Cursor Batches).
use Rattle.std.specs.Prelude.{ℕ, ◌+◌, ◌-◌, List, [], ◌∷◌, drop, nat_le, take, if◌then◌else◌}
use Rattle.bson_raw.specs.{TreeValue}
use Rattle.bson_doc.specs.{value_len}

-- how many of the first values have no more bytes together than this
abbrev pub fitting : ℕ → List TreeValue → ℕ
fitting room [] = 0
fitting room (v ∷ vs) =
    if nat_le (value_len v) room then 1 + fitting (room - value_len v) vs else 0

-- how many of these documents are in one batch: the first, and those that follow it while all have
-- no more than 16 MiB together
abbrev pub batch_len : List TreeValue → ℕ
batch_len [] = 0
batch_len (v ∷ vs) = 1 + fitting (16777216 - value_len v) vs

-- the next batch of the documents that are left, of at most this many, and what is left then
abbrev pub next_batch : ℕ → List TreeValue → List TreeValue
next_batch count vs = take (batch_len (take count vs)) vs

abbrev pub after_batch : ℕ → List TreeValue → List TreeValue
after_batch count vs = drop (batch_len (take count vs)) vs
