-- Which cursors of the server the recorded ones are.
use Rattle.std.specs.Prelude.{ℤ, List, ◌∷◌, find, option_map, take, unwrap_or}
use Rattle.std.specs.Ordering.{int_eq}
use Rattle.replay.specs.declared.cursors.Cursor.{Cursor}

-- the cursors, the newest first, once the one with this recorded id has this id on the server; of
-- more than 65,536 the oldest is forgotten
abbrev pub noted : ℤ → ℤ → List Cursor → List Cursor
noted recorded now cursors = record { recorded = recorded; now = now } ∷ take 65535 cursors

-- the id on the server of the newest cursor with this recorded id, or the same id if there is none
abbrev pub id_now : List Cursor → ℤ → ℤ
id_now cursors id =
    unwrap_or (option_map (λ c. c.now) (find (λ c. int_eq c.recorded id) cursors)) id
