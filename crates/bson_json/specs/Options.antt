-- The options of a regular expression, which Extended JSON has in alphabetical order.
use Rattle.std.specs.Prelude.{ℕ, zero, suc, ◌==◌, List, [], ◌++◌, filter, if◌then◌else◌}
use Rattle.std.specs.Char.{is_ascii}
use Rattle.std.specs.List.{list_all}

-- the characters below this code, in order of their codes
abbrev pub in_order : ℕ → List ℕ → List ℕ
in_order zero options = []
in_order (suc code) options = in_order code options ++ filter (λ c. c == code) options

-- The options in alphabetical order, each character as often as it stood. Options are letters: a
-- text with a character outside ASCII stays as it is.
abbrev pub alphabetical : List ℕ → List ℕ
alphabetical options = if list_all is_ascii options then in_order 128 options else options
