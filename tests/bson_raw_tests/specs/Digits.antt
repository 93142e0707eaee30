-- Hexadecimal digits with spaces between them, as the rows of bytes are written.
use Rattle.std.specs.Prelude.{ℕ, ◌==◌, List, not, filter}

-- the text without its spaces
abbrev pub without_spaces : List ℕ → List ℕ
without_spaces text = filter (λ b. not (b == 32)) text
