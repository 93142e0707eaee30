-- The line that ends a text whose input has a fault.
use Rattle.std.specs.Prelude.{ℕ, List, ◌++◌, codes}
use Rattle.std.specs.Fmt.{decimal}

-- the line of a fault with this number and name at the offset
abbrev pub fault_line : ℕ → List ℕ → ℕ → List ℕ
fault_line number name offset =
    codes "fault "
    ++ (decimal number ++ (codes " " ++ (name ++ (codes " at " ++ (decimal offset ++ codes "\n")))))
