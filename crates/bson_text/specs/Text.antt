-- The parts of the text of documents: indentation and quoted text.
use Rattle.std.specs.Prelude.{ℕ, zero, suc, ◌==◌, ◌||◌, nat_lt}
use Rattle.std.specs.Prelude.{if◌then◌else◌, List, [], ◌∷◌, ◌++◌, codes, flat_map}
use Rattle.hex.specs.Hex.{encode_lower}

-- two spaces n times
abbrev pub indent : ℕ → List ℕ
indent zero = []
indent (suc n) = codes "  " ++ indent n

-- a byte as it appears in quoted text
abbrev pub escaped : ℕ → List ℕ
escaped b =
    if b == 34 then codes "\\\"" else if b == 92 then codes "\\\\"
    else if nat_lt b 32 || b == 127 then codes "\\x" ++ encode_lower (b ∷ [])
    else b ∷ []

-- a text between quotes
abbrev pub quoted : List ℕ → List ℕ
quoted text = 34 ∷ (flat_map escaped text ++ 34 ∷ [])
