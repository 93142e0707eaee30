-- The bytes of a document and of its elements.
use Rattle.std.specs.Prelude.{◌≡◌, ℕ, ◌-◌, List, length, take, drop}
use Rattle.bson_elem.specs.Spelling.{document}

-- the elements of a document, without its length and its last 00
abbrev pub elements_of : List ℕ → List ℕ
elements_of bytes = take (length bytes - 5) (drop 4 bytes)

-- the bytes begin with their own count, and end with 00
abbrev pub IsFramed : List ℕ → Type 0
IsFramed bytes = bytes ≡ document (elements_of bytes)
