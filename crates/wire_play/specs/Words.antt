-- The words of a line, and those that spell a document.
use Rattle.std.specs.Prelude.{◌≡◌, ℕ, ◌==◌, Bool, List, [], None}
use Rattle.std.specs.List.{slice_split}
use Rattle.bson_elem.specs.{Spells, Tree}
use Rattle.bson_raw.specs.{first_repeated}
use Rattle.script_lines.specs.{IsHex}

abbrev pub is_blank : ℕ → Bool
is_blank b = b == 32

-- the words of a line, which have one space between them
abbrev pub words_of : List ℕ → List (List ℕ)
words_of line = slice_split is_blank line

-- the word spells a document's bytes, and no top-level name of the document is repeated
pub record IsDocumentHex (word : List ℕ) (t : Tree) : Type 0 where
  pub bytes : List ℕ
  pub hex : IsHex word bytes
  pub spelled : Spells t bytes
  pub unique : first_repeated [] t ≡ None
