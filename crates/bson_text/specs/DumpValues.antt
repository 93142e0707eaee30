-- The text of one value of a tree, and the elements that it holds.
use Rattle.std.specs.Prelude.{◌≡◌, ℕ, ◌+◌, ◌-◌, List, [], ◌++◌, Option, Some, None, option_map}
use Rattle.bson_elem.specs.{Spells, Tree}
use Rattle.bson_raw.specs.{TreeValue, document_value, leaf_value}
use Rattle.bson_text.specs.Dump.{leaf_text, inner_text, document_size, document_text}
use Rattle.bson_text.specs.Dump.{document_text_at, element_lines, element_lines_at, offset_text}
use Rattle.bson_text.specs.Dump.{pairs_start}

-- what follows the name in the line of the value
abbrev pub value_text : TreeValue → List ℕ
value_text (leaf_value k v) = leaf_text k v
value_text (document_value k b inner) = inner_text k b (document_size inner)

-- the pairs that the value holds
abbrev pub held_tree : TreeValue → Option Tree
held_tree (leaf_value k v) = None
held_tree (document_value k b inner) = Some inner

-- the bytes spell the pairs that the value holds
abbrev pub IsHeld : TreeValue → List ℕ → Type 0
IsHeld v bytes = (inner : Tree) × (held_tree v ≡ Some inner) × Spells inner bytes

-- ---- with or without offsets: with them, where a document ends in the whole input

-- the offset so many bytes before the end
abbrev pub offset_before : Option ℕ → ℕ → Option ℕ
offset_before end left = option_map (λ e. e - left) end

-- what stands before a line
abbrev pub offset_front : Option ℕ → List ℕ
offset_front None = []
offset_front (Some at) = offset_text at

-- the lines of the last pairs of a document
abbrev pub lines_to : Option ℕ → ℕ → Tree → List ℕ
lines_to None deep t = element_lines deep t
lines_to (Some end) deep t = element_lines_at (pairs_start end t) deep t

-- the text of a document
abbrev pub text_to : Option ℕ → Tree → List ℕ
text_to None t = document_text t
text_to (Some end) t = document_text_at (end - document_size t) t

-- where a document ends that is the last part of the element before these last pairs
abbrev pub inner_end : Option ℕ → Tree → Option ℕ
inner_end end others = option_map (λ e. pairs_start e others) end

-- The lines of the pairs of t are written, up to and with that of the first pair whose value holds
-- pairs of its own. These bytes spell those inner pairs. The lines of the inner pairs, and those of
-- the other pairs of t, are still to be written.
pub record StopsAt (end : Option ℕ) (deep : ℕ) (t : Tree) (bytes : List ℕ)
    (IsLeft : Tree → Type 0) (IsWritten : List ℕ → Type 0) : Type 0 where
  pub inner : Tree
  pub others : Tree
  pub text : List ℕ
  pub spelled : Spells inner bytes
  pub left : IsLeft others
  pub written : IsWritten text
  pub lines : lines_to end deep t
      ≡ text ++ (lines_to (inner_end end others) (deep + 1) inner ++ lines_to end deep others)
