-- The offsets of a walk, and those of the text of a document with offsets.
use Rattle.std.specs.Prelude.{◌≡◌, ℕ, ◌+◌, List, ◌++◌}
use Rattle.bson_elem.specs.declared.kinds.Kind.{Kind}
use Rattle.bson_elem.specs.{Beside, Leaf, Tree, inner_pair, leaf_pair, no_pairs}
use Rattle.bson_text.specs.Dump.{document_size, element_line, element_lines_at, inner_text}
use Rattle.bson_text.specs.Dump.{leaf_text, offset_text}
use Rattle.byte_views.specs.declared.element.Element.{Element}
use Rattle.byte_views.specs.declared.iter.ElementIter.{ElementIter}
use Rattle.byte_views.specs.Iters.{inner_iter}

-- The line of the first pair stands behind the walk's offset. Those of the other pairs begin at the
-- offset after the step, and those of a document inside at the offset of a walk that enters it.
pub data HasOffsets (s : ElementIter) (e : Element) (next deep : ℕ) : Tree → Type 0 where
  no_line : {t : Tree} → t ≡ no_pairs → HasOffsets s e next deep t
  of_leaf : {t : Tree} (name : List ℕ) (k : Kind) (leaf : Leaf) (others : Tree)
      → t ≡ leaf_pair name k leaf others
      → element_lines_at s.at deep t
      ≡ offset_text s.at ++ (element_line deep name (leaf_text k leaf)
      ++ element_lines_at next deep others)
      → HasOffsets s e next deep t
  of_document : {t : Tree} (name : List ℕ) (k : Kind) (b : Beside) (inner others : Tree)
      → t ≡ inner_pair name k b inner others
      → element_lines_at s.at deep t
      ≡ offset_text s.at ++ (element_line deep name (inner_text k b (document_size inner))
      ++ (element_lines_at (inner_iter s.depth e.bytes).at (deep + 1) inner
      ++ element_lines_at next deep others))
      → HasOffsets s e next deep t
