-- The top-level names of a body, as they are looked up.
use Rattle.std.specs.Prelude.{ℕ, List, map}
use Rattle.std.specs.Borrow.{Bor}
use Rattle.std.specs.Cmp.Lexicographic.{slice_cmp}
use Rattle.std.specs.List.Sorted.{IsPermutation, IsSortedByKey}
use Rattle.std.specs.Map.Iter.{deref}
use Rattle.std.specs.Ordering.{nat_cmp}
use Rattle.bson_elem.specs.{Spells, Tree}
use Rattle.bson_raw.specs.{document_bytes, names_of}
use Rattle.wire_msg.specs.declared.fields.Fields.{Fields}
use Rattle.wire_msg.specs.declared.fields.Fields.TheVariants.{Pairs, Sorted}

-- these are the top-level names of the body, in ascending order of their bytes
pub record AreSorted (names : List (Bor (List ℕ))) (t : Tree) : Type 0 where
  pub same : IsPermutation (names_of t) (map deref names)
  pub ascending : IsSortedByKey deref (slice_cmp nat_cmp) names

-- these are the top-level names of the body
abbrev pub AreFields : Fields → Tree → Type 0
AreFields (Pairs body) t = Spells t (document_bytes body)
AreFields (Sorted names) t = AreSorted names.items t
