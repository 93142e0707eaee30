-- A search for an element by its name, from where a walk stands.
use Rattle.std.specs.Prelude.{◌≡◌, ◌≢◌, ◌⊎◌, ℕ, List, Some, None}
use Rattle.std.specs.Prelude.{if◌then◌else◌}
use Rattle.std.specs.Str.{bytes_eq}
use Rattle.bson_elem.specs.{Tree, inner_pair, leaf_pair, no_pairs}
use Rattle.bson_raw.specs.{TreeValue, first_named}
use Rattle.byte_views.specs.declared.element.Element.{Element}
use Rattle.byte_views.specs.declared.iter.ElementIter.{ElementIter}
use Rattle.byte_views.specs.declared.iter.FirstElement.{FirstElement}
use Rattle.byte_views.specs.Elements.{no_element}
use Rattle.byte_views.specs.Iters.{IsFirst, IsStep, moved}
use Rattle.byte_views.specs.Pairs.{PairsFrom, ShowsValue}
use Rattle.byte_views.specs.Views.{IsView}

-- The walk stands at an element with another name; what is behind it begins at this offset.
abbrev pub IsPassed : List ℕ → List ℕ → ElementIter → ℕ → Type 0
IsPassed bytes name s next =
    (e : Element) × IsStep bytes s e next × (e.kind ≢ 0) × (IsView bytes e.name name → ⊥)

-- The walk passes elements with other names, up to this offset.
pub data Passes (bytes name : List ℕ) (s : ElementIter) : ℕ → Type 0 where
  no_step : {at : ℕ} → at ≡ s.at → Passes bytes name s at
  one_more : {at : ℕ} (before : ℕ) → Passes bytes name s before
      → IsPassed bytes name (moved s before) at → Passes bytes name s at

-- The walk passes elements with other names, and then reads this one, which has the name, or reads
-- that there is none.
pub record Finds (bytes name : List ℕ) (s : ElementIter) (e : Element) (next : ℕ) : Type 0 where
  pub at : ℕ
  pub passed : Passes bytes name s at
  pub step : IsStep bytes (moved s at) e next
  pub stops : (e.kind ≡ 0) ⊎ IsView bytes e.name name

-- the pairs behind the first one with this name
abbrev pub pairs_behind : List ℕ → Tree → Tree
pairs_behind name no_pairs = no_pairs
pairs_behind name (leaf_pair n k v ps) = if bytes_eq n name then ps else pairs_behind name ps
pairs_behind name (inner_pair n k b inner ps) =
    if bytes_eq n name then ps else pairs_behind name ps

-- No pair has the name, and none is given; or the value of the first pair with it is given, and the
-- pairs behind that one are left.
pub data GivesNamed (bytes name : List ℕ) (s : ElementIter) (e : Element) (after : ElementIter)
    (t : Tree) : Type 0 where
  none_named : first_named name t ≡ None → e ≡ no_element → PairsFrom bytes after no_pairs
      → GivesNamed bytes name s e after t
  named : (v : TreeValue) → first_named name t ≡ Some v → IsView bytes e.name name
      → ShowsValue bytes s e v → PairsFrom bytes after (pairs_behind name t)
      → GivesNamed bytes name s e after t

-- The walk begins at the document's front, and finds the element; or the document's length or its
-- last byte has a fault, which is told.
pub data Gets (bytes name : List ℕ) (e : Element) : Type 0 where
  begins : (first : FirstElement) (next : ℕ) → IsFirst bytes first → first.fault.number ≡ 0
      → Finds bytes name first.iter e next → Gets bytes name e
  has_fault : (first : FirstElement) → IsFirst bytes first → first.fault.number ≢ 0
      → e ≡ record no_element { fault = first.fault } → Gets bytes name e
