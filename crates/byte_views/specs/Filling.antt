-- Elements that are read one after another into the room of a C program.
use Rattle.std.specs.Prelude.{◌≡◌, ◌≢◌, ◌<◌, ◌+◌, ℕ, List, [], ◌∷◌, ◌++◌, drop, length}
use Rattle.byte_views.specs.declared.element.Element.{Element}
use Rattle.byte_views.specs.declared.iter.ElementIter.{ElementIter}
use Rattle.byte_views.specs.Iters.{IsStep, moved}

-- these elements are read, one after another, from where a walk stands up to this offset
pub data Reads (bytes : List ℕ) (s : ElementIter) : List Element → ℕ → Type 0 where
  nothing_read : {at : ℕ} → at ≡ s.at → Reads bytes s [] at
  one_more : {at : ℕ} (es : List Element) (before : ℕ) (e : Element) → Reads bytes s es before
      → IsStep bytes (moved s before) e at → e.kind ≢ 0 → Reads bytes s (es ++ e ∷ []) at

-- The elements that are read fill the room; or they are fewer, and the place behind them has what
-- is read then: that there is none, or its fault.
pub data Fills (bytes : List ℕ) (s : ElementIter) (old new : List Element) (count at : ℕ)
    : Type 0 where
  is_full : (es : List Element) → Reads bytes s es at → new ≡ es → length es ≡ length old
      → count ≡ length es → Fills bytes s old new count at
  has_room : (es : List Element) (before : ℕ) (e : Element) → Reads bytes s es before
      → IsStep bytes (moved s before) e at → e.kind ≡ 0 → length es < length old
      → new ≡ es ++ e ∷ drop (length es + 1) old → count ≡ length es
      → Fills bytes s old new count at
