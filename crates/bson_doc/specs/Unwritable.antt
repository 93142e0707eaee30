-- Why a tree has no spelling, where that isn't its length: a 00 in a name, a pattern or options, or
-- a container deeper than 200.
use Rattle.std.specs.Prelude.{◌≡◌, ℕ, ◌+◌, ◌^◌, ◌≤◌, ◌<◌, length, Bool, nat_lt, ◌||◌, List, Option}
use Rattle.std.specs.Prelude.{Some, None, if◌then◌else◌}
use Rattle.std.specs.Option.{option_or}
use Rattle.std.specs.List.{list_any}
use Rattle.bson_elem.specs.{Leaf, Tree, document, elements, inner_pair, is_zero, leaf_pair}
use Rattle.bson_elem.specs.{no_pairs, regex_value}
use Rattle.bson_raw.specs.{TreeValue, document_value, leaf_value}
use Rattle.bson_doc.specs.declared.refusal.DocRefusal.{DocRefusal}
use Rattle.bson_doc.specs.declared.refusal.DocRefusal.TheVariants.{OutOfMemory, TooLarge}
use Rattle.bson_doc.specs.declared.refusal.DocRefusal.TheVariants.{ZeroInName, Depth}

-- one of the bytes is 00
abbrev pub has_zero : List ℕ → Bool
has_zero bytes = list_any is_zero bytes

-- why a leaf has no spelling
abbrev pub unwritable_leaf : Leaf → Option DocRefusal
unwritable_leaf (regex_value pattern options) =
    if (has_zero pattern || has_zero options) then Some ZeroInName else None
unwritable_leaf _ = None

-- why pairs in a container of this depth have no spelling: the first reason in order. A name comes
-- before its value, and the depth of a container before its pairs.
abbrev pub unwritable : ℕ → Tree → Option DocRefusal
unwritable depth no_pairs = None
unwritable depth (leaf_pair n k v ps) =
    if has_zero n then Some ZeroInName else option_or (unwritable_leaf v) (unwritable depth ps)
unwritable depth (inner_pair n k b inner ps) =
    if has_zero n then Some ZeroInName
    else option_or (if nat_lt depth 200 then unwritable (depth + 1) inner else Some Depth)
    (unwritable depth ps)

-- the same of a value in a container of this depth
abbrev pub unwritable_value : ℕ → TreeValue → Option DocRefusal
unwritable_value depth (leaf_value k v) = unwritable_leaf v
unwritable_value depth (document_value k b inner) =
    if nat_lt depth 200 then unwritable (depth + 1) inner else Some Depth

-- why the tree of a document isn't written: the first reason why it has no spelling, its length
-- last; and that memory ran out, where it has a spelling
abbrev pub IsUnwritable : Tree → DocRefusal → Type 0
IsUnwritable t OutOfMemory = (unwritable 1 t ≡ None) × (length (document (elements t)) < 2 ^ 31)
IsUnwritable t TooLarge = (unwritable 1 t ≡ None) × (2 ^ 31 ≤ length (document (elements t)))
IsUnwritable t e = unwritable 1 t ≡ Some e
