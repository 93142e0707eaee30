-- The values that a path reaches (MongoDB manual, Dot Notation; Query an Array of Embedded
-- Documents). The steps of a path, between its dots, are names of fields and indexes of elements.
use Rattle.std.specs.Borrow.{Bor}
use Rattle.std.specs.Prelude.{ℕ, ◌+◌, List, [], ◌∷◌, ◌++◌, ◌==◌, Bool, true, false, map}
use Rattle.std.specs.Prelude.{length, Option, Some, None, if◌then◌else◌}
use Rattle.std.specs.Fmt.{decimal}
use Rattle.std.specs.List.{slice_split}
use Rattle.std.specs.Str.{bytes_eq}
use Rattle.bson_elem.specs.declared.kinds.Kind.TheVariants as kinds
use Rattle.bson_elem.specs.{Tree, no_code}
use Rattle.bson_raw.specs.{TreeValue, document_value, first_named}
use Rattle.bson_doc.specs.{tree_of}
use Rattle.doc_query.specs.declared.paths.OwnValues.{OwnValues}
use Rattle.doc_query.specs.Conditions.{elements}
use Rattle.doc_query.specs.Owned.{values_in}

-- the steps of a path: what stands between its dots
abbrev pub steps : List ℕ → List (List ℕ)
steps path = slice_split (λ b. b == 46) path

-- the values that are reached, of which None is one that is missing
abbrev pub Reached : Type 0
Reached = List (Option TreeValue)

-- where a path ends: the value, and of an array its elements, too
abbrev pub at_end : Option TreeValue → Reached
at_end None = None ∷ []
at_end (Some v) = Some v ∷ map Some (elements v)

-- a document, or an array
abbrev pub is_container : TreeValue → Bool
is_container (document_value kinds.Document b t) = true
is_container (document_value kinds.Array b t) = true
is_container v = false

-- A step names a field of each document in an array; `rest` is what the other steps reach.
abbrev pub by_name : List ℕ → (Option TreeValue → Reached) → TreeValue → Reached
by_name step rest (document_value kinds.Document b t) = rest (first_named step t)
by_name step rest v = []

-- A step is the index of an element, too: the last one reaches just that.
abbrev pub by_index : List (List ℕ) → (Option TreeValue → Reached) → TreeValue → Reached
by_index [] rest v = Some v ∷ []
by_index (s ∷ ss) rest v = if is_container v then rest (Some v) else []

abbrev pub in_one : List ℕ → List (List ℕ) → (Option TreeValue → Reached) → ℕ → TreeValue → Reached
in_one s ss rest i v =
    by_name s rest v ++ (if bytes_eq s (decimal i) then by_index ss rest v else [])

-- what is reached from the elements of an array, from this index on
abbrev pub in_each : (ℕ → TreeValue → Reached) → ℕ → List TreeValue → Reached
in_each f i [] = []
in_each f i (v ∷ vs) = f i v ++ in_each f (i + 1) vs

-- what these steps reach from a value, which may be missing
abbrev pub reached : List (List ℕ) → Option TreeValue → Reached
reached [] own = at_end own
reached (s ∷ ss) (Some (document_value kinds.Document b t)) = reached ss (first_named s t)
reached (s ∷ ss) (Some (document_value kinds.Array b t)) =
    in_each (λ i v. in_one s ss (λ own. reached ss own) i v) 0 (values_in t)
reached (s ∷ ss) own = None ∷ []

-- what a path reaches in a document
abbrev pub values_at : List ℕ → Tree → Reached
values_at path t = reached (steps path) (Some (document_value kinds.Document no_code t))

-- The value that steps reach through documents alone. An array on the way stands for it.
abbrev pub single_at : List (List ℕ) → Option TreeValue → Option TreeValue
single_at [] own = own
single_at (s ∷ ss) (Some (document_value kinds.Document b t)) = single_at ss (first_named s t)
single_at (s ∷ ss) (Some (document_value kinds.Array b t)) = Some (document_value kinds.Array b t)
single_at (s ∷ ss) own = None

-- the values that are reached by a path and a document of the code
abbrev pub own_values : OwnValues → Reached
own_values own = values_at own.path.now (tree_of own.document.now)

abbrev pub in_element : List ℕ → List (List ℕ) → ℕ → TreeValue → Reached
in_element s ss i v = in_one s ss (reached ss) i v

-- the steps of the rest of a path, if there is one, and its length with the dot before it
abbrev pub steps_left : Option (Bor (List ℕ)) → List (List ℕ)
steps_left None = []
steps_left (Some path) = steps path.now

abbrev pub left_len : Option (Bor (List ℕ)) → ℕ
left_len None = 0
left_len (Some path) = length path.now + 1
