-- Why a document isn't made.
use Rattle.std.specs.Prelude.{ℕ, ◌<◌, ◌≤◌, List, ◌++◌, Option, Some, codes}
use Rattle.std.specs.Fmt.{decimal}
use Rattle.bson_doc.specs.declared.refusal.DocRefusal.{DocRefusal}
use Rattle.bson_doc.specs.declared.refusal.DocRefusal.TheVariants.{RepeatedName, OutOfMemory}
use Rattle.bson_doc.specs.declared.refusal.DocRefusal.TheVariants.{TooLarge, ZeroInName, Depth}

-- what a refusal displays as, without a depth
abbrev pub refusal_words : DocRefusal → List ℕ
refusal_words (RepeatedName depth) = codes "a name is repeated"
refusal_words OutOfMemory = codes "out of memory"
refusal_words TooLarge = codes "the document is too large"
refusal_words ZeroInName = codes "a name, a pattern or options have a 00 in them"
refusal_words Depth = codes "a container is too deep"

-- what a refusal displays as; the depth of a repeated name stands last
abbrev pub refusal_text : DocRefusal → List ℕ
refusal_text (RepeatedName depth) = codes "a name is repeated at depth " ++ decimal depth
refusal_text e = refusal_words e

abbrev pub shown_refusal : DocRefusal → Option (List ℕ)
shown_refusal e = Some (refusal_text e)

-- the bytes are more than the limit; or they aren't, and memory runs out
abbrev pub IsLengthRefusal : ℕ → ℕ → DocRefusal → Type 0
IsLengthRefusal limit count OutOfMemory = count ≤ limit
IsLengthRefusal limit count TooLarge = limit < count
IsLengthRefusal limit count _ = ⊥
