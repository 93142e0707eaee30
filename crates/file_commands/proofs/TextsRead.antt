-- The documents of Extended JSON texts, one after another, and their bytes.
use Rattle.std.proofs.Common.{◌≡◌, ◌++◌, [], ◌∷◌, ℕ, ◌+◌, List, Option, sym, ap, subst, ◌∙◌, arith, append-nil, append_assoc, length-append}
use Rattle.std.specs.Io.KnownBytes.{Appends}
use Rattle.std.proofs.KnownBytes.{Appends-trans}
use Rattle.bson_elem.specs.Spelling.{document, elements}
use Rattle.bson_doc.specs.declared.refusal.DocRefusal.{DocRefusal}
use Rattle.bson_doc.specs.Document.{tree_of}
use Rattle.bson_json_read.specs.Sequences.{GivesBytes, Left, next_in}
use Rattle.bson_json_read.specs.declared.texts.NextBytes.TheVariants.{Document, Refused as NoBytes}
use Rattle.bson_json_read.specs.Values.{Pair}
use Rattle.bson_json_read.proofs.Lemmas.{reads_more}
use Rattle.file_commands.specs.BsonOf.{IsRefused, bytes_of_each}
use Rattle.file_commands.specs.TextPieces.{Reached}

bytes_more : (ds : List (List Pair)) (d : List Pair) → bytes_of_each (ds ++ d ∷ []) ≡ bytes_of_each ds ++ document (elements (tree_of d))
bytes_more [] d = append-nil (document (elements (tree_of d)))
bytes_more (e ∷ ds) d =
    ap (λ (x : List ℕ). document (elements (tree_of e)) ++ x) (bytes_more ds d) ∙ sym (append_assoc (document (elements (tree_of e))) (bytes_of_each ds) (document (elements (tree_of d))))

-- the next document was written, too
pub goes_on : (input : List ℕ) (count : ℕ) (left behind : Left) (bytes : List ℕ) (old mid new : Option (List ℕ)) → Reached input count left old mid
    → GivesBytes (next_in left.frame left.rest) Document bytes behind → Appends mid new bytes → Reached input (count + 1) behind old new
goes_on input count left behind bytes old mid new (ds, reads, same, appends) (d, gives, written) more = (
  ds ++ d ∷ [],
  reads_more _ left behind ds d reads gives,
  omega (arith, same, length-append ds (d ∷ [])),
  subst (Appends old new) (sym (bytes_more ds d)) (Appends-trans old mid new (bytes_of_each ds) (document (elements (tree_of d))) appends (subst (Appends mid new) written.0 more)),
)

-- the document of the next text has no bytes
pub refused : (left behind : Left) (bytes : List ℕ) (refusal : DocRefusal) → GivesBytes (next_in left.frame left.rest) (NoBytes refusal) bytes behind → IsRefused left refusal
refused left behind bytes refusal (d, gives, none) = (d, behind, gives, none)
