-- How a walk over a document begins.
use Rattle.std.proofs.Common.{◌≡◌, ◌+◌, ℕ, List, [], length, Ok, sym, ap, subst, append-nil, arith, length-append}
use Rattle.std.proofs.lemmas.List.{nil_from_length}
use Rattle.bson_elem.specs.Spelling.{IsBytes, Spells, document, elements}
use Rattle.bson_elem.specs.Trees.{Tree}
use Rattle.bson_elem.specs.Checks.{document_at}
use Rattle.bson_elem.proofs.Lemmas.{document_takes, length-document, spelled_read}
use Rattle.bson_raw.specs.Spelled.{IsLengthOf}
use Rattle.byte_views.specs.declared.iter.FirstElement.{FirstElement}
use Rattle.byte_views.specs.Iters.{IsFirst, begins, first_begins}

-- the document is all of the bytes
pub begins_with : (bytes body rest : List ℕ) (first : FirstElement) → IsBytes bytes → IsLengthOf bytes → document_at 0 0 bytes ≡ Ok (body, rest) → first ≡ first_begins bytes → IsFirst bytes first
begins_with bytes body rest first fits all read is =
    let t = document_takes 0 0 bytes (body, rest) fits read in
    let size : length bytes ≡ length body + 5 + length rest = omega (arith, ap length t.0.parts, length-append (document body) rest, length-document body) in
    let none : rest ≡ [] = nil_from_length rest (omega (arith, size, t.2, all (omega (arith, size)))) in
    begins body (subst (λ (x : List ℕ). document_at 0 0 bytes ≡ Ok (body, x)) none read) is

-- what spells a tree can be read
pub spelled_begins : (bytes : List ℕ) (t : Tree) → Spells t bytes → document_at 0 0 bytes ≡ Ok (elements t, [])
spelled_begins bytes t s = spelled_read bytes t bytes [] s (sym (append-nil bytes))
