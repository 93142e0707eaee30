-- The document that is split off is the first of those in a view.
use Rattle.std.proofs.Common.{◌≡◌, ℕ, ◌+◌, List, [], ◌∷◌, ◌++◌, length, Ok, Err, refl, sym, ap, subst, ◌∙◌, arith}
use Rattle.std.proofs.lemmas.List.{append-nil}
use Rattle.bson_elem.specs.declared.fault.BsonFault.{BsonFault}
use Rattle.bson_elem.specs.Checks.{document_at}
use Rattle.bson_elem.specs.Documents.{IsFramed, elements_of}
use Rattle.bson_elem.specs.Spelling.{document, elements}
use Rattle.bson_elem.specs.Trees.{Tree}
use Rattle.bson_elem.proofs.Lemmas.{length-document, ok_is, spelled_read}
use Rattle.bson_raw.specs.Split.{AreDocuments, documents_bytes}
use Rattle.byte_views.specs.declared.view.View.{View}
use Rattle.byte_views.specs.Splits.{IsSplit, IsWithin, bytes_in, no_document, not_within, splits}
use Rattle.byte_views.specs.Views.{IsView, view}
use Rattle.byte_views.proofs.Places.{part_is}

-- the code's views
pub split_read : (bytes : List ℕ) (left : View) (whole rest : List ℕ) (first others : View) → IsWithin bytes left → document_at 0 0 (bytes_in bytes left) ≡ Ok (elements_of whole, rest) → IsFramed whole
    → first ≡ view left.offset (length whole) → others ≡ view (left.offset + length whole) (length rest) → IsSplit bytes left first others
split_read bytes left whole rest first others within read framed first_is others_is =
    let n : length whole ≡ length (elements_of whole) + 5 = ap length framed ∙ length-document (elements_of whole) in
    splits (elements_of whole) rest within read (first_is ∙ ap (λ (k : ℕ). view left.offset k) n) (others_is ∙ ap (λ (k : ℕ). view (left.offset + k) (length rest)) n)

abbrev Splits : List ℕ → Tree → List Tree → View → View → Type 0
Splits bytes t ts first others = IsView bytes first (document (elements t)) × IsView bytes others (documents_bytes ts)

pub split_gives : (bytes : List ℕ) (left first others : View) → IsSplit bytes left first others → (t : Tree) (ts : List Tree) → AreDocuments (t ∷ ts) → IsView bytes left (documents_bytes (t ∷ ts)) → Splits bytes t ts first others
split_gives bytes left first others (splits body rest within read first_is others_is) t ts fits has =
    let r : document_at 0 0 (bytes_in bytes left) ≡ Ok (elements t, documents_bytes ts) = spelled_read (bytes_in bytes left) t (document (elements t)) (documents_bytes ts) fits.0 has.part_is in
    let same : (body, rest) ≡ (elements t, documents_bytes ts) = ok_is {E = BsonFault} (body, rest) (elements t, documents_bytes ts) (sym read ∙ r) in
    let end : ℕ = left.offset + left.length in
    let n : length (document (elements t)) ≡ length (elements t) + 5 = length-document (elements t) in
    let a : IsView bytes (view left.offset (length (elements t) + 5)) (document (elements t)) = part_is bytes left.offset end [] (document (elements t)) (documents_bytes ts) (omega arith) within has.part_is left.offset (length (elements t) + 5) (omega arith) (sym n) in
    let tail : documents_bytes (t ∷ ts) ≡ document (elements t) ++ (documents_bytes ts ++ []) = ap (λ (x : List ℕ). document (elements t) ++ x) (sym (append-nil (documents_bytes ts))) in
    let b : IsView bytes (view (left.offset + (length (elements t) + 5)) (length (documents_bytes ts))) (documents_bytes ts) = part_is bytes left.offset end (document (elements t)) (documents_bytes ts) [] (omega arith) within (has.part_is ∙ tail) (left.offset + (length (elements t) + 5)) (length (documents_bytes ts)) (omega (arith, n)) refl in (
      subst (λ (v : View). IsView bytes v (document (elements t))) (sym (first_is ∙ ap (λ (x : List ℕ × List ℕ). view left.offset (length x.0 + 5)) same)) a,
      subst (λ (v : View). IsView bytes v (documents_bytes ts)) (sym (others_is ∙ ap (λ (x : List ℕ × List ℕ). view (left.offset + (length x.0 + 5)) (length x.1)) same)) b,
    )
split_gives bytes left first others (no_document f within read first_is others_is) t ts fits has =
    let r : document_at 0 0 (bytes_in bytes left) ≡ Ok (elements t, documents_bytes ts) = spelled_read (bytes_in bytes left) t (document (elements t)) (documents_bytes ts) fits.0 has.part_is in
    absurd (let no : Err f ≡ Ok (elements t, documents_bytes ts) = sym read ∙ r in cc)
split_gives bytes left first others (not_within out first_is others_is) t ts fits has = absurd (out has.within)
