-- What is told of the documents that begin some bytes.
use Rattle.std.proofs.Common.{◌≡◌, ◌+◌, ℕ, List, Option, Some, length, refl, ap, subst, arith, length-append}
use Rattle.std.specs.List.{sum_by}
use Rattle.bson_elem.specs.declared.fault.BsonFault.{BsonFault}
use Rattle.bson_elem.specs.Checks.{fault}
use Rattle.bson_elem.specs.Trees.{Tree}
use Rattle.bson_raw.specs.Split.{documents_bytes, DocumentSplit}
use Rattle.bson_raw.proofs.Lemmas.{Walked, walked_all, walked_to_fault}
use Rattle.byte_views.specs.declared.documents.DocumentsCheck.{DocumentsCheck}
use Rattle.byte_views.specs.declared.fault.FirstFault.{FirstFault}
use Rattle.byte_views.specs.declared.walk.DocumentsWalk.{DocumentsWalk}
use Rattle.byte_views.specs.Documents.{EndsAs, is_nothing, is_bad, documents_check, IsDocumentsCheck}
use Rattle.byte_views.specs.Fault.{first_fault}
use Rattle.bson_raw.specs.Totals.{elements_in, sizes_in}
use Rattle.byte_views.specs.Walk.{documents_walk, IsDocumentsWalk}

-- a fault that is counted from offset 0 is the same
pub counted_from_0 : (f : BsonFault) → first_fault (Some (fault (0 + f.at) f.cause)) ≡ first_fault (Some f)
counted_from_0 f =
    let e : 0 + f.at ≡ f.at = omega arith in
    ap (λ (n : ℕ). first_fault (Some (fault n f.cause))) e

split_of : (bytes rest : List ℕ) (ts : List Tree) (offset : ℕ) (last : Option BsonFault) → Walked bytes ts rest → EndsAs offset rest last → DocumentSplit bytes ts rest
split_of bytes rest ts offset last w (is_nothing none is) = walked_all bytes ts rest w none
split_of bytes rest ts offset last w (is_bad f some front is) = walked_to_fault bytes ts rest f w front

offset_is : (bytes rest : List ℕ) (ts : List Tree) (offset : ℕ) → Walked bytes ts rest → offset + length rest ≡ length bytes → offset ≡ length (documents_bytes ts)
offset_is bytes rest ts offset w at = omega (arith, at, ap length w.parts, length-append (documents_bytes ts) rest)

abbrev check : ℕ → ℕ → FirstFault → DocumentsCheck
check d n f = record { documents = d; bytes_read = n; fault = f }

same_check : (ts : List Tree) (last : Option BsonFault) (d n : ℕ) (f : FirstFault) → d ≡ length ts → n ≡ length (documents_bytes ts) → f ≡ first_fault last → check d n f ≡ documents_check ts last
same_check ts last d n f a b e = rw (a, b, e) refl

pub told : (bytes rest : List ℕ) (ts : List Tree) (d n : ℕ) (last : Option BsonFault) (f : FirstFault) → Walked bytes ts rest → d ≡ length ts → n + length rest ≡ length bytes
    → EndsAs n rest last → f ≡ first_fault last → IsDocumentsCheck bytes (check d n f)
told bytes rest ts d n last f w counted at ends is =
    let size = offset_is bytes rest ts n w at in
    (ts, rest, split_of bytes rest ts n last w ends, last, subst (λ (x : ℕ). EndsAs x rest last) size ends, same_check ts last d n f counted size is)

abbrev walk : ℕ → ℕ → ℕ → ℕ → FirstFault → DocumentsWalk
walk d n e s f = record { documents = d; bytes_read = n; elements = e; sizes = s; fault = f }

same_walk : (ts : List Tree) (last : Option BsonFault) (d n e s : ℕ) (f : FirstFault) → d ≡ length ts → n ≡ length (documents_bytes ts) → e ≡ sum_by elements_in ts → s ≡ sum_by sizes_in ts → f ≡ first_fault last
    → walk d n e s f ≡ documents_walk ts last
same_walk ts last d n e s f a b g h i = rw (a, b, g, h, i) refl

pub told_walk : (bytes rest : List ℕ) (ts : List Tree) (d n e s : ℕ) (last : Option BsonFault) (f : FirstFault) → Walked bytes ts rest → d ≡ length ts → n + length rest ≡ length bytes
    → e ≡ sum_by elements_in ts → s ≡ sum_by sizes_in ts → EndsAs n rest last → f ≡ first_fault last → IsDocumentsWalk bytes (walk d n e s f)
told_walk bytes rest ts d n e s last f w counted at elements sizes ends is =
    let size = offset_is bytes rest ts n w at in
    (ts, rest, split_of bytes rest ts n last w ends, last, subst (λ (x : ℕ). EndsAs x rest last) size ends, same_walk ts last d n e s f counted size elements sizes is)
