-- A document is read of its canonical JSON.
use Rattle.std.proofs.Common.{◌≡◌, ℕ, suc, List, [], ◌∷◌, ◌++◌, Some, Ok, true, IsUtf8, Result, Err, inl, inr, refl, sym, ap, ◌∙◌, subst, arith}
use Rattle.std.specs.Prelude.{IfErr, IfOk, MatchResult, OnOk, false, is_err}
use Rattle.std.specs.Io.KnownBytes.{Appends}
use Rattle.json.specs.Json as json
use Rattle.bson_elem.specs.declared.kinds.Kind.TheVariants as kinds
use Rattle.bson_elem.specs.Spelling.{Spells}
use Rattle.bson_elem.specs.Trees.{Tree}
use Rattle.bson_doc.specs.Document.{pairs_of, tree_of}
use Rattle.bson_json.specs.declared.mode.Mode.TheVariants.{Canonical}
use Rattle.bson_json.specs.Json.{IsJson}
use Rattle.bson_json_read.specs.Lossless.{IsLossless}
use Rattle.bson_json_read.specs.declared.fault.Cause.TheVariants.{OutOfMemory}
use Rattle.bson_json_read.specs.declared.fault.JsonFault.{JsonFault}
use Rattle.bson_json_read.specs.Reads.{Fault, IsFault, Read, and_map}
use Rattle.bson_json_read.specs.Texts.{document_as, document_in, json_in}
use Rattle.bson_json_read.specs.Values.{Pair, document_read, pairs_read, value_read}
use Rattle.bson_json_read.proofs.Printing.{json_printed}
use Rattle.bson_json_read.proofs.ReadBack.{printed_back}
use Rattle.bson_json_read.proofs.Trees.{bracketed, members_back, tree_back}

-- the outermost document
outermost_read : (n room : ℕ) (ms : json.Members) (t : Tree) → n ≡ suc room → pairs_read (value_read room) [] ms ≡ Ok (pairs_of t) → and_map tree_of (document_read n ms) ≡ Ok t
outermost_read n room ms t e h = rw (e, h) (ap Ok (tree_back t))

record DocumentBack (t : Tree) (text : List ℕ) : Type 0 where
  pub read : and_map tree_of (document_in text) ≡ Ok t
  pub utf8 : IsUtf8 text

both : (t : Tree) (bytes text : List ℕ) → Spells t bytes → IsLossless t → IsJson Canonical t text → DocumentBack t text
both t bytes text spelled lossless (inside, h, is) =
    let x = members_back kinds.Document 199 1 1 0 [] true t inside refl refl spelled.fits lossless.numbered lossless.distinct lossless.values h in
    let j = json.object x.members in
    let printed = json_printed j ∙ ap (λ l. 123 ∷ l) x.printed ∙ sym is in
    let found = sym (ap json_in printed) ∙ printed_back j x.numbers (omega (arith, x.shallow)) in
    record {
      read = ap (λ o. and_map tree_of (document_as o)) found ∙ outermost_read 200 199 x.members t refl (x.read [] refl);
      utf8 = subst IsUtf8 (sym is) (bracketed 123 125 inside refl refl x.utf8);
    }

pub document_back : (t : Tree) (bytes text : List ℕ) → Spells t bytes → IsLossless t → IsJson Canonical t text → and_map tree_of (document_in text) ≡ Ok t
document_back t bytes text spelled lossless h = (both t bytes text spelled lossless h).read

pub document_utf8 : (t : Tree) (bytes text : List ℕ) → Spells t bytes → IsLossless t → IsJson Canonical t text → IsUtf8 text
document_utf8 t bytes text spelled lossless h = (both t bytes text spelled lossless h).utf8

-- what the code reads of it
same_value : (r : Read Tree) (x y : Tree) → r ≡ Ok x → r ≡ Ok y → x ≡ y
same_value r x y e h = cc

no_value : (r : Read Tree) (f : Fault) (y : Tree) → r ≡ Err f → r ≡ Ok y → ⊥
no_value r f y e h = cc

pub read_again : (t : Tree) (bytes text : List ℕ) (r : Result (List Pair) JsonFault) → Spells t bytes → IsLossless t → IsJson Canonical t text
    → IfOk r (λ d. document_in text ≡ Ok d) → IfErr r (λ e. IsFault (document_in text) e) → MatchResult r (λ d. tree_of d ≡ t) (λ e. e.cause ≡ OutOfMemory)
read_again t bytes text (Ok d) spelled lossless h ok err =
    same_value (and_map tree_of (document_in text)) (tree_of d) t (ap (and_map tree_of) ok) (document_back t bytes text spelled lossless h)
read_again t bytes text (Err e) spelled lossless h ok (inl memory) = memory
read_again t bytes text (Err e) spelled lossless h ok (inr fault) =
    absurd (no_value (and_map tree_of (document_in text)) (e.cause, e.path.items) t (ap (and_map tree_of) fault) (document_back t bytes text spelled lossless h))

-- what was read of a text, with the text
pub read_of : (t : Tree) (text : List ℕ) (r : Result (List Pair) JsonFault) → IsJson Canonical t text
    → IfOk r (λ d. document_in text ≡ Ok d) → IfOk r (λ d. (x : List ℕ) × IsJson Canonical t x × (document_in x ≡ Ok d))
read_of t text (Ok d) is ok = (text, is, ok)
read_of t text (Err e) is ok = tt

-- what was written into an empty list
pub written : {E : Type 0} (r : Result (Unit {0}) E) (old new : List ℕ) (IsThis : List ℕ → Type 0) → is_err r ≡ false → old ≡ []
    → OnOk r ((text : List ℕ) × IsThis text × Appends (Some old) (Some new) text) → IsThis new
written (Ok u) old new IsThis e none (text, is, grown) = subst IsThis (sym (grown ∙ ap (λ l. l ++ text) none)) is
written (Err f) old new IsThis e none h = cc e
