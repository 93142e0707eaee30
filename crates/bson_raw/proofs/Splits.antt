-- Documents back to back: the walk over them, and that bytes have one split.
use Rattle.std.proofs.Common.{◌≡◌, ◌⊎◌, inl, inr, ℕ, ◌+◌, ◌≤◌, List, [], ◌∷◌, ◌++◌, length, refl, sym, ap, subst, ◌∙◌, append_assoc, arith, length-append}
use Rattle.std.proofs.lemmas.Grind.{flat_map-append}
use Rattle.std.proofs.lemmas.List.{append-nil}
use Rattle.bson_elem.specs.declared.fault.BsonFault.{BsonFault}
use Rattle.bson_elem.specs.Trees.{Tree}
use Rattle.bson_elem.specs.Spelling.{IsBytes, document, elements, Spells}
use Rattle.bson_elem.specs.Faults.{FrontFault}
use Rattle.bson_elem.proofs.Lemmas.{IsBytes-after, length-document, no_front, same_front}
use Rattle.framing.specs.{BeginsOnce}
use Rattle.framing.proofs.Lemmas.{all-append, each_is_spelled, joined_is, spellings_joined, split_once}
use Rattle.bson_raw.specs.Split.{IsDocument, AreDocuments, EndsDocuments, documents_bytes, DocumentSplit}

-- ---- documents joined

pub documents_bytes-append : (ts us : List Tree) → documents_bytes (ts ++ us) ≡ documents_bytes ts ++ documents_bytes us
documents_bytes-append = flat_map-append (λ (t : Tree). document (elements t))

pub AreDocuments-append : (ts us : List Tree) → AreDocuments ts → AreDocuments us → AreDocuments (ts ++ us)
AreDocuments-append = all-append IsDocument

-- bytes that spell a tree are the document of its elements
pub is_document : (t : Tree) (b : List ℕ) → Spells t b → IsDocument t
is_document t b s = subst (Spells t) s.parts s

-- ---- the walk from one document to the next

-- The bytes are these documents, back to back, and this rest.
pub record Walked (bytes : List ℕ) (documents : List Tree) (rest : List ℕ) : Type 0 where
  pub parts : bytes ≡ documents_bytes documents ++ rest
  pub documents_fit : AreDocuments documents

pub none_walked : (bytes : List ℕ) → Walked bytes [] bytes
none_walked bytes = record { parts = refl; documents_fit = tt }

-- one more document
pub one_more : (bytes : List ℕ) (ts : List Tree) (rest : List ℕ) (t : Tree) (b after : List ℕ) → Walked bytes ts rest → Spells t b → rest ≡ b ++ after → Walked bytes (ts ++ t ∷ []) after
one_more bytes ts rest t b after w s is =
    let last : documents_bytes (t ∷ []) ≡ document (elements t) = append-nil (document (elements t)) in
    record {
      parts = w.parts ∙ ap (λ (x : List ℕ). documents_bytes ts ++ x) (is ∙ ap (λ (x : List ℕ). x ++ after) (s.parts ∙ sym last))
          ∙ sym (append_assoc (documents_bytes ts) (documents_bytes (t ∷ [])) after)
          ∙ ap (λ (x : List ℕ). x ++ after) (sym (documents_bytes-append ts (t ∷ [])));
      documents_fit = AreDocuments-append ts (t ∷ []) w.documents_fit (is_document t b s, tt);
    }

-- what such a rest makes a split
ends_walk : (bytes : List ℕ) (ts : List Tree) (rest : List ℕ) → Walked bytes ts rest → EndsDocuments rest → DocumentSplit bytes ts rest
ends_walk bytes ts rest w ends = record {
  joined = documents_bytes ts;
  spelled = spellings_joined Spells (λ (t : Tree). document (elements t)) ts w.documents_fit;
  parts = w.parts;
  ends = ends;
}

-- nothing is left
pub walked_all : (bytes : List ℕ) (ts : List Tree) (rest : List ℕ) → Walked bytes ts rest → rest ≡ [] → DocumentSplit bytes ts rest
walked_all bytes ts rest w none = ends_walk bytes ts rest w (inl none)

-- no document begins what is left
pub walked_to_fault : (bytes : List ℕ) (ts : List Tree) (rest : List ℕ) (f : BsonFault) → Walked bytes ts rest → FrontFault rest f → DocumentSplit bytes ts rest
walked_to_fault bytes ts rest f w fault = ends_walk bytes ts rest w (inr (f, fault))

-- a document has one spelling, so those of a split are walked over
only_spelling : (t : Tree) (b : List ℕ) → Spells t b → b ≡ document (elements t)
only_spelling t b s = s.parts

pub split_walked : (bytes : List ℕ) (ts : List Tree) (rest : List ℕ) → DocumentSplit bytes ts rest → Walked bytes ts rest
split_walked bytes ts rest s = record {
  parts = s.parts ∙ ap (λ (x : List ℕ). x ++ rest) (joined_is Spells (λ (t : Tree). document (elements t)) only_spelling ts s.joined s.spelled);
  documents_fit = each_is_spelled Spells (λ (t : Tree). document (elements t)) only_spelling ts s.joined s.spelled;
}

-- a document takes five bytes at least
pub document_takes : (t : Tree) (b rest after : List ℕ) → Spells t b → rest ≡ b ++ after → (5 ≤ length b) × (length rest ≡ length b + length after)
document_takes t b rest after s is = (omega (arith, ap length s.parts, length-document (elements t)), ap length is ∙ length-append b after)

-- ---- one split

-- no document begins the rest
no_more : (t : Tree) (b rest after : List ℕ) → IsBytes rest → EndsDocuments rest → Spells t b → rest ≡ b ++ after → ⊥
no_more t b rest after fits (inl none) s is = omega (arith, (document_takes t b rest after s is).0, (document_takes t b rest after s is).1, ap length none)
no_more t b rest after fits (inr (f, fault)) s is = no_front rest t b after f fits s is fault

-- bytes begin with one document at most
pub documents_begin_once : BeginsOnce Spells
documents_begin_once = λ t u a b rest after s s' is. same_front (a ++ rest) t u a b rest after s s' refl is

pub same_split : (bytes : List ℕ) (ts us : List Tree) (rest rest' : List ℕ) → IsBytes bytes → DocumentSplit bytes ts rest → DocumentSplit bytes us rest' → (ts ≡ us) × (rest ≡ rest')
same_split bytes ts us rest rest' fits a b =
    split_once Spells documents_begin_once ts us a.joined b.joined rest rest' a.spelled b.spelled (sym a.parts ∙ b.parts)
    (λ t front after s is. no_more t front rest after (IsBytes-after a.joined rest (subst IsBytes a.parts fits)) a.ends s is)
    (λ t front after s is. no_more t front rest' after (IsBytes-after b.joined rest' (subst IsBytes b.parts fits)) b.ends s is)
