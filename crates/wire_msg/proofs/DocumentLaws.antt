-- Documents back to back.
use Rattle.std.proofs.Common.{◌≡◌, ◌≢◌, ℕ, ◌+◌, ◌-◌, List, [], ◌∷◌, ◌++◌, length, refl, sym, ap, ◌∙◌, append_assoc, arith, length-append}
use Rattle.std.proofs.lemmas.List.{append-nil}
use Rattle.bson_elem.specs.declared.fault.BsonFault.{BsonFault}
use Rattle.bson_elem.specs.Trees.{Tree}
use Rattle.bson_elem.specs.Spelling.{document, elements}
use Rattle.bson_elem.specs.Faults.{FrontFault}
use Rattle.bson_raw.specs.Spelled.{IsSpelled}
use Rattle.wire_msg.specs.declared.fault.MsgCause.TheVariants.{Document}
use Rattle.wire_msg.specs.Causes.{msg_fault}
use Rattle.bson_raw.specs.Split.{AreDocuments, documents_bytes}
use Rattle.bson_raw.proofs.Lemmas.{AreDocuments-append, documents_bytes-append, is_document}
use Rattle.wire_msg.specs.Faults.{DocumentsFault}

-- ---- one document more

-- documents stand before a rest
pub record DocumentsBefore (bytes rest : List ℕ) : Type 0 where
  pub documents : List Tree
  pub fits : AreDocuments documents
  pub parts : bytes ≡ documents_bytes documents ++ rest

pub one_more : (bytes rest d after : List ℕ) → DocumentsBefore bytes rest → IsSpelled d → rest ≡ d ++ after → DocumentsBefore bytes after
one_more bytes rest d after b s is =
    let t : Tree = s.0 in
    let whole : d ≡ document (elements t) = s.1.parts in
    let single : documents_bytes (t ∷ []) ≡ document (elements t) = append-nil (document (elements t)) in
    let more : documents_bytes (b.documents ++ t ∷ []) ≡ documents_bytes b.documents ++ d = documents_bytes-append b.documents (t ∷ []) ∙ ap (λ (x : List ℕ). documents_bytes b.documents ++ x) (single ∙ sym whole) in
    record {
      documents = b.documents ++ t ∷ [];
      fits = AreDocuments-append b.documents (t ∷ []) b.fits (is_document t d s.1, tt);
      parts = b.parts ∙ ap (λ (x : List ℕ). documents_bytes b.documents ++ x) is ∙ sym (append_assoc (documents_bytes b.documents) d after) ∙ ap (λ (x : List ℕ). x ++ after) (sym more);
    }

pub fault_after : (start : ℕ) (bytes rest : List ℕ) (inner : BsonFault) → DocumentsBefore bytes rest → (length rest ≡ 0 → ⊥) → FrontFault rest inner → DocumentsFault start bytes (msg_fault (start + (length bytes - length rest)) (Document inner))
fault_after start bytes [] inner b some front = absurd (some refl)
fault_after start bytes (x ∷ rest) inner b some front =
    let offset : length bytes - length (x ∷ rest) ≡ length (documents_bytes b.documents) = omega (arith, ap length b.parts, length-append (documents_bytes b.documents) (x ∷ rest)) in
    record {
      documents = b.documents;
      first = x;
      rest = rest;
      inner = inner;
      parts = b.parts;
      fits = b.fits;
      front = front;
      is = ap (λ (n : ℕ). msg_fault (start + n) (Document inner)) offset;
    }

-- ---- documents that are left

pub nothing : (bytes : List ℕ) → length bytes ≡ 0 → bytes ≡ []
nothing [] e = refl
nothing (x ∷ xs) e = absurd (omega (arith, e))

pub none_left : (bytes : List ℕ) (ts : List Tree) → length bytes ≡ 0 → bytes ≡ documents_bytes ts → ts ≡ []
none_left bytes [] e is = refl
none_left bytes (t ∷ ts) e is = absurd (omega (arith, e, ap length is))

pub some_left : (bytes : List ℕ) (ts : List Tree) → length bytes ≢ 0 → bytes ≡ documents_bytes ts → (t : Tree) × (us : List Tree) × (ts ≡ t ∷ us)
some_left bytes [] some is = absurd (some (ap length is))
some_left bytes (t ∷ us) some is = (t, us, refl)
