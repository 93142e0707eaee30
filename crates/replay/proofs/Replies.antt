-- Documents back to back that are compared one by one, and then what is behind them.
use Rattle.std.proofs.Common.{◌≡◌, ◌⊎◌, ◌∙◌, inl, inr, ℕ, pos, arith, length, append_assoc, Bool, Bor, List, [], ◌∷◌, ◌++◌, refl, ap, sym, subst, false}
use Rattle.std.specs.Prelude.{◌↔◌, IsTrue, Ok, Err, OnOk, Result}
use Rattle.std.specs.Result.{IsErrOf}
use Rattle.std.specs.Int.{w32, cast_signed, from_le_bytes}
use Rattle.std.specs.Str.{bytes_eq}
use Rattle.std.proofs.lemmas.Slice.Eq.{bytes_eq-Decides}
use Rattle.bson_elem.specs.declared.fault.BsonFault.{BsonFault}
use Rattle.bson_elem.specs.{FrontFault, Spells, Tree}
use Rattle.bson_raw.specs.declared.document.RawDocument.{RawDocument}
use Rattle.bson_raw.specs.{DocumentSplit, IsSpelled, document_bytes}
use Rattle.bson_raw.proofs.Lemmas.{document_takes}
use Rattle.wire_msg.specs.{IsMessage, number_at}
use Rattle.wire_msg.proofs.Lemmas.{msg_read}
use Rattle.replay.specs.Same.{OneByOne}
use Rattle.replay.specs.Held.{IsReply}
use Rattle.replay.proofs.Comparing.{not_true, told_by_bytes}

-- ---- the document at the front

-- no document stands there
abbrev pub BeginsWithNone : List ℕ → Type 0
BeginsWithNone bytes = (t : Tree) (b after : List ℕ) → Spells t b → bytes ≡ b ++ after → ⊥

-- it is that of the first tree, and what is behind it splits into the others and the rest
pub record First (trees : List Tree) (rest b after : List ℕ) : Type 0 where
  pub tree : Tree
  pub others : List Tree
  pub is_first : trees ≡ tree ∷ others
  pub spelled : Spells tree b
  pub left : DocumentSplit after others rest

-- what `front` returns where it finds a document, which is no fault
abbrev ok : RawDocument × Bor (List ℕ) → Result (RawDocument × Bor (List ℕ)) BsonFault
ok found = Ok found

is_err : (found : RawDocument × Bor (List ℕ)) (f : BsonFault) → IsErrOf (ok found) f → ⊥
is_err found f e = cc

-- the first document, and what is behind it
first_parts : (bytes : List ℕ) (t : Tree) (ts : List Tree) (rest : List ℕ) (s : DocumentSplit bytes (t ∷ ts) rest) → bytes ≡ s.spelled.0 ++ (s.spelled.1 ++ rest)
first_parts bytes t ts rest s = s.parts ∙ ap (λ (x : List ℕ). x ++ rest) s.spelled.4 ∙ append_assoc s.spelled.0 s.spelled.1 rest

-- or there is none
no_first : (bytes rest : List ℕ) → DocumentSplit bytes [] rest → bytes ≡ rest
no_first bytes rest s = s.parts ∙ ap (λ (x : List ℕ). x ++ rest) s.spelled

-- a document begins the bytes, so they are no rest
not_none : (bytes rest : List ℕ) (t : Tree) (b after : List ℕ) → Spells t b → bytes ≡ b ++ after → ((f : BsonFault) → FrontFault bytes f → ⊥) → bytes ≡ rest → (rest ≡ []) ⊎ ((f : BsonFault) × FrontFault rest f) → ⊥
not_none bytes rest t b after s is no_fault e (inl none) =
    let takes = document_takes t b bytes after s is in omega (arith, takes.0, takes.1, ap length (e ∙ none))
not_none bytes rest t b after s is no_fault e (inr (f, fault)) = no_fault f (subst (λ (x : List ℕ). FrontFault x f) (sym e) fault)

-- the document that `front` found is the first one of the split
pub first_of : (bytes : List ℕ) (ts : List Tree) (rest : List ℕ) (found : RawDocument × Bor (List ℕ))
    → (bytes ≡ document_bytes found.0 ++ found.1.now) × IsSpelled (document_bytes found.0)
    → ((t : Tree) (b after : List ℕ) → Spells t b → bytes ≡ b ++ after → (document_bytes found.0 ≡ b) × (found.1.now ≡ after))
    → ((f : BsonFault) → FrontFault bytes f → IsErrOf (ok found) f)
    → DocumentSplit bytes ts rest → First ts rest (document_bytes found.0) found.1.now
first_of bytes [] rest found is only fault split =
    absurd (not_none bytes rest is.1.0 (document_bytes found.0) found.1.now is.1.1 is.0 (λ f x. is_err found f (fault f x)) (no_first bytes rest split) split.ends)
first_of bytes (u ∷ others) rest found is only fault split =
    let behind : List ℕ = split.spelled.1 ++ rest in
    let one = only u split.spelled.0 behind split.spelled.2 (first_parts bytes u others rest split) in
    let left : DocumentSplit behind others rest = record { joined = split.spelled.1; spelled = split.spelled.3; parts = refl; ends = split.ends } in
    record {
      tree = u;
      others = others;
      is_first = refl;
      spelled = subst (Spells u) (sym one.0) split.spelled.2;
      left = subst (λ (x : List ℕ). DocumentSplit x others rest) (sym one.1) left;
    }

-- no document stands there, so the split has none
pub none_of : (bytes : List ℕ) (ts : List Tree) (rest : List ℕ) → BeginsWithNone bytes → DocumentSplit bytes ts rest → ts ≡ []
none_of bytes [] rest none split = refl
none_of bytes (t ∷ ts) rest none split = absurd (none t split.spelled.0 (split.spelled.1 ++ rest) split.spelled.2 (first_parts bytes t ts rest split))

-- ---- what is behind the documents

-- some documents differ, so not both all documents and the rests are the same
pub not_both : (A B : Type 0) → (IsTrue false ↔ A) → IsTrue false ↔ (A × B)
not_both A B told = ((λ no. absurd (not_true no)), (λ both. told.1 both.0))

-- no document is left of the first ones, so what is left of both tells
pub rests_tell : (IsLike : Tree → Tree → Type 0) (All : Type 0) (xs ys : List Tree) (a b rest other : List ℕ) (same : Bool)
    → (All ↔ OneByOne IsLike xs ys) → BeginsWithNone a → DocumentSplit a xs rest → DocumentSplit b ys other → same ≡ bytes_eq a b
    → IsTrue same ↔ (All × (rest ≡ other))
rests_tell IsLike All [] [] a b rest other same so_far none split splits told =
    let bytes = told_by_bytes a b rest other same (no_first a rest split) (no_first b other splits) told in ((λ yes. (so_far.1 tt, bytes.0 yes)), (λ both. bytes.1 both.1))
rests_tell IsLike All [] (u ∷ ys) a b rest other same so_far none split splits told = (
  (λ yes. absurd (none u splits.spelled.0 (splits.spelled.1 ++ other) splits.spelled.2 ((bytes_eq-Decides a b).0 (sym told ∙ yes) ∙ first_parts b u ys other splits))),
  (λ both. absurd (so_far.0 both.0)),
)
rests_tell IsLike All (t ∷ xs) ys a b rest other same so_far none split splits told =
    absurd (none t split.spelled.0 (split.spelled.1 ++ rest) split.spelled.2 (first_parts a t xs rest split))

-- ---- what an answer is read as

-- an OP_REPLY is no OP_MSG
pub no_message : (limit : ℕ) (bytes : List ℕ) → IsMessage limit bytes → IsReply bytes → ⊥
no_message limit bytes (short, (m, s)) is =
    let one : cast_signed w32 (number_at bytes 12) ≡ pos 1 = ap (λ (x : List ℕ). cast_signed w32 (from_le_bytes w32 x)) is.1 in
    let two : pos 1 ≡ pos 2013 = sym one ∙ (msg_read m bytes s).opcode in cc

-- what holds anyway holds on Ok
pub counted : {A E : Type 0} {Holds : Type 0} (result : Result A E) → Holds → OnOk result Holds
counted (Ok value) holds = holds
counted (Err e) holds = tt
