-- Lists that are compared one by one, by two walks over them.
use Rattle.std.proofs.Common.{◌≡◌, ◌+◌, ◌<◌, ◌≤◌, ◌⊎◌, ◌∙◌, ℕ, arith, drop, length, inl, inr, Bool, Bor, true, false, List, [], ◌∷◌, Option, Some, None, Ok, Err, refl, ap, sym, subst}
use Rattle.std.specs.Prelude.{◌↔◌, IfOk, IsTrue, MatchOption, Result, is_none, not, slice_range}
use mathlib.Core.Bool.{beq}
use Rattle.std.specs.Option.{unwrap_or}
use Rattle.std.specs.Str.{bytes_eq}
use Rattle.std.proofs.lemmas.Grind.{common_steps}
use Rattle.std.proofs.lemmas.List.{drop_all}
use Rattle.std.proofs.lemmas.Slice.Eq.{bytes_eq-Decides}
use Rattle.std.specs.declared.alloc.AllocError.{AllocError}
use Rattle.bson_elem.specs.{Tree}
use Rattle.bson_raw.specs.declared.document.RawDocument.{RawDocument}
use Rattle.wire_msg.specs.declared.document_iter.DocumentsIter.{DocumentsIter}
use Rattle.wire_msg.specs.declared.document_iter.Documents.{Documents}
use Rattle.wire_msg.specs.declared.sequence_iter.SequencesIter.{SequencesIter}
use Rattle.wire_msg.specs.Documents.{DocumentStepsTo, DocumentsLeft}
use Rattle.wire_msg.specs.Sequences.{SequenceStepsTo, SequencesLeft}
use Rattle.wire_msg.specs.{Message, Sequence}
use Rattle.replay.specs.Stripped.{AreSame}
use Rattle.replay.specs.Same.{AreSameDocuments, AreSameMessages, IsSameSequence, OneByOne}
use Rattle.replay.specs.Held.{IsMessageOf}
use Rattle.replay.specs.declared.content.Content.{Content}
use Rattle.replay.specs.declared.content.Content.TheVariants as contents
use Rattle.wire_msg.specs.declared.msg.RawMsg.{RawMsg}

pub not_true : IsTrue false → ⊥
not_true e = cc

pub is_one : (a b : Bool) → not (beq a b) ≡ false → a ≡ b
is_one true true e = refl
is_one true false e = cc
is_one false true e = cc
is_one false false e = refl

pub are_two : (a b : Bool) → not (beq a b) ≡ true → a ≡ b → ⊥
are_two true true e f = not_true e
are_two true false e f = cc
are_two false true e f = cc
are_two false false e f = not_true e

pub turned : (a b : Bool) → b ≡ not a → a ≡ not b
turned true b e = ap not (sym e)
turned false b e = ap not (sym e)

along : (A : Type 0) (IsLike : A → A → Type 0) (a b c d : List A) → a ≡ c → b ≡ d → OneByOne IsLike a b → OneByOne IsLike c d
along A IsLike a b c d e f s = subst (λ (x : List A). OneByOne IsLike x d) e (subst (λ (x : List A). OneByOne IsLike a x) f s)

-- the first two are alike, so all are where the others are
pub others_tell : (A : Type 0) (IsLike : A → A → Type 0) (All : Type 0) (xs ys ts us : List A) (t u : A) (same : Bool)
    → (All ↔ OneByOne IsLike xs ys) → xs ≡ t ∷ ts → ys ≡ u ∷ us → (IsTrue same ↔ IsLike t u) → same ≡ true
    → All ↔ OneByOne IsLike ts us
others_tell A IsLike All xs ys ts us t u same so_far e f told it = (
  (λ all. (along A IsLike xs ys (t ∷ ts) (u ∷ us) e f (so_far.0 all)).1),
  (λ others. so_far.1 (along A IsLike (t ∷ ts) (u ∷ us) xs ys (sym e) (sym f) (told.0 it, others))),
)

-- they aren't, so not all are
pub differ : (A : Type 0) (IsLike : A → A → Type 0) (All : Type 0) (xs ys ts us : List A) (t u : A) (same : Bool)
    → (All ↔ OneByOne IsLike xs ys) → xs ≡ t ∷ ts → ys ≡ u ∷ us → (IsTrue same ↔ IsLike t u) → same ≡ false
    → IsTrue false ↔ All
differ A IsLike All xs ys ts us t u same so_far e f told it = (
  (λ no. absurd (not_true no)),
  (λ all. subst (λ (x : Bool). IsTrue x) it (told.1 (along A IsLike xs ys (t ∷ ts) (u ∷ us) e f (so_far.0 all)).0)),
)

-- there is none in its place
pub none_there : (A : Type 0) (IsLike : A → A → Type 0) (All : Type 0) (xs ys ts : List A) (t : A)
    → (All ↔ OneByOne IsLike xs ys) → xs ≡ t ∷ ts → ys ≡ [] → IsTrue false ↔ All
none_there A IsLike All xs ys ts t so_far e f = (
  (λ no. absurd (not_true no)),
  (λ all. absurd (along A IsLike xs ys (t ∷ ts) [] e f (so_far.0 all))),
)

-- none are left of the first ones, and one is of the others
one_more : (A : Type 0) (IsLike : A → A → Type 0) (All : Type 0) (xs ys us : List A) (u : A)
    → (All ↔ OneByOne IsLike xs ys) → xs ≡ [] → ys ≡ u ∷ us → IsTrue false ↔ All
one_more A IsLike All xs ys us u so_far e f = (
  (λ no. absurd (not_true no)),
  (λ all. absurd (along A IsLike xs ys [] (u ∷ us) e f (so_far.0 all))),
)

-- none are left of both
no_more : (A : Type 0) (IsLike : A → A → Type 0) (All : Type 0) (xs ys : List A)
    → (All ↔ OneByOne IsLike xs ys) → xs ≡ [] → ys ≡ [] → IsTrue true ↔ All
no_more A IsLike All xs ys so_far e f = ((λ yes. so_far.1 (along A IsLike [] [] xs ys (sym e) (sym f) tt)), (λ all. refl))

-- none are left of the first ones, and the walk over the others tells whether one is

pub documents_end : (IsLike : Tree → Tree → Type 0) (All : Type 0) (xs ys : List Tree) (before after : DocumentsIter) (next : Option RawDocument)
    → (All ↔ OneByOne IsLike xs ys) → xs ≡ [] → DocumentsLeft before ys → DocumentStepsTo before next after
    → IsTrue (is_none next) ↔ All
documents_end IsLike All xs ys before after None so_far e left steps = no_more Tree IsLike All xs ys so_far e (steps ys left).0
documents_end IsLike All xs ys before after (Some d) so_far e left steps =
    let step = steps ys left in one_more Tree IsLike All xs ys step.others step.tree so_far e step.is_first

pub sequences_end : (IsLike : Sequence → Sequence → Type 0) (All : Type 0) (xs ys : List Sequence) (before after : SequencesIter) (next : Option (Bor (List ℕ) × Documents))
    → (All ↔ OneByOne IsLike xs ys) → xs ≡ [] → SequencesLeft before ys → SequenceStepsTo before next after
    → IsTrue (is_none next) ↔ All
sequences_end IsLike All xs ys before after None so_far e left steps = no_more Sequence IsLike All xs ys so_far e (steps ys left).0
sequences_end IsLike All xs ys before after (Some q) so_far e left steps =
    let step = steps ys left in one_more Sequence IsLike All xs ys step.others step.sequence so_far e step.is_first

-- the identifiers are one, so the documents tell
pub told_by_documents : (names : List (List ℕ)) (q r : Sequence) (result : Result Bool AllocError) → q.identifier ≡ r.identifier
    → IfOk result (λ same. IsTrue same ↔ AreSameDocuments names q.documents r.documents) → IfOk result (λ same. IsTrue same ↔ IsSameSequence names q r)
told_by_documents names q r (Ok same) e told = ((λ yes. (e, told.0 yes)), (λ alike. told.1 alike.1))
told_by_documents names q r (Err x) e told = tt

-- moreToCome is one and so are the bodies, so the sequences tell
pub told_by_sequences : (names : List (List ℕ)) (m n : Message) (result : Result Bool AllocError) → m.flags.more_to_come ≡ n.flags.more_to_come → AreSame names m.content.body n.content.body
    → IfOk result (λ same. IsTrue same ↔ OneByOne (IsSameSequence names) m.content.sequences n.content.sequences) → IfOk result (λ same. IsTrue same ↔ AreSameMessages names m n)
told_by_sequences names m n (Ok same) e body told = ((λ yes. (e, body, told.0 yes)), (λ alike. told.1 alike.2))
told_by_sequences names m n (Err x) e body told = tt

-- what is read as a message isn't something else
pub read_as_message : (bytes : List ℕ) (k : Content) → IsMessageOf bytes k → ((m : RawMsg) → k ≡ contents.Message m → ⊥) → ⊥
read_as_message bytes (contents.Message m) is isnt = isnt m refl
read_as_message bytes (contents.Reply documents) is isnt = is
read_as_message bytes (contents.Other rest) is isnt = is

pub to_end : (n : ℕ) (xs : List ℕ) → n ≤ length xs → slice_range xs n (length xs) ≡ drop n xs
to_end n xs inside = grind (arith, common_steps)

-- the bytes from an offset on, or none
pub rest_from : (n : ℕ) (xs : List ℕ) (got : Option (Bor (List ℕ))) (none rest : Bor (List ℕ)) → rest ≡ unwrap_or got none → none.now ≡ []
    → MatchOption got ((length xs < n) ⊎ (length xs < length xs)) (λ x. (n ≤ length xs) × (length xs ≤ length xs) × (x.now ≡ slice_range xs n (length xs)) × (length x.now + n ≡ length xs))
    → rest.now ≡ drop n xs
rest_from n xs None none rest e empty outside =
    ap (λ (b : Bor (List ℕ)). b.now) e ∙ empty ∙ sym (drop_all n xs (elim outside [ inl h ↦ omega arith | inr h ↦ omega arith ]))
rest_from n xs (Some x) none rest e empty inside = ap (λ (b : Bor (List ℕ)). b.now) e ∙ inside.2 ∙ to_end n xs inside.0

-- bytes that are compared
pub told_by_bytes : (a b x y : List ℕ) (same : Bool) → a ≡ x → b ≡ y → same ≡ bytes_eq a b → IsTrue same ↔ (x ≡ y)
told_by_bytes a b x y same e f told = (
  (λ yes. sym e ∙ (bytes_eq-Decides a b).0 (sym told ∙ yes) ∙ f),
  (λ one. told ∙ (bytes_eq-Decides a b).1 (e ∙ one ∙ sym f)),
)
