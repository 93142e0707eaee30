-- The replies of commands, put together of what the calls gave.
use Rattle.std.proofs.Common.{◌≡◌, ℕ, ℤ, Bool, true, false, List, [], ◌∷◌, Result, Ok, Err, map, take, refl, sym, ap, subst, ◌∙◌}
use Rattle.std.specs.Prelude.{codes, IfOk, if◌then◌else◌, ◌==◌}
use Rattle.std.proofs.lemmas.List.{take-map}
use Rattle.bson_raw.specs.{TreeValue}
use Rattle.bson_doc.specs.{put}
use Rattle.doc_query.specs.{count_value}
use Rattle.test_store.specs.declared.answer.Batch.TheVariants.{First}
use Rattle.doc_query.specs.declared.failure.CommandError.{CommandError}
use Rattle.doc_query.specs.declared.failure.Failure.{Failure}
use Rattle.doc_query.specs.declared.failure.Failure.TheVariants.{Refused}
use Rattle.doc_stages.specs.{after_batch, next_batch}
use Rattle.command_parts.specs.{double_one, refusal_pairs}
use Rattle.test_store.specs.Answers.{cursor_answer, put_any, written_pairs}
use Rattle.test_store.specs.Commands.{IsCarriedOut, Reply, found_reply, left_of, settled}
use Rattle.test_store.specs.Held.{NamespaceView, StoreView, namespace_text, opened, opened_id}
use Rattle.test_store.specs.Selecting.{limited}

cut-map : {A B : Type 0} (f : A → B) (k : ℕ) (all : Bool) (vs : List A) → map f (if all then vs else take k vs) ≡ (if all then map f vs else take k (map f vs))
cut-map f k true vs = refl
cut-map f k false vs = sym (take-map f k vs)

pub limited-map : {A B : Type 0} (f : A → B) (k : ℕ) (vs : List A) → map f (limited k vs) ≡ limited k (map f vs)
limited-map f k vs = cut-map f k (k == 0) vs

pub left_of-map : {A B : Type 0} (f : A → B) (single : Bool) (vs : List A) → map f (left_of single vs) ≡ left_of single (map f vs)
left_of-map f true vs = refl
left_of-map f false vs = refl

-- the answer of a write, filled field by field
pub written : (n : ℕ) (vs : List TreeValue) → put (codes "ok") double_one (put_any (codes "writeErrors") vs ((codes "n", count_value n) ∷ [])) ≡ written_pairs n vs
written n [] = refl
written n (v ∷ vs) = refl

pub found_answered : {E : Type 0} (s s' : StoreView) (n : NamespaceView) (all : List TreeValue) (count : ℕ) (single : Bool) (batch left : List TreeValue) (id : ℤ) (r : Result (List (List ℕ × TreeValue)) E)
    → batch ≡ next_batch count all → left ≡ left_of single (after_batch count all)
    → id ≡ opened_id left s.cursors
    → s'.cursors ≡ opened n left s.cursors → s'.collections ≡ s.collections
    → IfOk r (λ d. d ≡ cursor_answer First batch id (namespace_text n))
    → IfOk r (λ d. found_reply s n all count single ≡ record { answer = d; held = s' })
found_answered s s' n all count single batch left id (Err e) b l i o k is = tt
found_answered s s' n all count single batch left id (Ok d) b l i o k is =
    let others : List TreeValue = left_of single (after_batch count all) in
    let number : id ≡ opened_id others s.cursors = i ∙ ap (λ (vs : List TreeValue). opened_id vs s.cursors) l in
    let answer : d ≡ cursor_answer First (next_batch count all) (opened_id others s.cursors) (namespace_text n) =
    is ∙ (λ j. cursor_answer First (b j) (number j) (namespace_text n)) in
    let cursors : s'.cursors ≡ opened n others s.cursors = o ∙ ap (λ (vs : List TreeValue). opened n vs s.cursors) l in
    λ j. record { answer = sym answer j; held = record { collections = sym k j; cursors = sym cursors j } }

-- an error is answered, and changes nothing
pub refused_settled : {E : Type 0} (s s' : StoreView) (step : Result Reply CommandError) (f : Failure) (e : CommandError) (r : Result (List (List ℕ × TreeValue)) E)
    → f ≡ Refused e → IsCarriedOut step s (Err f) s' → IfOk r (λ d. d ≡ refusal_pairs e) → IfOk r (λ d. settled s step ≡ record { answer = d; held = s' })
refused_settled s s' step f e (Err x) why carried is = tt
refused_settled s s' step f e (Ok d) why carried is =
    let was : (step ≡ Err e) × (s' ≡ s) = subst (λ (g : Failure). IsCarriedOut step s (Err g) s') why carried in
    ap (settled s) was.0 ∙ (λ j. record { answer = sym is j; held = sym was.1 j })
