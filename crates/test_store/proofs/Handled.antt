-- An answer that was appended, or wasn't.
use Rattle.std.proofs.Common.{◌≡◌, ◌++◌, ℕ, List, [], ◌∷◌, Result, Ok, Err, refl, sym, ap, ◌∙◌, inl}
use Rattle.std.specs.Prelude.{IfErr, OnOk}
use Rattle.bson_raw.specs.{TreeValue}
use Rattle.bson_doc.specs.Document.{tree_of}
use Rattle.wire_msg.specs.{Content, body_alone}
use Rattle.wire_peer.specs.{Asked}
use Rattle.wire_peer.specs.declared.handlers.HandlerStop.{HandlerStop}
use Rattle.wire_peer.specs.declared.handlers.HandlerStop.TheVariants.{Failed, OutOfMemory}
use Rattle.test_store.specs.declared.store.Store.{Store}
use Rattle.test_store.specs.Commands.{Reply, reply_to}
use Rattle.command_parts.specs.{IsUnanswerable, WantsMemory}
use Rattle.test_store.specs.Handling.{Answered, StopsAt}
use Rattle.test_store.specs.Held.{store_of}

pub answered : {E : Type 0} (s s' : Store) (a : Asked) (d : List (List ℕ × TreeValue)) (old new : List Content) (r : Result (Unit {0}) E)
    → reply_to (store_of s) a.payload ≡ record { answer = d; held = store_of s' } → old ≡ []
    → OnOk r (new ≡ old ++ body_alone (tree_of d) ∷ []) → OnOk r (Answered s a new s')
answered s s' a d old new (Err e) is none put = tt
answered s s' a d old new (Ok u) is none put = (
  put ∙ ap (λ (l : List Content). l ++ body_alone (tree_of d) ∷ []) none ∙ ap (λ (q : Reply). body_alone (tree_of q.answer) ∷ []) (sym is),
  sym (ap (λ (q : Reply). q.held) is),
)

pub stopped : (s s' : Store) (a : Asked) (d : List (List ℕ × TreeValue)) (r : Result (Unit {0}) HandlerStop)
    → reply_to (store_of s) a.payload ≡ record { answer = d; held = store_of s' }
    → IfErr r (λ stop. stop ≡ Failed → IsUnanswerable (tree_of d))
    → IfErr r (λ stop. stop ≡ OutOfMemory → WantsMemory (tree_of d)) → IfErr r (λ stop. StopsAt s a stop s')
stopped s s' a d (Ok u) is failed memory = tt
stopped s s' a d (Err Failed) is failed memory =
    (rw is (failed refl), sym (ap (λ (q : Reply). q.held) is))
stopped s s' a d (Err OutOfMemory) is failed memory =
    inl (rw is (memory refl), sym (ap (λ (q : Reply). q.held) is))
