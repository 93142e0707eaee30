-- Two readings of a line do the same in a world.
use Rattle.std.proofs.Common.{◌≡◌, ℕ, List, Bor, Result, Ok, Err, sym, subst, inl, inr}
use Rattle.wire_model.specs.declared.events.Event.{Event}
use Rattle.wire_model.specs.declared.events.Event.TheVariants as events
use Rattle.wire_model.specs.declared.limits.WorldLimits.{WorldLimits}
use Rattle.wire_model.specs.declared.refusals.WorldRefusal.{WorldRefusal}
use Rattle.wire_model.specs.declared.refusals.WorldRefusal.TheVariants as refusals
use Rattle.wire_model.specs.declared.reports.Report.{Report}
use Rattle.wire_model.specs.{Calls, Happens, World}
use Rattle.wire_model.specs.Happening.{IsRefused, RunsOut}
use Rattle.wire_msg.specs.{Carries, Content}
use Rattle.wire_msg.specs.declared.payloads.Payload.{Payload}
use Rattle.wire_peer.specs.{Does, IsCallRefusal, Stops, content_of}
use Rattle.wire_peer.specs.ContentSets.{content_set}
use Rattle.wire_peer.specs.declared.calls.CallKind.{CallKind}
use Rattle.wire_peer.proofs.Lemmas.{content_is, of_content}
use Rattle.wire_play.specs.Naming.{Names, event}
use Rattle.wire_play.specs.Same.{IsSame}
use Rattle.wire_play.proofs.Readings.{one_named}

-- two payloads have the same content if one carries all that the other does
one_carried : (p q : Payload) → ((content : Content) → Carries p content → Carries q content) → content_of p ≡ content_of q
one_carried p q carried = sym (of_content p {P = λ content. content_of q ≡ content} (content_set _ _) (λ content k. content_is q content (carried content k)))

inside : (e f : Event) → event e ≡ event f → e ≡ f
inside e f same = cc

module _ {H : Type 0} (does : Does H) (stops : Stops H) (l : WorldLimits) (old new : World H) where
  -- ---- a call that carries the same

  same_refusal : (c : ℕ) (kind : CallKind) (p q : Payload) → content_of p ≡ content_of q → (refusal : WorldRefusal) → IsRefused l old (events.Call c kind p) refusal new → IsRefused l old (events.Call c kind q) refusal new
  same_refusal c kind p q same (refusals.Call refusal) h =
      (h.0, h.1, (h.2.0, h.2.1, h.2.2, subst (λ (content : Content). IsCallRefusal h.2.0.client kind content refusal) same h.2.3))
  same_refusal c kind p q same refusals.OutOfMemory h = (h.0, elim h.1 [ inl m ↦ absurd m.1 | inr m ↦ inr (runs m) ])
    where
      runs : RunsOut l old (events.Call c kind p) new → RunsOut l old (events.Call c kind q) new
      runs m = record { c = m.c; is = m.is; done = m.done; part = m.part; after = m.after }
  same_refusal c kind p q same refusal h = h

  same_call_step : (c : ℕ) (kind : CallKind) (p q : Payload) → content_of p ≡ content_of q → (r : Result Report WorldRefusal) → Happens does stops l old (events.Call c kind p) r new → Happens does stops l old (events.Call c kind q) r new
  same_call_step c kind p q same (Ok report) h =
      (h.0, (h.1.0, h.1.1, subst (λ (content : Content). Calls old c kind content h.1.0 new) same h.1.2))
  same_call_step c kind p q same (Err refusal) h = same_refusal c kind p q same refusal h

  -- ---- the same raw bytes

  -- the same bytes, wherever they are borrowed from
  same_place : (c : ℕ) (a b : Bor (List ℕ)) → (r : Result Report WorldRefusal) → Happens does stops l old (events.Raw c a) r new → Happens does stops l old (events.Raw c (record b { now = a.now })) r new
  same_place c a b (Ok report) h = h
  same_place c a b (Err refusals.OutOfMemory) h = (h.0, elim h.1 [ inl m ↦ absurd m.1 | inr m ↦ inr (runs m) ])
    where
      runs : RunsOut l old (events.Raw c a) new → RunsOut l old (events.Raw c (record b { now = a.now })) new
      runs m = record { c = m.c; is = m.is; done = m.done; part = m.part; after = m.after }
  same_place c a b (Err refusal) h = h

  same_raw_step : (c : ℕ) (a b : Bor (List ℕ)) → b.now ≡ a.now → (r : Result Report WorldRefusal) → Happens does stops l old (events.Raw c a) r new → Happens does stops l old (events.Raw c b) r new
  same_raw_step c a b same r h = subst (λ (bytes : List ℕ). Happens does stops l old (events.Raw c (record b { now = bytes })) r new) (sym same) (same_place c a b r h)

  -- ---- two readings

  same_reading_step : (e f : Event) → IsSame (event e) (event f) → (r : Result Report WorldRefusal) → Happens does stops l old e r new → Happens does stops l old f r new
  same_reading_step (events.Call c kind p) f same r h =
      subst (λ (g : Event). Happens does stops l old g r new) (sym (inside f (events.Call c kind same.0) same.1)) (same_call_step c kind p same.0 (one_carried p same.0 same.2) r h)
  same_reading_step (events.Raw c bytes) f same r h =
      subst (λ (g : Event). Happens does stops l old g r new) (sym (inside f (events.Raw c same.0) same.1)) (same_raw_step c bytes same.0 same.2 r h)
  same_reading_step e f same r h = subst (λ (g : Event). Happens does stops l old g r new) (sym (inside f e same)) h

  pub same_step : (line : List ℕ) (e f : Event) (r : Result Report WorldRefusal) → Names line (event e) → Names line (event f) → Happens does stops l old e r new → Happens does stops l old f r new
  same_step line e f r names names' h = same_reading_step e f (one_named line (event e) (event f) names names') r h
