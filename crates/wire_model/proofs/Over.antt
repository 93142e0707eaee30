-- A client that is closed since no more bytes come was told the end.
use Rattle.std.proofs.Common.{◌≡◌, ◌≢◌, ℕ, ℤ, Bool, true, false, ◌&&◌, ◌||◌, not, if◌then◌else◌, ◌⊎◌, List, [], ◌∷◌, ◌++◌, length, take, refl, sym, ◌∙◌, subst, Option, Some, None, inl, inr, Result, Ok, Err, Contains}
use Rattle.std.specs.Ordering.{int_eq}
use Rattle.std.proofs.lemmas.List.Elements.{Contains-append_left, Contains-append_right, Contains-push}
use Rattle.wire_msg.specs.{Message}
use Rattle.wire_peer.specs.{ClientSeen, Settles, Table, allowed, holding, owner, released}
use Rattle.wire_peer.specs.Calls.{allows_more}
use Rattle.wire_peer.specs.CallTables.{bearer, is_last_part, of_bearer, owner_by, stream}
use Rattle.wire_peer.specs.ClientSteps.{after_release, is_bad, is_message, is_open, received, state_after}
use Rattle.wire_peer.specs.declared.call_table.Outstanding.{Outstanding}
use Rattle.wire_peer.specs.declared.client_state.ClientCause.{ClientCause}
use Rattle.wire_peer.specs.declared.client_state.ClientCause.TheVariants as causes
use Rattle.wire_peer.specs.declared.client_state.ClientState.{ClientState}
use Rattle.wire_peer.specs.declared.client_state.ClientState.TheVariants.{Open, Closed}
use Rattle.wire_model.specs.Owners.{Calls, ClientAct, ClientEnd, ClientRun, Collects, EndsDown, SendsUp, TakesDown}
use Rattle.wire_model.specs.Alone.{IsOver}

-- no message has such a cause
abbrev LetsGoOn : Result (ℤ × Outstanding) ClientCause → Type 0
LetsGoOn r = (cause : ClientCause) → r ≡ Err cause → IsOver (Closed cause) → ⊥

no_end : (cause : ClientCause) → cause ≢ causes.Ended → cause ≢ causes.EndedInside
    → IsOver (Closed cause) → ⊥
no_end cause not_ not_inside (inl e) = not_ (let same : cause ≡ causes.Ended = cc in same)
no_end cause not_ not_inside (inr e) = not_inside (let same : cause ≡ causes.EndedInside = cc in same)

fine : (o : ℤ × Outstanding) → LetsGoOn (Ok o)
fine o cause e over = absurd (let no_ : Ok o ≡ Err cause = e in cc)

unfit : (why : ClientCause) → why ≢ causes.Ended → why ≢ causes.EndedInside → LetsGoOn (Err why)
unfit why not_ not_inside cause e over =
    no_end why not_ not_inside (subst (λ z. IsOver (Closed z)) (let same : cause ≡ why = cc in same) over)

of_stream_on : (o : ℤ × Outstanding) (to : ℤ) (b : Bool)
    → LetsGoOn (if b then Ok o else Err causes.StreamBroken)
of_stream_on o to true = fine o
of_stream_on o to false = unfit causes.StreamBroken (λ e. cc) (λ e. cc)

of_bearer_on : (o : Option Outstanding) (to : ℤ) → LetsGoOn (of_bearer o to)
of_bearer_on None to = unfit (causes.UnknownReply to) (λ e. cc) (λ e. cc)
of_bearer_on (Some o) to = fine (to, o)

owner_on : (o : Option (ℤ × Outstanding)) (t : Table) (to : ℤ) → LetsGoOn (owner_by o t to)
owner_on (Some o) t to = of_stream_on o to (int_eq o.0 to || is_last_part o.1.last to)
owner_on None t to = of_bearer_on (bearer to t) to

more_on : (o : ℤ × Outstanding) (b : Bool) → LetsGoOn (if b then Err causes.MoreNotAllowed else Ok o)
more_on o true = unfit causes.MoreNotAllowed (λ e. cc) (λ e. cc)
more_on o false = fine o

allowed_on : (more : Bool) (r : Result (ℤ × Outstanding) ClientCause) → LetsGoOn r
    → LetsGoOn (allowed more r)
allowed_on more (Ok o) on = more_on o (more && not (allows_more o.1.kind))
allowed_on more (Err cause) on = on

open_on : (s : ClientState) → s ≡ Open → IsOver s → ⊥
open_on s live (inl e) = absurd (let no_ : Open ≡ Closed causes.Ended = sym live ∙ e in cc)
open_on s live (inr e) = absurd (let no_ : Open ≡ Closed causes.EndedInside = sym live ∙ e in cc)

received_on : (k : ClientSeen) (m : Message) (r : Result (ℤ × Outstanding) ClientCause) → LetsGoOn r
    → k.state ≡ Open → IsOver (received k m r).state → ⊥
received_on k m (Ok o) on live over = open_on k.state live over
received_on k m (Err cause) on live over =
    on cause refl (subst (λ s. IsOver (state_after s cause)) live over)

settles_on : (k new : ClientSeen) → k.state ≡ Open → Settles k new → IsOver new.state → ⊥
settles_on k new live (is_open o same) over =
    open_on k.state live (subst (λ z. IsOver z.state) same over)
settles_on k new live (is_message m s w same) over =
    received_on k m (allowed m.flags.more_to_come (owner k.requests.outstanding m.response_to))
    (allowed_on m.flags.more_to_come _ (owner_on (stream k.requests.outstanding) k.requests.outstanding m.response_to))
    live (subst (λ z. IsOver z.state) same over)
settles_on k new live (is_bad f bad same) over =
    no_end (causes.Message f) (λ e. cc) (λ e. cc)
    (subst (λ s. IsOver (state_after s (causes.Message f))) live (subst (λ z. IsOver z.state) same over))

told_later : (act : ClientAct) (acts : List ClientAct) {A : Type 0} → A ⊎ Contains acts EndsDown
    → A ⊎ Contains (act ∷ acts) EndsDown
told_later act acts (inl a) = inl a
told_later act acts (inr c) = inr (Contains-append_right (act ∷ []) acts EndsDown c)

told_by : (c : ℕ) (acts : List ClientAct) (old new : ClientEnd) → ClientRun c old acts new
    → IsOver new.client.state → IsOver old.client.state ⊎ Contains acts EndsDown
told_by c [] old new same over = inl (subst (λ z. IsOver z.client.state) same over)
told_by c (Calls kind payload number ∷ acts) old new (mid, (is, e), run) over =
    told_later _ acts (told_by c acts _ new (subst (λ z. ClientRun c z acts new) e run) over)
told_by c (SendsUp bytes ∷ acts) old new (mid, (rest, output, e), run) over =
    told_later _ acts (told_by c acts _ new (subst (λ z. ClientRun c z acts new) e run) over)
told_by c (EndsDown ∷ acts) old new (mid, e, run) over = inr (Contains-append_left (EndsDown ∷ []) acts EndsDown (Contains-push [] EndsDown))
told_by c (Collects reply m ∷ acts) old new (mid, (ready, spells, e), run) over =
    told_later _ acts (was_before (told_by c acts _ new (subst (λ z. ClientRun c z acts new) e run) over))
  where
    was_before : IsOver (released old.client).state ⊎ Contains acts EndsDown
        → IsOver old.client.state ⊎ Contains acts EndsDown
    was_before (inl over) =
        inl (subst (λ o. IsOver (after_release o old.client).state) ready over)
    was_before (inr c) = inr c
told_by c (TakesDown bytes ∷ acts) old new (mid, (client, takes, e), run) over =
    told_later _ acts (inr (later (told_by c acts _ new (subst (λ z. ClientRun c z acts new) e run) over)))
  where
    later : IsOver client.state ⊎ Contains acts EndsDown → Contains acts EndsDown
    later (inl over) = absurd (settles_on (holding old.client (old.client.held ++ take (length bytes) bytes)) client takes.may.1 takes.takes.settles over)
    later (inr c) = c

pub was_told : (c : ℕ) (acts : List ClientAct) (old new : ClientEnd) → ClientRun c old acts new
    → old.client.state ≡ Open → IsOver new.client.state → Contains acts EndsDown
was_told c acts old new run live over = by (told_by c acts old new run over)
  where
    by : IsOver old.client.state ⊎ Contains acts EndsDown → Contains acts EndsDown
    by (inl was) = absurd (open_on old.client.state live was)
    by (inr c) = c
