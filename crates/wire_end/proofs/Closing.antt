-- Why a client is closed at its end.
use Rattle.std.proofs.Common.{◌≡◌, ℕ, ℤ, Bool, true, false, List, [], ◌∷◌, Option, None, Some, ap, refl, sym, subst, ◌∙◌, inl, inr}
use Rattle.std.specs.Prelude.{◌⊎◌, ◌&&◌, ◌||◌, not, if◌then◌else◌, map, take, ◌++◌, length, Result, Ok, Err}
use Rattle.std.specs.Ordering.{int_eq}
use Rattle.wire_msg.specs.{Message}
use Rattle.wire_peer.specs.{ClientSeen, MayTake, Settles, Table, allowed, holding, owner}
use Rattle.wire_peer.specs.Calls.{allows_more}
use Rattle.wire_peer.specs.CallTables.{bearer, is_last_part, of_bearer, owner_by, stream}
use Rattle.wire_peer.specs.ClientSteps.{end_cause, is_bad, is_message, is_open, received, state_after}
use Rattle.wire_peer.specs.declared.call_table.Outstanding.{Outstanding}
use Rattle.wire_peer.specs.declared.call_table.ReadyReply.{ReadyReply}
use Rattle.wire_peer.specs.declared.client_state.ClientCause.{ClientCause}
use Rattle.wire_peer.specs.declared.client_state.ClientCause.TheVariants as causes
use Rattle.wire_peer.specs.declared.client_state.ClientState.{ClientState}
use Rattle.wire_peer.specs.declared.client_state.ClientState.TheVariants.{Closed, Open}
use Rattle.wire_model.specs.{ClientEnd, ClientRun}
use Rattle.wire_model.specs.Owners.{EndsDown, TakesDown}
use Rattle.wire_stream.specs.{Rose}
use Rattle.wire_end.specs.declared.next.EndFault.TheVariants as faults
use Rattle.wire_end.specs.Ends.{Closes, EndRuns, EndSeen, IsWaiting, NextEnds}
use Rattle.wire_end.specs.Steps.{Hears}

-- ---- what bytes leave a client in

-- a client that was open may be in this state once it took bytes
abbrev IsLeft : ClientState → Type 0
IsLeft Open = Unit {0}
IsLeft (Closed causes.Ended) = ⊥
IsLeft (Closed causes.EndedInside) = ⊥
IsLeft (Closed cause) = Unit {0}

-- where a message belongs to no call, its cause is no end
abbrev IsNoEnd : Result (ℤ × Outstanding) ClientCause → Type 0
IsNoEnd (Ok o) = Unit {0}
IsNoEnd (Err cause) = IsLeft (Closed cause)

of_stream_or_broken : (b : Bool) (o : ℤ × Outstanding) → IsNoEnd (if b then Ok o else Err causes.StreamBroken)
of_stream_or_broken true o = tt
of_stream_or_broken false o = tt

of_its_bearer : (o : Option Outstanding) (to : ℤ) → IsNoEnd (of_bearer o to)
of_its_bearer None to = tt
of_its_bearer (Some o) to = tt

of_owner : (s : Option (ℤ × Outstanding)) (t : Table) (to : ℤ) → IsNoEnd (owner_by s t to)
of_owner (Some o) t to = of_stream_or_broken (int_eq o.0 to || is_last_part o.1.last to) o
of_owner None t to = of_its_bearer (bearer to t) to

more_or_not : (b : Bool) (o : ℤ × Outstanding) → IsNoEnd (if b then Err causes.MoreNotAllowed else Ok o)
more_or_not true o = tt
more_or_not false o = tt

of_allowed : (more : Bool) (r : Result (ℤ × Outstanding) ClientCause) → IsNoEnd r → IsNoEnd (allowed more r)
of_allowed more (Ok o) is = more_or_not (more && not (allows_more o.1.kind)) o
of_allowed more (Err cause) is = is

received_left : (k : ClientSeen) (m : Message) (r : Result (ℤ × Outstanding) ClientCause) → k.state ≡ Open
    → IsNoEnd r → IsLeft (received k m r).state
received_left k m (Ok o) live is = subst IsLeft (sym live) tt
received_left k m (Err cause) live is = subst (λ (s : ClientState). IsLeft (state_after s cause)) (sym live) is

settled_left : (k new : ClientSeen) → k.state ≡ Open → Settles k new → IsLeft new.state
settled_left k new live (is_open o e) = subst IsLeft (sym (ap (λ (z : ClientSeen). z.state) e ∙ live)) tt
settled_left k new live (is_message m s w e) =
    subst (λ (z : ClientSeen). IsLeft z.state) (sym e)
    (received_left k m (allowed m.flags.more_to_come (owner k.requests.outstanding m.response_to)) live
    (of_allowed m.flags.more_to_come (owner k.requests.outstanding m.response_to)
    (of_owner (stream k.requests.outstanding) k.requests.outstanding m.response_to)))
settled_left k new live (is_bad f b e) =
    subst (λ (z : ClientSeen). IsLeft z.state) (sym e)
    (subst (λ (s : ClientState). IsLeft (state_after s (causes.Message f))) (sym live) tt)

-- a client that took pieces was open, and is as they left it; or it took none
taken_left : (c : ℕ) (pieces : List (List ℕ)) (old new : ClientEnd) → ClientRun c old (map TakesDown pieces) new
    → (new.client ≡ old.client) ⊎ ((old.client.state ≡ Open) × IsLeft new.client.state)
taken_left c [] old new run = inl (ap (λ (e : ClientEnd). e.client) run)
taken_left c (p ∷ pieces) old new (mid, (client, takes, is), rest) =
    inr (takes.may.1, by (taken_left c pieces mid new rest))
  where
    mid_left : IsLeft mid.client.state
    mid_left =
        subst (λ (e : ClientEnd). IsLeft e.client.state) (sym is)
        (settled_left (holding old.client (old.client.held ++ take (length p) p)) client takes.may.1
        takes.takes.settles)

    by : (new.client ≡ mid.client) ⊎ ((mid.client.state ≡ Open) × IsLeft new.client.state)
        → IsLeft new.client.state
    by (inl same) = subst (λ (z : ClientSeen). IsLeft z.state) (sym same) mid_left
    by (inr left) = left.1

-- ---- and the end

module _ {L : Type 0} (sent received : L → Option (List ℕ)) where
  -- the state of a client that was told the end
  state_told : (mid new : EndSeen L) → EndRuns sent received mid (EndsDown ∷ []) new
      → new.own.client.state
      ≡ state_after mid.own.client.state (end_cause mid.own.client.reply mid.own.client.held)
  state_told mid new r = ap (λ (e : ClientEnd). e.client.state) (r.run.2 ∙ r.run.1)

  -- the cause of a client that was closed before stays
  first_stays : (mid new : EndSeen L) (cause first : ClientCause) → EndRuns sent received mid (EndsDown ∷ []) new
      → new.own.client.state ≡ Closed cause → mid.own.client.state ≡ Closed first
      → mid.own.client.state ≡ Closed cause
  first_stays mid new cause first r shut was =
      was
      ∙ sym (ap (λ (s : ClientState). state_after s (end_cause mid.own.client.reply mid.own.client.held)) was)
      ∙ sym (state_told mid new r)
      ∙ shut

  module _ (ends : L → ℕ) where
    tells_end : (reply : Option ReadyReply) (held : List ℕ) (old new : EndSeen L) → new.inlet ≡ []
        → Rose (ends old.link) (ends new.link) → Closes ends (end_cause reply held) old new
    tells_end None [] old new none rose = (none, rose)
    tells_end None (b ∷ held) old new none rose = (none, rose)
    tells_end (Some reply) held old new none rose = (none, rose)

    tells_none : (cause : ClientCause) (old new : EndSeen L) → IsLeft (Closed cause)
        → ends new.link ≡ ends old.link → Closes ends cause old new
    tells_none (causes.Message fault) old new left same = same
    tells_none (causes.UnknownReply to) old new left same = same
    tells_none causes.MoreNotAllowed old new left same = same
    tells_none causes.StreamBroken old new left same = same
    tells_none causes.Ended old new left same = absurd left
    tells_none causes.EndedInside old new left same = absurd left

    -- the link told its end while the client took bytes, and the client was told it
    pub ends_told : (old mid new : EndSeen L) (cause : ClientCause) → Hears sent received old mid → IsWaiting mid
        → Rose (ends old.link) (ends mid.link) → EndRuns sent received mid (EndsDown ∷ []) new
        → new.own.client.state ≡ Closed cause → new.link ≡ mid.link → new.inlet ≡ mid.inlet
        → NextEnds ends (Err (faults.Closed cause)) old new
    ends_told old mid new cause (pieces, heard) waits rose r shut link inlet =
        inr (was (taken_left old.connection pieces old.own mid.own heard.run), closes)
      where
        was : (mid.own.client ≡ old.own.client) ⊎ ((old.own.client.state ≡ Open) × IsLeft mid.own.client.state)
            → old.own.client.state ≡ Open
        was (inl same) = ap (λ (z : ClientSeen). z.state) (sym same) ∙ waits.0.1
        was (inr left) = left.0

        is : cause ≡ end_cause mid.own.client.reply mid.own.client.held
        is =
            let told : Closed cause ≡ Closed (end_cause mid.own.client.reply mid.own.client.held) = sym shut
            ∙ state_told mid new r
            ∙ ap (λ (s : ClientState). state_after s (end_cause mid.own.client.reply mid.own.client.held)) waits.0.1 in
            cc

        closes : Closes ends cause old new
        closes =
            subst (λ (c : ClientCause). Closes ends c old new) (sym is)
            (tells_end mid.own.client.reply mid.own.client.held old new (inlet ∙ waits.1)
            (subst (λ (l : L). Rose (ends old.link) (ends l)) (sym link) rose))

    -- the client takes no more bytes, and no reply is ready: so it is closed, and is told the end
    pub ends_untold : (old mid new : EndSeen L) (cause : ClientCause) → Hears sent received old mid
        → (MayTake mid.own.client → ⊥) → mid.own.client.reply ≡ None → ends mid.link ≡ ends old.link
        → EndRuns sent received mid (EndsDown ∷ []) new → new.own.client.state ≡ Closed cause
        → new.link ≡ mid.link → NextEnds ends (Err (faults.Closed cause)) old new
    ends_untold old mid new cause (pieces, heard) full none same r shut link =
        by (taken_left old.connection pieces old.own mid.own heard.run)
      where
        at : (s : ClientState) → mid.own.client.state ≡ s → mid.own.client.state ≡ Closed cause
        at Open is = absurd (full (none, is))
        at (Closed first) is = first_stays mid new cause first r shut is

        was : mid.own.client.state ≡ Closed cause
        was = at mid.own.client.state refl

        stays : ends new.link ≡ ends old.link
        stays = ap ends link ∙ same

        by : (mid.own.client ≡ old.own.client) ⊎ ((old.own.client.state ≡ Open) × IsLeft mid.own.client.state)
            → NextEnds ends (Err (faults.Closed cause)) old new
        by (inl kept) = inl (ap (λ (z : ClientSeen). z.state) (sym kept) ∙ was, stays)
        by (inr left) = inr (left.0, tells_none cause old new (subst IsLeft was left.1) stays)
