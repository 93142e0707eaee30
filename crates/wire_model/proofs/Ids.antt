-- No two outstanding calls of one client have the same id, whatever events come.
use Rattle.std.proofs.Common.{◌≡◌, ℕ, zero, suc, Bool, true, false, List, [], ◌∷◌, ◌++◌, length, map, take, refl, sym, ◌∙◌, ap, subst, Option, Some, None, inl, inr}
use Rattle.std.specs.Prelude.{ℤ, Result, Ok, Err, ◌||◌, if◌then◌else◌}
use Rattle.std.specs.List.{IsDistinct}
use Rattle.std.specs.Ordering.{int_eq}
use Rattle.std.proofs.lemmas.Option.{none-some, same_Some}
use Rattle.wire_msg.specs.{Content, Message}
use Rattle.wire_peer.specs.{ClientSeen, Does, IsCalled, Settles, Stops, Table, allowed, awaits_reply, called, content_of, ids, owner, released}
use Rattle.wire_peer.specs.ClientSteps.{after_release, is_bad, is_message, is_open, received}
use Rattle.wire_peer.specs.declared.call_table.Outstanding.{Outstanding}
use Rattle.wire_peer.specs.declared.call_table.ReadyReply.{ReadyReply}
use Rattle.wire_peer.specs.declared.calls.CallKind.{CallKind}
use Rattle.wire_peer.specs.declared.calls.CallNo.{CallNo}
use Rattle.wire_peer.specs.declared.client_state.ClientCause.{ClientCause}
use Rattle.wire_peer.specs.declared.server_state.AnswerRefusal.{AnswerRefusal}
use Rattle.wire_peer.specs.declared.server_state.AnswerRefusal.TheVariants as answers
use Rattle.wire_model.specs.declared.events.Event.{Event}
use Rattle.wire_model.specs.declared.events.Event.TheVariants as events
use Rattle.wire_model.specs.declared.limits.WorldLimits.{WorldLimits}
use Rattle.wire_model.specs.declared.refusals.WorldRefusal.{WorldRefusal}
use Rattle.wire_model.specs.declared.refusals.WorldRefusal.TheVariants as refusals
use Rattle.wire_model.specs.declared.reports.Report.{Report}
use Rattle.wire_model.specs.Conns.{Conn, Record, World, conn_at, conn_set, new_conn, new_raw_conn, opening}
use Rattle.wire_model.specs.Cuts.{all_cut, change, cut_at, cut_both, cut_down, restarted}
use Rattle.wire_model.specs.Moves.{ClientTakes, ClientTakesAll, MovesDown, MovesUp, TakesRaw, TakesUncopied}
use Rattle.wire_model.specs.Shown.{IdsApart}
use Rattle.wire_model.specs.Happening.{Answers, Happens, Succeeds, IsRefused, Opens, PartDone, Returns, Run}
use Rattle.wire_model.proofs.Bearers.{distinct-push, distinct-reply}
use Rattle.wire_model.proofs.Lists.{same_or_not}
use Rattle.wire_model.proofs.Places.{conn_map-back, conn_push-cases, conn_set-other, conn_set-same}

abbrev Apart : Table → Type 0
Apart t = IsDistinct int_eq (ids t)

-- ---- clients

distinct_received : (k : ClientSeen) (m : Message) (r : Result (ℤ × Outstanding) ClientCause) → Apart k.requests.outstanding → Apart (received k m r).requests.outstanding
distinct_received k m (Ok o) d = distinct-reply k.requests.outstanding o m.id m.flags.more_to_come d
distinct_received k m (Err cause) d = d

distinct_released : (k : ClientSeen) (reply : Option ReadyReply) → Apart k.requests.outstanding → Apart (after_release reply k).requests.outstanding
distinct_released k None d = d
distinct_released k (Some reply) d = d

distinct_takes : (old new : ClientSeen) (p : List ℕ) → ClientTakes old p new → Apart old.requests.outstanding → Apart new.requests.outstanding
distinct_takes old new p t d = by t.takes.settles
  where
    held : ClientSeen
    held = record old { held = old.held ++ take (length p) p }

    by : Settles held new → Apart new.requests.outstanding
    by (is_open o e) = rw e d
    by (is_message m s le e) = subst (λ (z : ClientSeen). Apart z.requests.outstanding) (sym e) (distinct_received held m (allowed m.flags.more_to_come (owner held.requests.outstanding m.response_to)) d)
    by (is_bad f b e) = rw e d

distinct_pieces : (indexes : List ℕ) (pieces : List (List ℕ)) (old new : ClientSeen) (calls calls' : List Record) → ClientTakesAll indexes old calls pieces new calls' → Apart old.requests.outstanding → Apart new.requests.outstanding
distinct_pieces indexes [] old new calls calls' t d = rw t.0 d
distinct_pieces indexes (p ∷ ps) old new calls calls' (mid, takes, rest) d =
    distinct_pieces indexes ps (released mid) new rest.0 calls' rest.2 (distinct_released mid mid.reply (distinct_takes old mid p takes d))

distinct_called : (k : ClientSeen) (kind : CallKind) (c : Content) (call : CallNo) → IsCalled k kind c call → Apart k.requests.outstanding → Apart (called k kind c call).requests.outstanding
distinct_called k kind c call is d = by (awaits_reply kind)
  where
    by : (b : Bool) → Apart (if b then k.requests.outstanding ++ (call.id, record { call = call.number; kind = kind; last = None }) ∷ [] else k.requests.outstanding)
    by true = distinct-push k.requests.outstanding (call.id, record { call = call.number; kind = kind; last = None }) d is.1.next.id.free
    by false = d

-- ---- worlds

none_apart : Apart []
unfolding IsDistinct
none_apart = tt

abbrev AllApart : List Conn → Type 0
AllApart ks = (c : ℕ) (k : Conn) → conn_at ks c ≡ Some k → Apart k.client.requests.outstanding

apart_set : (ks : List Conn) (c : ℕ) (k k' : Conn) → AllApart ks → conn_at ks c ≡ Some k → Apart k'.client.requests.outstanding → AllApart (conn_set ks c k')
apart_set ks c k k' all at d e z g = elim (same_or_not e c) [
  | inl here ↦ let same : k' ≡ z = same_Some k' z (sym (conn_set-same ks c k k' at) ∙ ap (conn_at (conn_set ks c k')) (sym here) ∙ g) in
      subst (λ (y : Conn). Apart y.client.requests.outstanding) same d
  | inr other ↦ all e z (sym (conn_set-other ks c e k' other) ∙ g)
]

apart_push : (ks : List Conn) (k : Conn) → AllApart ks → Apart k.client.requests.outstanding → AllApart (ks ++ k ∷ [])
apart_push ks k all d e z g = elim (conn_push-cases ks e z k g) [
  | inl old ↦ all e z old
  | inr new ↦ subst (λ (y : Conn). Apart y.client.requests.outstanding) new.1 d
]

apart_map : (f : Conn → Conn) (ks : List Conn) → ((k : Conn) → Apart k.client.requests.outstanding → Apart (f k).client.requests.outstanding) → AllApart ks → AllApart (map f ks)
apart_map f ks kept all e z g =
    let p = conn_map-back f ks e z g in
    subst (λ (y : Conn). Apart y.client.requests.outstanding) p.2 (kept p.0 (all e p.0 p.1))

apart_cut : (k : Conn) (ks : List Conn) (c : ℕ) → AllApart ks → conn_at ks c ≡ Some k → AllApart (conn_set ks c (cut_both k))
apart_cut k ks c all at = apart_set ks c k (cut_both k) all at (all c k at)

apart_cut_at : (c : ℕ) (ks : List Conn) → AllApart ks → AllApart (cut_at c ks)
apart_cut_at c ks all = by (conn_at ks c) refl
  where
    by : (found : Option Conn) → conn_at ks c ≡ found → AllApart (change cut_both found c ks)
    by None e = all
    by (Some k) e = apart_cut k ks c all e

apart_all_cut : (cs : List ℕ) (ks : List Conn) → AllApart ks → AllApart (all_cut cs ks)
apart_all_cut [] ks all = all
apart_all_cut (c ∷ cs) ks all = apart_all_cut cs (cut_at c ks) (apart_cut_at c ks all)

apart_restarted : (k : Conn) → Apart k.client.requests.outstanding → Apart (restarted k).client.requests.outstanding
apart_restarted k d = elim (k.raw || k.down_cut) as (λ b. Apart (if b then k else cut_down k).client.requests.outstanding) [ true ↦ d | false ↦ d ]

module _ {H : Type 0} (does : Does H) (stops : Stops H) (l : WorldLimits) where
  abbrev In : World H → Type 0
  In w = AllApart w.conns

  changed : (old new : World H) (c : ℕ) (k k' : Conn) → In old → conn_at old.conns c ≡ Some k → Apart k'.client.requests.outstanding → new.conns ≡ conn_set old.conns c k' → In new
  changed old new c k k' all at d e = subst AllApart (sym e) (apart_set old.conns c k k' all at d)

  moved_up : (old new : World H) (c n : ℕ) → MovesUp old c n new → In old → In new
  moved_up old new c n s all = changed old new c s.k _ all s.at (all c s.k s.at) (ap (λ w. w.conns) s.after)

  moved_down : (old new : World H) (c n : ℕ) → MovesDown old c n new → In old → In new
  moved_down old new c n s all = changed old new c s.k _ all s.at (distinct_pieces s.k.calls s.pieces s.k.client s.client old.calls s.calls s.takes (all c s.k s.at)) (ap (λ w. w.conns) s.after)

  uncopied : (old new : World H) (c n : ℕ) → TakesUncopied old c n new → In old → In new
  uncopied old new c n s all = changed old new c s.k _ all s.at (distinct_takes s.k.client s.client s.piece s.takes (all c s.k s.at)) (ap (λ w. w.conns) s.after)

  took_raw : (old new : World H) (c : ℕ) (bytes : List ℕ) → TakesRaw old c bytes new → In old → In new
  took_raw old new c bytes s all = changed old new c s.k _ all s.at (all c s.k s.at) (ap (λ w. w.conns) s.after)

  answered_one : (old new : World H) (c i : ℕ) (r : Result ℕ AnswerRefusal) → Answers does stops old c i r new → In old → In new
  answered_one old new c i r s all = changed old new c s.k _ all s.at (all c s.k s.at) (ap (λ w. w.conns) s.after)

  opened_one : (old new : World H) (c : ℕ) (made : Bool) → Opens l old c made new → In old → In new
  opened_one old new c false s all = subst AllApart (sym (ap (λ w. w.conns) s.2)) all
  opened_one old new c true s all = subst AllApart (sym (ap (λ w. w.conns) s.2)) (apart_push old.conns (new_conn l c) all none_apart)

  returned_one : (old new : World H) (c : ℕ) (kept : Bool) → Returns old c kept new → In old → In new
  returned_one old new c true s all = subst AllApart (sym (ap (λ w. w.conns) s.after)) all
  returned_one old new c false s all = subst AllApart (sym (ap (λ w. w.conns) s.after)) (apart_cut_at c old.conns all)

  done : (old new : World H) (e : Event) (report : Report) → Succeeds does stops l old e report new → In old → In new
  done old new events.Open report s all = opened_one old new s.0 s.1 s.3 all
  done old new (events.Return c) report s all = returned_one old new c s.0 s.2 all
  done old new (events.Call c kind payload) report s all = changed old new c s.2.k _ all s.2.at (distinct_called s.2.k.client kind (content_of payload) s.0 s.2.accepted (all c s.2.k s.2.at)) (ap (λ w. w.conns) s.2.after)
  done old new (events.Up c n) report s all = moved_up old new c n s.0 all
  done old new (events.Down c n) report s all = subst AllApart (sym (ap (λ w. w.conns) s.5)) (moved_down old s.0 c n s.1 all)
  done old new (events.Answer c i) report (inl s) all = answered_one old new c i (Ok s.0) s.2 all
  done old new (events.Answer c i) report (inr s) all = answered_one old new c i (Err (answers.NowClosed s.0)) s.2 all
  done old new (events.CutUp c) report s all = changed old new c s.1.k _ all s.1.at (all c s.1.k s.1.at) (ap (λ w. w.conns) s.1.after)
  done old new (events.CutDown c) report s all = changed old new c s.1.k _ all s.1.at (all c s.1.k s.1.at) (ap (λ w. w.conns) s.1.after)
  done old new events.Clear report s all = subst AllApart (sym (ap (λ w. w.conns) s.1)) (apart_all_cut old.pool.idle old.conns all)
  done old new events.Restart report s all = subst AllApart (sym (ap (λ w. w.conns) s.1)) (apart_map restarted old.conns apart_restarted all)
  done old new events.RawOpen report s all = subst AllApart (sym (ap (λ w. w.conns) s.3)) (apart_push old.conns (new_raw_conn l s.0) all none_apart)
  done old new (events.Raw c bytes) report s all = took_raw old new c bytes.now s.0 all
  done old new (events.RawTake c n) report s all = changed old new c s.0.k _ all s.0.at (all c s.0.k s.0.at) (ap (λ w. w.conns) s.0.after)

  part : (old new : World H) (e : Event) → PartDone l old e new → In old → In new
  part old new (events.Call c kind payload) s all = rw s all
  part old new (events.Up c n) s all = moved_up old new c n s.0 all
  part old new (events.Down c n) (inl s) all = moved_down old new c n s.0 all
  part old new (events.Down c n) (inr s) all = uncopied s.0 new c _ s.2 (moved_down old s.0 c n s.1 all)
  part old new (events.Answer c i) s all = rw s all
  part old new (events.Raw c bytes) s all = took_raw old new c bytes.now s.0 all
  part old new (events.RawTake c n) s all = rw s.0 all
  part old new events.Open s all = absurd s
  part old new (events.Return c) s all = absurd s
  part old new (events.CutUp c) s all = absurd s
  part old new (events.CutDown c) s all = absurd s
  part old new events.Clear s all = absurd s
  part old new events.Restart s all = absurd s
  part old new events.RawOpen s all = absurd s

  refused : (old new : World H) (e : Event) (r : WorldRefusal) → IsRefused l old e r new → In old → In new
  refused old new e refusals.NoConnection s all = rw s.0 all
  refused old new e refusals.Cut s all = rw s.0 all
  refused old new e refusals.NotLent s all = rw s.0 all
  refused old new e refusals.Full s all = rw s.0 all
  refused old new e (refusals.Call r) s all = rw s.0 all
  refused old new e (refusals.Answer r) s all = rw s.0 all
  refused old new e refusals.Raw s all = rw s.0 all
  refused old new e refusals.NotRaw s all = rw s.0 all
  refused old new e refusals.OutOfMemory (before, inl s) all = rw s.0 all
  refused old new e refusals.OutOfMemory (before, inr out) all = subst AllApart (sym (ap (λ w. w.conns) out.after)) (apart_cut_at out.c out.done.conns (part old out.done e out.part all))

  happened : (old new : World H) (e : Event) (r : Result Report WorldRefusal) → Happens does stops l old e r new → In old → In new
  happened old new e (Ok report) s all = done old new e report s.1 all
  happened old new e (Err refusal) s all = refused old new e refusal s all

  pub ids_apart : (es : List Event) (old new : World H) → Run does stops l old es new → In old → In new
  ids_apart [] old new run all = rw run all
  ids_apart (e ∷ es) old new run all = ids_apart es run.0 new run.2 (happened old run.0 e run.1.0 run.1.1 all)

  pub ids_stay_apart : (first : H) (es : List Event) (w : World H) → Run does stops l (opening l first) es w → IdsApart w
  ids_stay_apart first es w run = ids_apart es (opening l first) w run (λ c k g. absurd (nothing_at c k g))
    where
      nothing_at : (c : ℕ) (k : Conn) → conn_at [] c ≡ Some k → ⊥
      nothing_at zero k g = none-some k g
      nothing_at (suc i) k g = none-some k g
