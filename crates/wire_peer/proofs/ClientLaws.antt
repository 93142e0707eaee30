-- The steps of a client, as its code comes to them.
use Rattle.std.proofs.Common.{◌≡◌, ℕ, ◌≤◌, ℤ, Bool, true, false, cond, List, [], ◌∷◌, length, Option, Some, None, is_some, Result, Ok, Err, MatchResult, refl, sym, ap, subst, ◌∙◌, append-nil, arith}
use Rattle.std.proofs.lemmas.Bool.{false≢true}
use Rattle.std.specs.Map.{remove_entry, set_value}
use Rattle.std.specs.Ordering.{int_eq}
use Rattle.wire_msg.specs.declared.fault.MsgFault.{MsgFault}
use Rattle.wire_msg.specs.Standing.{in_header}
use Rattle.wire_msg.specs.{Content, IsBad, IsMessage, IsOpen, Message, SpellsMsg}
use Rattle.wire_msg.proofs.Lemmas.{open_not_whole, open_not_bad}
use Rattle.wire_stream.specs.declared.reader_state.Fed.{Fed}
use Rattle.wire_stream.specs.declared.reader_state.ReaderState.{ReaderState}
use Rattle.wire_stream.specs.declared.reader_state.ReaderState.TheVariants.{Need, Ready, Bad}
use Rattle.wire_stream.specs.{Feeds, HoldsNoMore, StandsAt}
use Rattle.wire_peer.specs.declared.call_table.Outstanding.{Outstanding}
use Rattle.wire_peer.specs.declared.call_table.ReadyReply.{ReadyReply}
use Rattle.wire_peer.specs.declared.calls.CallKind.{CallKind}
use Rattle.wire_peer.specs.declared.calls.CallNo.{CallNo}
use Rattle.wire_peer.specs.declared.calls.CallRefusal.{CallRefusal}
use Rattle.wire_peer.specs.declared.calls.CallRefusal.TheVariants as refusals
use Rattle.wire_peer.specs.declared.client_state.ClientCause.{ClientCause}
use Rattle.wire_peer.specs.declared.client_state.ClientCause.TheVariants as causes
use Rattle.wire_peer.specs.declared.client_state.ClientState.{ClientState}
use Rattle.wire_peer.specs.declared.client_state.ClientState.TheVariants.{Open, Closed}
use Rattle.wire_peer.specs.CallTables.{IsReceived, Table, after_reply, allowed, owner, reply_to}
use Rattle.wire_peer.specs.Requesting.{RequestState, after_call, IsAccepted, IsRefused}
use Rattle.wire_peer.specs.Standing.{HoldsFor}
use Rattle.wire_peer.specs.ClientSteps.{called, ClientSeen, holding, IsCalled, IsCallRefusal, received, Settles, is_message, is_bad, Takes}

-- ---- calls

refused_told : (k : ClientSeen) (kind : CallKind) (c : Content) (e : CallRefusal) → k.state ≡ Open → IsRefused k.requests kind c e → IsCallRefusal k kind c e
refused_told k kind c refusals.Closed live r = absurd r
refused_told k kind c refusals.WindowFull live r = (live, r)
refused_told k kind c refusals.TooLarge live r = (live, r)
refused_told k kind c refusals.NumbersSpent live r = (live, r)
refused_told k kind c refusals.OutOfMemory live r = (live, r)

pub called_told : (k : ClientSeen) (kind : CallKind) (c : Content) (r : Result CallNo CallRefusal) (new : RequestState) → k.state ≡ Open
    → MatchResult r (λ call. IsAccepted k.requests kind c call × (new ≡ after_call k.requests kind c call)) (λ e. IsRefused k.requests kind c e)
    → MatchResult r (λ call. IsCalled k kind c call × (record k { requests = new } ≡ called k kind c call)) (λ e. IsCallRefusal k kind c e)
called_told k kind c (Ok call) new live m = ((live, m.0), ap (λ (x : RequestState). record k { requests = x }) m.1)
called_told k kind c (Err e) new live m = refused_told k kind c e live m

-- ---- the number of outstanding calls

set_len : (test : ℤ → Bool) (t : Table) (w : Outstanding) → length (set_value test t w) ≡ length t
set_len test [] w = refl
set_len test (e ∷ t) w = by (test e.0) (set_len test t w)
  where
    by : (b : Bool) → length (set_value test t w) ≡ length t → length (cond b ((e.0, w) ∷ t) (e ∷ set_value test t w)) ≡ length (e ∷ t)
    by true h = refl
    by false h = omega (arith, h)

remove_len : (test : ℤ → Bool) (t : Table) → length (remove_entry test t) ≤ length t
remove_len test [] = omega arith
remove_len test (e ∷ t) = by (test e.0) (remove_len test t)
  where
    by : (b : Bool) → length (remove_entry test t) ≤ length t → length (cond b t (e ∷ remove_entry test t)) ≤ length (e ∷ t)
    by true h = omega arith
    by false h = omega (arith, h)

-- a message makes no call outstanding
pub received_len : (t : Table) (id : ℤ) (more : Bool) (o : Result (ℤ × Outstanding) ClientCause) (r : Result ReadyReply ClientCause) (new : Table) → IsReceived t id more o r new → length new ≤ length t
received_len t id true (Ok o) r new h = omega (arith, ap length h.1, set_len (int_eq o.0) t (record (o.1) { last = Some id }))
received_len t id false (Ok o) r new h = omega (arith, ap length h.1, remove_len (int_eq o.0) t)
received_len t id more (Err cause) r new h = omega (arith, ap length h.1)

-- ---- what is held

pub nothing_holds : (limit : ℕ) (held : List ℕ) (state : ClientState) → held ≡ [] → HoldsFor limit held None state
nothing_holds limit held Open e = rw e (in_header {bytes = []} (omega arith))
nothing_holds limit held (Closed cause) e = tt

pub holds_message : (limit : ℕ) (held : List ℕ) (reply : Option ReadyReply) (state : ClientState) → HoldsFor limit held reply state → is_some reply ≡ true → IsMessage limit held
holds_message limit held None state h some = absurd (false≢true some)
holds_message limit held (Some reply) state h some = h

pub holds_open : (limit : ℕ) (held : List ℕ) (reply : Option ReadyReply) (state : ClientState) → HoldsFor limit held reply state → reply ≡ None → state ≡ Open → IsOpen limit held
holds_open limit held reply state h none live =
    subst (λ (s : ClientState). HoldsFor limit held None s) live (subst (λ (r : Option ReadyReply). HoldsFor limit held r state) none h)

message_not_open : (limit : ℕ) (b : List ℕ) → IsMessage limit b → IsOpen limit b → ⊥
message_not_open limit b i o = open_not_whole limit b [] i.1.0 o (record { front = b; parts = sym (append-nil b); spelled = i.1.1; within = i.0 })

need_of_open : (limit : ℕ) (b : List ℕ) (s : ReaderState) → StandsAt limit b s → IsOpen limit b → s ≡ Need
need_of_open limit b Need at o = refl
need_of_open limit b Ready at o = absurd (message_not_open limit b at o)
need_of_open limit b (Bad f) at o = absurd (open_not_bad limit b f o at)

-- ---- bytes

-- what the reader took, and what it made of the client
pub takes : (k : ClientSeen) (piece new : List ℕ) (fed : Fed) (after : ClientSeen) → Feeds k.requests.limit k.held piece new fed → Settles (holding k new) after → Takes k piece fed.taken after
takes k piece new fed after f s = record {
  within = f.taken;
  no_more = subst (HoldsNoMore k.requests.limit) f.held f.no_more;
  all = λ o. f.all (need_of_open k.requests.limit new fed.state f.state (subst (IsOpen k.requests.limit) (sym f.held) o));
  settles = subst (λ (b : List ℕ). Settles (holding k b) after) f.held s;
}

abbrev OkIs : Result ReadyReply ClientCause → ReadyReply → Type 0
OkIs (Ok x) y = x ≡ y
OkIs (Err e) y = ⊥

abbrev ErrIs : Result ReadyReply ClientCause → ClientCause → Type 0
ErrIs (Ok x) e = ⊥
ErrIs (Err d) e = d ≡ e

-- a message that is a reply
pub settles_reply : (k : ClientSeen) (reply : ReadyReply) (new : RequestState) → IsMessage k.requests.limit k.held
    → ((m : Message) → SpellsMsg m k.held → IsReceived k.requests.outstanding m.id m.flags.more_to_come (allowed m.flags.more_to_come (owner k.requests.outstanding m.response_to)) (Ok reply) new.outstanding)
    → new ≡ record (k.requests) { outstanding = new.outstanding }
    → Settles k (record k { requests = new; reply = Some reply })
settles_reply k reply new whole told others =
    let m : Message = whole.1.0 in
    is_message m whole.1.1 whole.0 (by (allowed m.flags.more_to_come (owner k.requests.outstanding m.response_to)) (told m whole.1.1))
  where
    by : (o : Result (ℤ × Outstanding) ClientCause) → IsReceived k.requests.outstanding whole.1.0.id whole.1.0.flags.more_to_come o (Ok reply) new.outstanding
        → record k { requests = new; reply = Some reply } ≡ received k whole.1.0 o
    by (Ok o) r =
        let table : new ≡ record (k.requests) { outstanding = after_reply k.requests.outstanding o whole.1.0.id whole.1.0.flags.more_to_come } =
        others ∙ ap (λ (t : Table). record (k.requests) { outstanding = t }) r.1 in
        let same : reply ≡ reply_to o whole.1.0.flags.more_to_come = subst (λ (x : Result ReadyReply ClientCause). OkIs x (reply_to o whole.1.0.flags.more_to_come)) (sym r.0) refl in
        ap (λ (x : RequestState). record k { requests = x; reply = Some reply }) table
        ∙ ap (λ (x : ReadyReply). record k { requests = record (k.requests) { outstanding = after_reply k.requests.outstanding o whole.1.0.id whole.1.0.flags.more_to_come }; reply = Some x }) same
    by (Err cause) r = absurd (subst (λ (x : Result ReadyReply ClientCause). ErrIs x cause) (sym r.0) refl)

-- a message that belongs to no call
pub settles_refused : (k : ClientSeen) (cause : ClientCause) (new : RequestState) → k.state ≡ Open → IsMessage k.requests.limit k.held
    → ((m : Message) → SpellsMsg m k.held → IsReceived k.requests.outstanding m.id m.flags.more_to_come (allowed m.flags.more_to_come (owner k.requests.outstanding m.response_to)) (Err cause) new.outstanding)
    → new ≡ record (k.requests) { outstanding = new.outstanding }
    → Settles k (record k { requests = new; state = Closed cause })
settles_refused k cause new live whole told others =
    let m : Message = whole.1.0 in
    is_message m whole.1.1 whole.0 (by (allowed m.flags.more_to_come (owner k.requests.outstanding m.response_to)) (told m whole.1.1))
  where
    by : (o : Result (ℤ × Outstanding) ClientCause) → IsReceived k.requests.outstanding whole.1.0.id whole.1.0.flags.more_to_come o (Err cause) new.outstanding
        → record k { requests = new; state = Closed cause } ≡ received k whole.1.0 o
    by (Ok o) r = absurd (subst (λ (x : Result ReadyReply ClientCause). OkIs x (reply_to o whole.1.0.flags.more_to_come)) (sym r.0) refl)
    by (Err other) r =
        let table : new ≡ k.requests = others ∙ ap (λ (t : Table). record (k.requests) { outstanding = t }) r.1 in
        let same : cause ≡ other = subst (λ (x : Result ReadyReply ClientCause). ErrIs x other) (sym r.0) refl in
        rw (table, same, live) refl

-- bad bytes
pub settles_bad : (k : ClientSeen) (f : MsgFault) → k.state ≡ Open → IsBad k.requests.limit k.held f → Settles k (record k { state = Closed (causes.Message f) })
settles_bad k f live bad = is_bad f bad (rw live refl)
