-- What becomes of a request that is passed on, and of one that is answered, from what the code found.
use Rattle.std.proofs.Common.{◌≡◌, ◌≢◌, ◌∷◌, ℕ, Bool, true, false, List, [], Ok, Result, Option, None, Some, ap, refl, subst, sym}
use Rattle.wire_msg.specs.{Carries, Content, Message}
use Rattle.wire_msg.specs.declared.payloads.Payload.{Payload}
use Rattle.wire_peer.specs.{Asked, IsCalled, LogEntry, asked, asked_by, called, content_of}
use Rattle.wire_peer.specs.declared.calls.CallNo.{CallNo}
use Rattle.wire_peer.specs.declared.echoing.Echo.{Echo}
use Rattle.wire_peer.specs.declared.requests.Request.{Request}
use Rattle.wire_peer.specs.declared.server_state.AnswerRefusal.{AnswerRefusal}
use Rattle.wire_peer.proofs.Lemmas.{content_is}
use Rattle.wire_serve.specs.{ConnAnswers, ConnView, HasLeft}
use Rattle.wire_share.specs.declared.awaited.Awaited.{Awaited}
use Rattle.wire_share.specs.declared.relayed.Relayed.{Relayed}
use Rattle.wire_share.specs.Sharing.{DownSeen, GoesOn, IsGiven, IsPassed, Leaves, UpSeen, Waits, kind_by, of_call, relays, wants_memory, with_client}

-- the call that was made is one of the request's payload
pub passed : (d : DownSeen) (u u' : UpSeen) (r : Request) (call : Awaited) (m : Message) → asked r ≡ asked_by m
    → (number : CallNo) → IsCalled u.client (kind_by r.more_to_come) (content_of r.payload) number
    → u' ≡ with_client u (called u.client (kind_by r.more_to_come) (content_of r.payload) number)
    → IsPassed m r.payload number u u'
passed d u u' r call m same number made after =
    let more = ap (λ (a : Asked). a.more_to_come) same in
    record {
      content = ap (λ (a : Asked). a.payload) same;
      made = subst (λ (b : Bool). IsCalled u.client (kind_by b) (content_of r.payload) number) more made;
      is = subst (λ (b : Bool). u' ≡ with_client u (called u.client (kind_by b) (content_of r.payload) number)) more after;
    }

-- the request that waits was passed on
pub passes_on : (d d' : DownSeen) (u u' : UpSeen) (r : Request) (call : Awaited)
    → ((m : Message) × Waits d m × (asked r ≡ asked_by m))
    → ((number : CallNo) × (call ≡ of_call u number) × IsCalled u.client (kind_by r.more_to_come) (content_of r.payload) number
    × (u' ≡ with_client u (called u.client (kind_by r.more_to_come) (content_of r.payload) number)))
    → GoesOn r.more_to_come call d d'
    → (m : Message) × (payload : Payload) × (number : CallNo) × Waits d m × IsPassed m payload number u u' × GoesOn m.flags.more_to_come (of_call u number) d d'
passes_on d d' u u' r call found made goes =
    let m = found.0 in
    let number = made.0 in (
      m,
      r.payload,
      number,
      found.1,
      passed d u u' r call m found.2 number made.2 made.3,
      subst (λ (b : Bool). GoesOn b (of_call u number) d d') (ap (λ (a : Asked). a.more_to_come) found.2) (subst (λ (x : Awaited). GoesOn r.more_to_come x d d') made.1 goes),
    )

-- a request that wants a reply is awaited
pub awaited_on : (d d' : DownSeen) (b : Bool) (call : Awaited) → b ≡ false → d' ≡ record d { awaited = Some call } → GoesOn b call d d'
awaited_on d d' b call wants is = subst (λ (x : Bool). GoesOn x call d d') (sym wants) is

-- one that wants none left
pub left_on : (d d' : DownSeen) (b : Bool) (call : Awaited) → b ≡ true → (h : Echo) × Leaves (λ h a answers h'. answers ≡ a.payload ∷ []) h d.conn d'.conn
    → d'.awaited ≡ None → GoesOn b call d d'
left_on d d' b call wants leaves free = subst (λ (x : Bool). GoesOn x call d d') (sym wants) (leaves, free)

-- a reply that carries the content of an answer gives that answer
pub gives_own : (p : Payload) (answer : Message) (old new : ConnView) → Carries p answer.content → IsGiven (content_of p) old new → IsGiven answer.content old new
gives_own p answer old new carries given = subst (λ (c : Content). IsGiven c old new) (content_is p answer.content carries) given

pub is_left : (r : Result ℕ AnswerRefusal) (n : ℕ) → r ≡ Ok n → HasLeft r
is_left r n is = subst HasLeft (sym is) tt

pub relayed : (r : Result ℕ AnswerRefusal) (p : Payload) (old new : ConnView) (h h' : Relayed) (log log' : List LogEntry)
    → HasLeft r → old.output ≡ [] → h ≡ record { payload = p } → log ≡ [] → ConnAnswers relays wants_memory r old h log new h' log' → IsGiven (content_of p) old new
relayed r p old new h h' log log' left all_sent is empty step = record {
  payload = p;
  content = refl;
  leaves = record {
    result = r;
    left = left;
    all_sent = all_sent;
    after = h';
    log = log';
    step = subst (λ (l : List LogEntry). ConnAnswers relays wants_memory r old (record { payload = p }) l new h' log') empty
        (subst (λ (x : Relayed). ConnAnswers relays wants_memory r old x log new h' log') is step);
  };
}

-- a call is awaited
pub is_awaited : (o p : Option Awaited) (x : Awaited) → o ≡ p → p ≡ Some x → o ≢ None
is_awaited o p x same is none = absurd cc
