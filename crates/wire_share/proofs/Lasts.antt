-- Each reply to a call that allows one alone is its last one.
use Rattle.std.proofs.Common.{◌≡◌, ℤ, ℕ, Bool, true, false, not, ◌&&◌, List, [], ◌∷◌, ◌++◌, Option, Some, None, Result, Ok, Err, cond, refl, sym, ap, subst, inl, inr}
use Rattle.std.specs.Prelude.{if◌then◌else◌}
use Rattle.std.specs.Map.{lookup, remove_entry}
use Rattle.std.proofs.lemmas.Option.{none-some, same_Some}
use Rattle.wire_msg.specs.{Message}
use Rattle.wire_peer.specs.{Table, after_reply, allowed, awaiting, owner, reply_to}
use Rattle.wire_peer.specs.Calls.{allows_more, awaits_reply}
use Rattle.wire_peer.specs.CallTables.{has_part, of_bearer, owner_by, stream}
use Rattle.std.specs.Ordering.{int_eq}
use Rattle.wire_peer.specs.declared.call_table.Outstanding.{Outstanding}
use Rattle.wire_peer.specs.declared.calls.CallKind.{CallKind}
use Rattle.wire_peer.specs.declared.calls.CallNo.{CallNo}
use Rattle.wire_peer.specs.declared.client_state.ClientCause.{ClientCause}
use Rattle.wire_peer.specs.declared.client_state.ClientCause.TheVariants.{MoreNotAllowed, StreamBroken, UnknownReply}
use Rattle.wire_model.specs.{ClientAct, handed}
use Rattle.wire_model.specs.Alone.{Got, Heard, Hearing, Hears, Made, hear, hear_all, replied, silence}
use Rattle.wire_model.specs.Owners.{Calls, Collects, EndsDown, SendsUp, TakesDown}
use Rattle.wire_share.proofs.Parts.{AllLast, Handed}

-- ---- calls that allow one reply

abbrev pub AllOnce : Table → Type 0
AllOnce [] = Unit {0}
AllOnce (o ∷ t) = (allows_more o.1.kind ≡ false) × AllOnce t

once_on : (t more : Table) → AllOnce t → AllOnce more → AllOnce (t ++ more)
once_on [] more once last = last
once_on (o ∷ t) more once last = (once.0, once_on t more once.1 last)

awaiting_once : (t : Table) (kind : CallKind) (call : CallNo) → AllOnce t → allows_more kind ≡ false → AllOnce (awaiting t kind call)
awaiting_once t kind call once one = by (awaits_reply kind)
  where
    by : (b : Bool) → AllOnce (if b then t ++ (call.id, record { call = call.number; kind = kind; last = None }) ∷ [] else t)
    by true = once_on t _ once (one, tt)
    by false = once

without_once : (test : ℤ → Bool) (t : Table) → AllOnce t → AllOnce (remove_entry test t)
without_once test [] once = tt
without_once test (o ∷ t) once = by (test o.0) (without_once test t once.1)
  where
    by : (b : Bool) → AllOnce (remove_entry test t) → AllOnce (cond b t (o ∷ remove_entry test t))
    by true others = once.1
    by false others = (once.0, others)

found_once : (test : ℤ → Bool) (t : Table) (o : Outstanding) → AllOnce t → lookup test t ≡ Some o → allows_more o.kind ≡ false
found_once test [] o once none = absurd (none-some o none)
found_once test (x ∷ t) o once found = by (test x.0) (found_once test t o once.1) found
  where
    by : (b : Bool) → (lookup test t ≡ Some o → allows_more o.kind ≡ false) → cond b (Some x.1) (lookup test t) ≡ Some o → allows_more o.kind ≡ false
    by true others is = subst (λ (y : Outstanding). allows_more y.kind ≡ false) (same_Some x.1 o is) once.0
    by false others is = others is

stream_once : (t : Table) (o : ℤ × Outstanding) → AllOnce t → stream t ≡ Some o → allows_more o.1.kind ≡ false
stream_once [] o once none = absurd (none-some o none)
stream_once (x ∷ t) o once found = by (has_part x) (stream_once t o once.1) found
  where
    by : (b : Bool) → (stream t ≡ Some o → allows_more o.1.kind ≡ false) → (if b then Some x else stream t) ≡ Some o → allows_more o.1.kind ≡ false
    by true others is = subst (λ (y : ℤ × Outstanding). allows_more y.1.kind ≡ false) (same_Some x o is) once.0
    by false others is = others is

same_Ok : (r : Result (ℤ × Outstanding) ClientCause) (o p : ℤ × Outstanding) → r ≡ Ok o → r ≡ Ok p → o ≡ p
same_Ok r o p is same = cc

no_Err : (r : Result (ℤ × Outstanding) ClientCause) (cause : ClientCause) (o : ℤ × Outstanding) → r ≡ Err cause → r ≡ Ok o → ⊥
no_Err r cause o is same = cc

owner_once : (t : Table) (to : ℤ) (o : ℤ × Outstanding) → AllOnce t → owner t to ≡ Ok o → allows_more o.1.kind ≡ false
owner_once t to o once is = by (stream t) refl is
  where
    of : (p : ℤ × Outstanding) → allows_more p.1.kind ≡ false → (b : Bool) → (if b then Ok p else Err StreamBroken) ≡ Ok o → allows_more o.1.kind ≡ false
    of p one true same = subst (λ (y : ℤ × Outstanding). allows_more y.1.kind ≡ false) (same_Ok (Ok p) p o refl same) one
    of p one false same = absurd (no_Err (Err StreamBroken) StreamBroken o refl same)

    borne : (found : Option Outstanding) → lookup (int_eq to) t ≡ found → of_bearer found to ≡ Ok o → allows_more o.1.kind ≡ false
    borne None at same = absurd (no_Err (Err (UnknownReply to)) (UnknownReply to) o refl same)
    borne (Some p) at same = subst (λ (y : ℤ × Outstanding). allows_more y.1.kind ≡ false) (same_Ok (Ok (to, p)) (to, p) o refl same) (found_once (int_eq to) t p once at)

    by : (s : Option (ℤ × Outstanding)) → stream t ≡ s → owner_by s t to ≡ Ok o → allows_more o.1.kind ≡ false
    by (Some p) at same = of p (stream_once t p once at) _ same
    by None at same = borne (lookup (int_eq to) t) refl same

-- ---- what is heard

abbrev pub IsSo : Hearing → Type 0
IsSo h = AllOnce h.table × AllLast h.replies

-- each call that is heard allows one reply
abbrev HeardOnce : List Heard → Type 0
HeardOnce [] = Unit {0}
HeardOnce (Made kind call ∷ hs) = (allows_more kind ≡ false) × HeardOnce hs
HeardOnce (Got m ∷ hs) = HeardOnce hs

last_on : (xs : List Handed) (r : Handed) → AllLast xs → r.0.last ≡ true → AllLast (xs ++ r ∷ [])
last_on [] r all last = (last, tt)
last_on (x ∷ xs) r all last = (all.0, last_on xs r all.1 last)

replied_so : (h : Hearing) (m : Message) (r : Result (ℤ × Outstanding) ClientCause) → IsSo h → ((o : ℤ × Outstanding) → r ≡ Ok o → allows_more o.1.kind ≡ false)
    → IsSo (replied h m (allowed m.flags.more_to_come r))
replied_so h m (Err cause) so one = so
replied_so h m (Ok o) so one = by m.flags.more_to_come (allows_more o.1.kind) refl (one o refl)
  where
    by : (b k : Bool) → m.flags.more_to_come ≡ b → k ≡ false → IsSo (replied h m (if b && not k then Err MoreNotAllowed else Ok o))
    by true true more never = absurd cc
    by true false more once = so
    by false k more once = (
      subst (λ (b : Bool). AllOnce (after_reply h.table o m.id b)) (sym more) (without_once (int_eq o.0) h.table so.0),
      last_on h.replies (reply_to o m.flags.more_to_come, m) so.1 (ap not more),
    )

hear_so : (h : Hearing) (hs : List Heard) → IsSo h → HeardOnce hs → IsSo (hear_all h hs)
hear_so h [] so once = so
hear_so h (Made kind call ∷ hs) so once = hear_so (hear h (Made kind call)) hs (awaiting_once h.table kind call so.0 once.0, so.1) once.1
hear_so h (Got m ∷ hs) so once =
    hear_so (hear h (Got m)) hs (replied_so h m (owner h.table m.response_to) so (λ o is. owner_once h.table m.response_to o so.0 is)) once

-- ---- acts

-- each call that is made allows one reply
abbrev pub ActsOnce : List ClientAct → Type 0
ActsOnce [] = Unit {0}
ActsOnce (Calls kind payload number ∷ acts) = (allows_more kind ≡ false) × ActsOnce acts
ActsOnce (SendsUp bytes ∷ acts) = ActsOnce acts
ActsOnce (TakesDown bytes ∷ acts) = ActsOnce acts
ActsOnce (Collects reply m ∷ acts) = ActsOnce acts
ActsOnce (EndsDown ∷ acts) = ActsOnce acts

heard_once : (acts : List ClientAct) (limit : ℕ) (held : List ℕ) (hs : List Heard) → ActsOnce acts → Hears limit held acts hs → HeardOnce hs
heard_once [] limit held hs once hears = subst HeardOnce (sym hears) tt
heard_once (Calls kind payload number ∷ acts) limit held hs once (more, is, hears) = subst HeardOnce (sym is) (once.0, heard_once acts limit held more once.1 hears)
heard_once (SendsUp bytes ∷ acts) limit held hs once hears = heard_once acts limit held hs once hears
heard_once (TakesDown bytes ∷ acts) limit held hs once (inl (m, more, spells, is, hears)) = subst HeardOnce (sym is) (heard_once acts limit [] more once hears)
heard_once (TakesDown bytes ∷ acts) limit held hs once (inr (none, hears)) = heard_once acts limit (held ++ bytes) hs once hears
heard_once (Collects reply m ∷ acts) limit held hs once hears = heard_once acts limit held hs once hears
heard_once (EndsDown ∷ acts) limit held hs once hears = heard_once acts limit held hs once hears

front_last : (xs ys : List Handed) → AllLast (xs ++ ys) → AllLast xs
front_last [] ys all = tt
front_last (x ∷ xs) ys all = (all.0, front_last xs ys all.1)

pub all_last : (acts : List ClientAct) (limit : ℕ) (heard : List Heard) (ready : List Handed) → ActsOnce acts → Hears limit [] acts heard → (hear_all silence heard).replies ≡ handed acts ++ ready
    → AllLast (handed acts)
all_last acts limit heard ready once hears is =
    front_last (handed acts) ready (subst AllLast is (hear_so silence heard (tt, tt) (heard_once acts limit [] heard once hears)).1)

pub is_last : (before after : List Handed) (r : Handed) → AllLast (before ++ r ∷ after) → r.0.last ≡ true
is_last [] after r all = all.0
is_last (x ∷ before) after r all = is_last before after r all.1
