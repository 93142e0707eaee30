-- The entries of a raw connection: what they give, which strangers name them, and which of them give their replies.
use Rattle.std.proofs.Common.{◌≡◌, ℕ, suc, Bool, true, false, List, [], ◌∷◌, ◌++◌, length, map, refl, sym, ◌∙◌, ap, subst, append_assoc, Some, inl, inr}
use Rattle.std.specs.Prelude.{◌==◌, if◌then◌else◌, slice_get, slice_set}
use Rattle.std.proofs.lemmas.List.{append-nil}
use Rattle.std.proofs.lemmas.Option.{same_Some}
use Rattle.wire_msg.specs.{Message, canonical}
use Rattle.wire_peer.specs.{LogEntry, chain, closed_for, end_cause, id_after, written}
use Rattle.wire_peer.specs.declared.server_state.ServerCause.{ServerCause}
use Rattle.wire_peer.specs.declared.server_state.ServerCause.TheVariants.{Ended, EndedInside, ReplyTooLarge, NoMemory, HandlerFailed}
use Rattle.wire_peer.specs.declared.server_state.ServerState.{ServerState}
use Rattle.wire_peer.specs.declared.server_state.ServerState.TheVariants.{Open, Closed}
use Rattle.wire_model.specs.Machines.{Call, CallIs, EntryOf, Answered, Mute, Waiting, never, never_place}
use Rattle.wire_model.specs.Hostile.{IsNamed, GivesReplies, RawEntry, all_of, calls_of, entry_by, raw_replies}
use Rattle.wire_model.specs.Shown.{IsStopped}
use Rattle.wire_model.proofs.Lists.{get-map, get-push_old, get-set_other, same_or_not}
use Rattle.wire_model.proofs.ConnCalls.{call_by_before, calls-map, calls-push_here, calls-set_here, calls_before, entries_before-more, get-more}

-- ---- what entries give

-- the reply id that is next after these entries
abbrev pub next_by : ℕ → List RawEntry → ℕ
next_by id [] = id
next_by id (t ∷ ts) = if t.gives then next_by (id_after id (all_of t.answers)) ts else next_by id ts

pub written-append : (ms ns : List Message) → written (ms ++ ns) ≡ written ms ++ written ns
written-append [] ns = refl
written-append (m ∷ ms) ns = ap (λ b. canonical m ++ b) (written-append ms ns) ∙ sym (append_assoc (canonical m) (written ms) (written ns))

-- what one entry gives, from this id on
abbrev pub gives_from : ℕ → RawEntry → List Message
gives_from id t = if t.gives then chain id t.message.id (all_of t.answers) else []

pub given-push : (id : ℕ) (ts : List RawEntry) (t : RawEntry) → raw_replies id (ts ++ t ∷ []) ≡ raw_replies id ts ++ gives_from (next_by id ts) t
given-push id [] t = elim t.gives as (λ b. (if b then chain id t.message.id (all_of t.answers) ++ [] else []) ≡ (if b then chain id t.message.id (all_of t.answers) else [])) [
  | true ↦ append-nil (chain id t.message.id (all_of t.answers))
  | false ↦ refl
]
given-push id (u ∷ ts) t = by u.gives (given-push id ts t) (given-push (id_after id (all_of u.answers)) ts t)
  where
    after : ℕ
    after = id_after id (all_of u.answers)

    by : (b : Bool) → raw_replies id (ts ++ t ∷ []) ≡ raw_replies id ts ++ gives_from (next_by id ts) t
        → raw_replies after (ts ++ t ∷ []) ≡ raw_replies after ts ++ gives_from (next_by after ts) t
        → (if b then chain id u.message.id (all_of u.answers) ++ raw_replies after (ts ++ t ∷ []) else raw_replies id (ts ++ t ∷ []))
        ≡ (if b then chain id u.message.id (all_of u.answers) ++ raw_replies after ts else raw_replies id ts) ++ gives_from (if b then next_by after ts else next_by id ts) t
    by true here later = ap (λ z. chain id u.message.id (all_of u.answers) ++ z) later ∙ sym (append_assoc (chain id u.message.id (all_of u.answers)) (raw_replies after ts) (gives_from (next_by after ts) t))
    by false here later = here

pub next-push : (id : ℕ) (ts : List RawEntry) (t : RawEntry) → next_by id (ts ++ t ∷ []) ≡ (if t.gives then id_after (next_by id ts) (all_of t.answers) else next_by id ts)
next-push id [] t = refl
next-push id (u ∷ ts) t = by u.gives (next-push id ts t) (next-push (id_after id (all_of u.answers)) ts t)
  where
    after : ℕ
    after = id_after id (all_of u.answers)

    by : (b : Bool) → next_by id (ts ++ t ∷ []) ≡ (if t.gives then id_after (next_by id ts) (all_of t.answers) else next_by id ts)
        → next_by after (ts ++ t ∷ []) ≡ (if t.gives then id_after (next_by after ts) (all_of t.answers) else next_by after ts)
        → (if b then next_by after (ts ++ t ∷ []) else next_by id (ts ++ t ∷ []))
        ≡ (if t.gives then id_after (if b then next_by after ts else next_by id ts) (all_of t.answers) else (if b then next_by after ts else next_by id ts))
    by true here later = later
    by false here later = here

pub raw_entries-longer : (ts : List RawEntry) (t : RawEntry) → length (ts ++ t ∷ []) ≡ suc (length ts)
raw_entries-longer [] t = refl
raw_entries-longer (u ∷ ts) t = ap suc (raw_entries-longer ts t)

pub entries-length : (c : ℕ) (ts : List RawEntry) → length (map (entry_by c) ts) ≡ length ts
entries-length c [] = refl
entries-length c (t ∷ ts) = ap suc (entries-length c ts)

-- ---- which strangers name them

-- the stranger may have changed, and there may be more entries
pub named_by : (c : ℕ) (calls calls' : List Call) (log more : List LogEntry) (i : ℕ) (t : RawEntry) (n : IsNamed c calls log i t) (y : Call) → slice_get (calls_of c calls') t.index ≡ Some y → EntryOf y n.e → IsNamed c calls' (log ++ more) i t
named_by c calls calls' log more i t n y at names = record {
  stranger = y;
  at = at;
  e = n.e;
  names = names;
  entry = get-more log more n.e (entry_by c t) n.entry;
  before = entries_before-more c log more n.e (entry_by c t) n.entry ∙ n.before;
}

pub named_stays : (c : ℕ) (calls calls' : List Call) (log : List LogEntry) (i : ℕ) (t : RawEntry) (n : IsNamed c calls log i t) (y : Call) → slice_get (calls_of c calls') t.index ≡ Some y → EntryOf y n.e → IsNamed c calls' log i t
named_stays c calls calls' log i t n y at names = record { stranger = y; at = at; e = n.e; names = names; entry = n.entry; before = n.before }

pub named_push : (c : ℕ) (calls : List Call) (log : List LogEntry) (i : ℕ) (t : RawEntry) (y : Call) → y.connection ≡ c → IsNamed c calls log i t → IsNamed c (calls ++ y ∷ []) log i t
named_push c calls log i t y e n = named_stays c calls (calls ++ y ∷ []) log i t n n.stranger
    (ap (λ xs. slice_get xs t.index) (calls-push_here c calls y e) ∙ get-push_old (calls_of c calls) t.index n.stranger y n.at) n.names

pub named_map : (c : ℕ) (f : Call → Call) (calls : List Call) (log : List LogEntry) (i : ℕ) (t : RawEntry) → ((x : Call) → (f x).connection ≡ x.connection) → ((x : Call) (e : ℕ) → EntryOf x e → EntryOf (f x) e) → IsNamed c calls log i t → IsNamed c (map f calls) log i t
named_map c f calls log i t s k n = named_stays c calls (map f calls) log i t n (f n.stranger)
    (ap (λ xs. slice_get xs t.index) (calls-map c f calls s) ∙ get-map f (calls_of c calls) t.index n.stranger n.at) (k n.stranger n.e n.names)

-- a request keeps its entry when the server is lost
pub entry_never : (c : ℕ) (x : Call) (e : ℕ) → EntryOf x e → EntryOf (never c x) e
entry_never c x e (inl s) = inl (by (x.connection == c))
  where
    by : (b : Bool) → (if b then never_place x.place else x.place) ≡ Answered e
    by true = ap never_place s
    by false = s
entry_never c x e (inr s) = inr (by (x.connection == c))
  where
    by : (b : Bool) → (if b then never_place x.place else x.place) ≡ Mute e
    by true = ap never_place s
    by false = s

-- a request that waits has no entry
pub none_waits : (x : Call) (e : ℕ) → x.place ≡ Waiting → EntryOf x e → ⊥
none_waits x e w (inl s) = let no_place : Waiting ≡ Answered e = sym w ∙ s in cc
none_waits x e w (inr s) = let no_place : Waiting ≡ Mute e = sym w ∙ s in cc

-- the entry isn't that of a request that waits
pub not_waiting : (c : ℕ) (calls : List Call) (log : List LogEntry) (i j : ℕ) (t : RawEntry) (x : Call) → CallIs calls j x → x.connection ≡ c → x.place ≡ Waiting → IsNamed c calls log i t → t.index ≡ calls_before c calls j → ⊥
not_waiting c calls log i j t x at here waits n same =
    let is : n.stranger ≡ x = same_Some n.stranger x (sym n.at ∙ ap (slice_get (calls_of c calls)) same ∙ call_by_before c calls j x at here) in
    none_waits x n.e waits (subst (λ (y : Call). EntryOf y n.e) is n.names)

-- a request that waits is changed, and entries come
pub named_set : (c : ℕ) (calls : List Call) (log more : List LogEntry) (i j : ℕ) (t : RawEntry) (x y : Call) → CallIs calls j x → x.connection ≡ c → y.connection ≡ c → x.place ≡ Waiting → IsNamed c calls log i t → IsNamed c (slice_set calls j y) (log ++ more) i t
named_set c calls log more i j t x y at here there waits n = elim (same_or_not t.index (calls_before c calls j)) [
  | inl same ↦ absurd (not_waiting c calls log i j t x at here waits n same)
  | inr other ↦ named_by c calls (slice_set calls j y) log more i t n n.stranger
      (ap (λ xs. slice_get xs t.index) (calls-set_here c calls j x y at here there) ∙ get-set_other (calls_of c calls) (calls_before c calls j) t.index y other ∙ n.at) n.names
]

-- ---- which give their replies

pub stopped_stays : (cause : ServerCause) (s : ServerState) → IsStopped s → IsStopped (closed_for cause s)
stopped_stays cause Open (inl e) = absurd (let no_state : Open ≡ Closed ReplyTooLarge = e in cc)
stopped_stays cause Open (inr (inl e)) = absurd (let no_state : Open ≡ Closed NoMemory = e in cc)
stopped_stays cause Open (inr (inr e)) = absurd (let no_state : Open ≡ Closed HandlerFailed = e in cc)
stopped_stays cause (Closed first) e = e

pub closed_by_none : (cause : ServerCause) → IsStopped (Closed cause) → (cause ≡ ReplyTooLarge → ⊥) → (cause ≡ NoMemory → ⊥) → (cause ≡ HandlerFailed → ⊥) → ⊥
closed_by_none cause (inl e) large memory failed = large (let same : cause ≡ ReplyTooLarge = cc in same)
closed_by_none cause (inr (inl e)) large memory failed = memory (let same : cause ≡ NoMemory = cc in same)
closed_by_none cause (inr (inr e)) large memory failed = failed (let same : cause ≡ HandlerFailed = cc in same)

pub stopped_before : (cause : ServerCause) (s : ServerState) → (IsStopped (Closed cause) → ⊥) → IsStopped (closed_for cause s) → IsStopped s
stopped_before cause Open other e = absurd (other e)
stopped_before cause (Closed first) other e = e

pub end_not_stopped : (held : List ℕ) → IsStopped (Closed (end_cause held)) → ⊥
end_not_stopped [] e = closed_by_none Ended e (λ c. cc) (λ c. cc) (λ c. cc)
end_not_stopped (b ∷ held) e = closed_by_none EndedInside e (λ c. cc) (λ c. cc) (λ c. cc)

pub open_not_stopped : (s : ServerState) → s ≡ Open → IsStopped s → ⊥
open_not_stopped s e (inl f) = let no_state : Open ≡ Closed ReplyTooLarge = sym e ∙ f in cc
open_not_stopped s e (inr (inl f)) = let no_state : Open ≡ Closed NoMemory = sym e ∙ f in cc
open_not_stopped s e (inr (inr f)) = let no_state : Open ≡ Closed HandlerFailed = sym e ∙ f in cc

pub right_stays : (s s' : ServerState) (many i : ℕ) (t : RawEntry) → (IsStopped s → IsStopped s') → (IsStopped s' → IsStopped s) → GivesReplies s many i t → GivesReplies s' many i t
right_stays s s' many i t on back (inl r) = inl (r.0, r.1, r.2, λ last stopped. r.3 last (back stopped))
right_stays s s' many i t on back (inr (inl r)) = inr (inl r)
right_stays s s' many i t on back (inr (inr r)) = inr (inr (r.0, r.1, on r.2))

-- those at an open server still do, whatever comes
pub was_right : (s s' : ServerState) (many many' i : ℕ) (t : RawEntry) → s ≡ Open → (suc i ≡ many' → ⊥) → GivesReplies s many i t → GivesReplies s' many' i t
was_right s s' many many' i t e early (inl r) = inl (r.0, r.1, r.2, λ last stopped. early last)
was_right s s' many many' i t e early (inr (inl r)) = inr (inl r)
was_right s s' many many' i t e early (inr (inr r)) = absurd (open_not_stopped s e r.2)
