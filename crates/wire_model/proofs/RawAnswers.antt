-- The server of a raw connection answers: there is one more entry.
use Rattle.std.proofs.Common.{◌≡◌, ℕ, zero, suc, Bool, true, false, List, [], ◌∷◌, ◌++◌, length, map, refl, sym, ◌∙◌, ap, subst, append_assoc, arith, Option, Some, None, ◌⊎◌, inl, inr}
use Rattle.std.specs.Prelude.{if◌then◌else◌, remove, slice_get, slice_set}
use Rattle.std.proofs.lemmas.List.{append-nil}
use Rattle.std.proofs.lemmas.Option.{same_Some, slice_get_within}
use Rattle.wire_msg.specs.{Content}
use Rattle.wire_peer.specs.{Asked, LogEntry, asked_by, chain, id_after, written}
use Rattle.wire_peer.specs.declared.server_state.ServerCause.{ServerCause}
use Rattle.wire_peer.specs.declared.server_state.ServerState.TheVariants.{Open, Closed}
use Rattle.wire_model.specs.Conns.{Conn}
use Rattle.wire_model.specs.Machines.{Answered, Call, CallIs, EntryOf, Machine, Mute, Place, Waiting, entry_for, logged, logged_place, placed, server_gone}
use Rattle.wire_model.specs.Hostile.{AreMessages, IsNamed, GivesReplies, RawEntry, all_of, calls_of, entries_of, entry_by, raw_replies}
use Rattle.wire_model.specs.Shown.{IsStopped}
use Rattle.wire_model.proofs.Lists.{Each-at, Each-remove, Each-weaker, get-map, get-push_cases, get-push_new, get-set_other, get-set_same, map-push, same_or_not}
use Rattle.wire_model.proofs.Routes.{Tag}
use Rattle.wire_model.proofs.ConnCalls.{before-set, call_by_before, calls-set_here, calls_before, entries-push_here, entries_before-last}
use Rattle.wire_model.proofs.RawEntries.{entries-length, given-push, gives_from, named_set, next-push, next_by, not_waiting, open_not_stopped, raw_entries-longer, was_right, written-append}
use Rattle.wire_model.proofs.RawFits.{IsLeft, RawFits, StandsFor}
use Rattle.wire_model.proofs.RawChanges.{raw_gone}

asked_set : (xs : List Call) (i : ℕ) (x y : Call) → slice_get xs i ≡ Some x → y.asked ≡ x.asked → map (λ (z : Call). z.asked) (slice_set xs i y) ≡ map (λ (z : Call). z.asked) xs
asked_set [] i x y g e = refl
asked_set (a ∷ xs) zero x y g e = ap (λ w. w ∷ map (λ (z : Call). z.asked) xs) (e ∙ ap (λ (z : Call). z.asked) (sym (same_Some a x g)))
asked_set (a ∷ xs) (suc i) x y g e = ap (λ ws. a.asked ∷ ws) (asked_set xs i x y g e)

place_names : (x : Call) (e : ℕ) → EntryOf (placed x (logged_place x e)) e
place_names x e = elim x.asked.more_to_come as (λ b. ((if b then Mute e else Answered e) ≡ Answered e) ⊎ ((if b then Mute e else Answered e) ≡ Mute e)) [ true ↦ inr refl | false ↦ inl refl ]

-- one more entry
module _ {H : Type 0} (limit c : ℕ) (k k' : Conn) (m : Machine H) (waiting : List Tag) (taken given : List ℕ) (r : RawFits limit c k m waiting taken given)
    (place : ℕ) (t : Tag) (x : Call) (p : Place) (answers : Option (List Content)) (h : H) (gives : Bool)
    (lives : m.server_lives c ≡ true) (was : k.server.state ≡ Open) (waits : slice_get waiting place ≡ Some t)
    (there : CallIs m.calls t.call x) (here : x.connection ≡ c) (waiting_is : x.place ≡ Waiting) (names : EntryOf (placed x p) (length m.log)) where
  abbrev new_entry : LogEntry
  new_entry = entry_for x answers

  abbrev calls' : List Call
  calls' = slice_set m.calls t.call (placed x p)

  stands : StandsFor c m.calls r.messages t
  stands = Each-at (StandsFor c m.calls r.messages) waiting place t (r.waits lives) waits

  abbrev new_raw_entry : RawEntry
  new_raw_entry = record { index = calls_before c m.calls t.call; message = stands.message; answers = answers; gives = gives }

  asks : x.asked ≡ asked_by stands.message
  asks = same_Some x.asked (asked_by stands.message)
      (sym (get-map (λ (y : Call). y.asked) (calls_of c m.calls) (calls_before c m.calls t.call) x (call_by_before c m.calls t.call x there here))
      ∙ ap (λ xs. slice_get xs (calls_before c m.calls t.call)) r.strangers
      ∙ get-map asked_by r.messages (calls_before c m.calls t.call) stands.message stands.at)

  entry_is : new_entry ≡ entry_by c new_raw_entry
  entry_is = λ i. record { connection = here i; payload = (asks i).payload; answers = answers }

  entries : entries_of c (m.log ++ new_entry ∷ []) ≡ map (entry_by c) (r.raw_entries ++ new_raw_entry ∷ [])
  entries = entries-push_here c m.log new_entry here ∙ ap (λ es. es ++ new_entry ∷ []) r.entries
      ∙ ap (λ en. map (entry_by c) r.raw_entries ++ en ∷ []) entry_is ∙ sym (map-push (entry_by c) r.raw_entries new_raw_entry)

  newest_named : IsNamed c calls' (m.log ++ new_entry ∷ []) (length r.raw_entries) new_raw_entry
  newest_named = record {
    stranger = placed x p;
    at = ap (λ xs. slice_get xs (calls_before c m.calls t.call)) (calls-set_here c m.calls t.call x (placed x p) there here here)
        ∙ get-set_same (calls_of c m.calls) (calls_before c m.calls t.call) x (placed x p) (call_by_before c m.calls t.call x there here);
    e = length m.log;
    names = names;
    entry = get-push_new m.log new_entry ∙ ap (λ en. Some en) entry_is;
    before = entries_before-last c m.log new_entry ∙ ap length r.entries ∙ entries-length c r.raw_entries;
  }

  named : (i : ℕ) (u : RawEntry) → slice_get (r.raw_entries ++ new_raw_entry ∷ []) i ≡ Some u → IsNamed c calls' (m.log ++ new_entry ∷ []) i u
  named i u g = elim (get-push_cases r.raw_entries i u new_raw_entry g) [
    | inl old ↦ named_set c m.calls m.log (new_entry ∷ []) i t.call u x (placed x p) there here here waiting_is (r.named i u old)
    | inr new ↦ subst (λ v. IsNamed c calls' (m.log ++ new_entry ∷ []) i v) new.1 (subst (λ j. IsNamed c calls' (m.log ++ new_entry ∷ []) j new_raw_entry) (sym new.0) newest_named)
  ]

  -- the new entry answers another message than the old ones
  apart : (i : ℕ) (u v : RawEntry) → slice_get r.raw_entries i ≡ Some u → new_raw_entry ≡ v → u.index ≡ v.index → ⊥
  apart i u v g new same = not_waiting c m.calls m.log i t.call u x there here waiting_is (r.named i u g) (same ∙ ap (λ (w : RawEntry). w.index) (sym new))

  once : (i j : ℕ) (u v : RawEntry) → slice_get (r.raw_entries ++ new_raw_entry ∷ []) i ≡ Some u → slice_get (r.raw_entries ++ new_raw_entry ∷ []) j ≡ Some v → u.index ≡ v.index → i ≡ j
  once i j u v g h' same = elim (get-push_cases r.raw_entries i u new_raw_entry g) [
    | inl old ↦ elim (get-push_cases r.raw_entries j v new_raw_entry h') [
      | inl old' ↦ r.once i j u v old old' same
      | inr new' ↦ absurd (apart i u v old new'.1 same)
    ]
    | inr new ↦ elim (get-push_cases r.raw_entries j v new_raw_entry h') [
      | inl old' ↦ absurd (apart j v u old' new.1 (sym same))
      | inr new' ↦ new.0 ∙ sym new'.0
    ]
  ]

  are : (i : ℕ) (u : RawEntry) → slice_get (r.raw_entries ++ new_raw_entry ∷ []) i ≡ Some u → slice_get r.messages u.index ≡ Some u.message
  are i u g = elim (get-push_cases r.raw_entries i u new_raw_entry g) [
    | inl old ↦ r.are i u old
    | inr new ↦ subst (λ (v : RawEntry). slice_get r.messages v.index ≡ Some v.message) new.1 stands.at
  ]

  -- the other requests still wait
  others : (u : Tag) → StandsFor c m.calls r.messages u → StandsFor c calls' r.messages u
  others u a = elim (same_or_not u.call t.call) [
    | inl same ↦ other (placed x p) (ap (slice_get calls') same ∙ get-set_same m.calls t.call x (placed x p) there) here
    | inr n ↦ other a.x (get-set_other m.calls t.call u.call (placed x p) n ∙ a.there) a.here
  ]
    where
      other : (y : Call) → CallIs calls' u.call y → y.connection ≡ c → StandsFor c calls' r.messages u
      other y at conn = record {
        x = y;
        there = at;
        here = conn;
        message = a.message;
        at = ap (slice_get r.messages) (before-set c m.calls t.call u.call x (placed x p) there refl) ∙ a.at;
        id = a.id;
      }

  pub raw_entry_fits : k'.server.held ≡ k.server.held
      → k'.server.output ≡ k.server.output ++ written (if gives then chain k.server.next_id t.id (all_of answers) else [])
      → k'.server.next_id ≡ (if gives then id_after k.server.next_id (all_of answers) else k.server.next_id)
      → ((many i : ℕ) (u : RawEntry) → u.gives ≡ gives → u.answers ≡ answers → u.message.flags.more_to_come ≡ x.asked.more_to_come → suc i ≡ many → GivesReplies k'.server.state many i u)
      → RawFits limit c k' (logged m t.call (placed x p) (entry_for x answers) h) (remove waiting place) taken given
  raw_entry_fits held output next last = record {
    messages = r.messages;
    bytes = r.bytes;
    spelled = r.spelled;
    joined = r.joined ∙ ap (λ b. r.bytes ++ b) (sym held);
    left = subst (IsLeft limit) (sym held) r.left;
    strangers = strangers;
    waits = λ lives'. Each-weaker (StandsFor c m.calls r.messages) (StandsFor c calls' r.messages) (remove waiting place) others (Each-remove (StandsFor c m.calls r.messages) waiting place (r.waits lives));
    raw_entries = r.raw_entries ++ new_raw_entry ∷ [];
    entries = entries;
    are = are;
    named = named;
    once = once;
    right = λ i u g. subst (λ n. GivesReplies k'.server.state n i u) (sym (raw_entries-longer r.raw_entries new_raw_entry)) (elim (get-push_cases r.raw_entries i u new_raw_entry g) [
      | inl old ↦ was_right k.server.state k'.server.state (length r.raw_entries) (suc (length r.raw_entries)) i u was (let inside = slice_get_within r.raw_entries i u old in λ last. omega (arith, inside, last)) (r.right i u old)
      | inr new ↦ last (suc (length r.raw_entries)) i u (ap (λ (v : RawEntry). v.gives) (sym new.1)) (ap (λ (v : RawEntry). v.answers) (sym new.1)) (ap (λ (v : RawEntry). v.message.flags.more_to_come) (sym new.1) ∙ ap (λ (a : Asked). a.more_to_come) (sym asks)) (ap suc new.0)
    ]);
    given_is = ap (λ b. given ++ b) output ∙ sym (append_assoc given k.server.output put) ∙ ap (λ b. b ++ put) r.given_is
        ∙ ap (λ ms. written (raw_replies 1 r.raw_entries) ++ written ms) put_is
        ∙ sym (written-append (raw_replies 1 r.raw_entries) (gives_from (next_by 1 r.raw_entries) new_raw_entry)) ∙ ap written (sym (given-push 1 r.raw_entries new_raw_entry));
    next = next ∙ ap (λ n. if gives then id_after n (all_of answers) else n) r.next ∙ sym (next-push 1 r.raw_entries new_raw_entry);
  }
    where
      put : List ℕ
      put = written (if gives then chain k.server.next_id t.id (all_of answers) else [])

      put_is : (if gives then chain k.server.next_id t.id (all_of answers) else []) ≡ gives_from (next_by 1 r.raw_entries) new_raw_entry
      put_is = λ j. if gives then chain (r.next j) (sym stands.id j) (all_of answers) else []

      strangers : AreMessages c r.messages calls'
      strangers = ap (map (λ (y : Call). y.asked)) (calls-set_here c m.calls t.call x (placed x p) there here here)
          ∙ asked_set (calls_of c m.calls) (calls_before c m.calls t.call) x (placed x p) (call_by_before c m.calls t.call x there here) refl ∙ r.strangers

-- it gives its replies
pub raw_gives : {H : Type 0} (limit c : ℕ) (k k' : Conn) (m : Machine H) (waiting : List Tag) (taken given : List ℕ) (place : ℕ) (t : Tag) (x : Call) (answers : List Content) (h : H)
    → m.server_lives c ≡ true → k.server.state ≡ Open → slice_get waiting place ≡ Some t → CallIs m.calls t.call x → x.connection ≡ c → x.place ≡ Waiting → x.asked.more_to_come ≡ false
    → k'.server.held ≡ k.server.held → k'.server.output ≡ k.server.output ++ written (chain k.server.next_id t.id answers) → k'.server.next_id ≡ id_after k.server.next_id answers → k'.server.state ≡ k.server.state
    → RawFits limit c k m waiting taken given
    → RawFits limit c k' (logged m t.call (placed x (logged_place x (length m.log))) (entry_for x (Some answers)) h) (remove waiting place) taken given
raw_gives limit c k k' m waiting taken given place t x answers h lives was waits there here waiting_is loud held output next state r =
    raw_entry_fits limit c k k' m waiting taken given r place t x (logged_place x (length m.log)) (Some answers) h true lives was waits there here waiting_is (place_names x (length m.log)) held output next
    (λ many i u gives has more last. inl (gives, more ∙ loud, (λ none. let no_answers : Some answers ≡ None = sym has ∙ none in cc), λ end stopped. open_not_stopped k'.server.state (state ∙ was) stopped))

-- a silent request gets none
pub raw_silent : {H : Type 0} (limit c : ℕ) (k k' : Conn) (m : Machine H) (waiting : List Tag) (taken given : List ℕ) (place : ℕ) (t : Tag) (x : Call) (answers : List Content) (h : H)
    → m.server_lives c ≡ true → k.server.state ≡ Open → slice_get waiting place ≡ Some t → CallIs m.calls t.call x → x.connection ≡ c → x.place ≡ Waiting → x.asked.more_to_come ≡ true
    → k'.server.held ≡ k.server.held → k'.server.output ≡ k.server.output → k'.server.next_id ≡ k.server.next_id
    → RawFits limit c k m waiting taken given
    → RawFits limit c k' (logged m t.call (placed x (logged_place x (length m.log))) (entry_for x (Some answers)) h) (remove waiting place) taken given
raw_silent limit c k k' m waiting taken given place t x answers h lives was waits there here waiting_is silent held output next r =
    raw_entry_fits limit c k k' m waiting taken given r place t x (logged_place x (length m.log)) (Some answers) h false lives was waits there here waiting_is (place_names x (length m.log)) held (output ∙ sym (append-nil k.server.output)) next
    (λ many i u gives has more last. inr (inl (gives, more ∙ silent)))

-- it closes at its answers, or the handler stopped: the entry stays, and nothing is put out
pub raw_stops : {H : Type 0} (limit c : ℕ) (k k' : Conn) (m : Machine H) (waiting waiting' : List Tag) (taken given : List ℕ) (place : ℕ) (t : Tag) (x : Call) (answers : Option (List Content)) (h : H) (cause : ServerCause)
    → IsStopped (Closed cause) → m.server_lives c ≡ true → k.server.state ≡ Open → slice_get waiting place ≡ Some t → CallIs m.calls t.call x → x.connection ≡ c → x.place ≡ Waiting
    → k'.server.held ≡ k.server.held → k'.server.output ≡ k.server.output → k'.server.next_id ≡ k.server.next_id → k'.server.state ≡ Closed cause
    → RawFits limit c k m waiting taken given
    → RawFits limit c k' (server_gone (logged m t.call (placed x (Mute (length m.log))) (entry_for x answers) h) x.connection) waiting' taken given
raw_stops limit c k k' m waiting waiting' taken given place t x answers h cause good lives was waits there here waiting_is held output next state r =
    subst (λ d. RawFits limit c k' (server_gone (logged m t.call (placed x (Mute (length m.log))) (entry_for x answers) h) d) waiting' taken given) (sym here)
    (raw_gone limit c k' (logged m t.call (placed x (Mute (length m.log))) (entry_for x answers) h) (remove waiting place) waiting' taken given
    (raw_entry_fits limit c k k' m waiting taken given r place t x (Mute (length m.log)) answers h false lives was waits there here waiting_is (inr refl) held (output ∙ sym (append-nil k.server.output)) next
    (λ many i u gives has more last. inr (inr (gives, last, subst IsStopped (sym state) good)))))
