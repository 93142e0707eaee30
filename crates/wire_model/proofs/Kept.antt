-- What stays on the ways of a connection when the machine changes.
use Rattle.std.proofs.Common.{◌≡◌, ℕ, ◌<◌, List, [], ◌∷◌, ◌++◌, length, map, take, refl, sym, ◌∙◌, ap, arith, append_assoc, Option, Some, inl, inr}
use Rattle.std.specs.Prelude.{slice_get, slice_set}
use Rattle.std.specs.List.{flat_map}
use Rattle.std.proofs.lemmas.Option.{same_Some}
use Rattle.std.proofs.lemmas.List.Concat.{flat_map-append}
use Rattle.wire_peer.specs.{LogEntry, Table}
use Rattle.wire_peer.specs.declared.call_table.ReadyReply.{ReadyReply}
use Rattle.wire_model.specs.Conns.{Conn}
use Rattle.wire_model.specs.Hostile.{calls_of, entries_of}
use Rattle.wire_model.specs.Machines.{Call, CallIs, Machine}
use Rattle.wire_model.proofs.Lists.{Has, Each, Each-weaker, Has-push_cases, get-push_old, get-set_same, get-set_other, same_or_not, get-map}
use Rattle.wire_model.proofs.Exacts.{Exact, exact_kept}
use Rattle.wire_model.proofs.Ranks.{rank, ours, rank-push, rank-set, rank-map}
use Rattle.wire_model.proofs.Routes.{Tag, Due, Route, TagIs, DueIs, WaitFits, UpFits, DownFits, Fits, OnWayAt, WaitingAt, DueAt, Rising, tag_calls, due_calls}

-- each call is still there, with what it asks, under its index
abbrev pub TagsKept : List Call → List Call → Type 0
TagsKept calls calls' = (i : ℕ) (x : Call) → CallIs calls i x → (y : Call) × CallIs calls' i y × (y.asked ≡ x.asked) × (rank calls' i ≡ rank calls i)

pub tags_kept : (calls calls' : List Call) (ts : List Tag) → TagsKept calls calls' → Each (TagIs calls) ts → Each (TagIs calls') ts
tags_kept calls calls' ts k e = Each-weaker (TagIs calls) (TagIs calls') ts
    (λ t is. let p = k t.call is.x is.at in record { x = p.0; at = p.1; asked = p.2 ∙ is.asked; index = p.3 ∙ is.index })
    e

pub kept_push : (calls : List Call) (y : Call) → TagsKept calls (calls ++ y ∷ [])
kept_push calls y i x g = (x, get-push_old calls i x y g, refl, rank-push calls i x y g)

pub kept_set : (calls : List Call) (i : ℕ) (x y : Call) → CallIs calls i x → y.asked ≡ x.asked → ours y ≡ ours x → TagsKept calls (slice_set calls i y)
kept_set calls i x y at a o j z g = elim (same_or_not j i) [
  | inl e ↦ let same : z ≡ x = same_Some z x (sym g ∙ ap (slice_get calls) e ∙ at) in (y, rw e (get-set_same calls i x y at), rw same a, rank-set calls i x y at o j)
  | inr n ↦ (z, get-set_other calls i j y n ∙ g, refl, rank-set calls i x y at o j)
]

pub kept_map : (calls : List Call) (f : Call → Call) → ((x : Call) → (f x).asked ≡ x.asked) → ((x : Call) → ours (f x) ≡ ours x) → TagsKept calls (map f calls)
kept_map calls f a o i x g = (f x, get-map f calls i x g, a x, rank-map f o calls i)

pub wait_kept : {H : Type 0} (c : ℕ) (requests : List (List ℕ)) (m n : Machine H) (waiting : List Tag)
    → Exact (WaitingAt c) n.calls (tag_calls waiting) → TagsKept m.calls n.calls → WaitFits c requests m waiting → WaitFits c requests n waiting
wait_kept c requests m n waiting e k w = record { same = w.same; are = e; tags = tags_kept m.calls n.calls waiting k w.tags }

pub up_kept : {H : Type 0} (limit c : ℕ) (held output : List ℕ) (m n : Machine H) (onway : List Tag)
    → Exact (OnWayAt c) n.calls (tag_calls onway) → TagsKept m.calls n.calls → UpFits limit c held output m onway → UpFits limit c held output n onway
up_kept limit c held output m n onway o k u = record {
  bytes = u.bytes;
  still_open = u.still_open;
  fit = u.fit;
  are = o;
  tags = tags_kept m.calls n.calls onway k u.tags;
  rising = u.rising;
}

pub down_kept : {H : Type 0} (limit c : ℕ) (held output : List ℕ) (reply : Option ReadyReply) (os : Table) (indexes : List ℕ) (m n : Machine H) (due : List Due)
    → Exact (DueAt c) n.calls (due_calls due) → ((d : Due) → DueIs m d → DueIs n d)
    → DownFits limit c held output reply os indexes m due → DownFits limit c held output reply os indexes n due
down_kept limit c held output reply os indexes m n due e f d = record {
  bytes = d.bytes;
  still_open = d.still_open;
  no_reply = d.no_reply;
  fit = d.fit;
  are = e;
  tags = Each-weaker (DueIs m) (DueIs n) due f d.tags;
  rising = d.rising;
  ids = d.ids;
  streams = d.streams;
}

-- replies are still due to a call that is still there
pub due_there : {H : Type 0} (m n : Machine H) (d : Due) (is : DueIs m d) → CallIs n.calls d.tag.call is.tag.x → rank n.calls d.tag.call ≡ rank m.calls d.tag.call → slice_get n.log d.entry ≡ Some is.entry → DueIs n d
due_there m n d is at r log = record {
  tag = record { x = is.tag.x; at = at; asked = is.tag.asked; index = r ∙ is.tag.index };
  place = is.place;
  entry = is.entry;
  in_log = log;
  answers = is.answers;
  fair = is.fair;
}

-- For connection c the two machines are the same, except that the second may have more entries.
pub record SameAt {H : Type 0} (c : ℕ) (m n : Machine H) : Type 0 where
  pub there : (i : ℕ) (x : Call) → CallIs m.calls i x → x.connection ≡ c → CallIs n.calls i x
  pub back : (i : ℕ) (x : Call) → CallIs n.calls i x → x.connection ≡ c → CallIs m.calls i x
  pub still : (i : ℕ) (x : Call) → CallIs m.calls i x → (y : Call) × CallIs n.calls i y
  pub ranks : (i : ℕ) (x : Call) → CallIs m.calls i x → rank n.calls i ≡ rank m.calls i
  pub calls : calls_of c n.calls ≡ calls_of c m.calls
  pub before : (i : ℕ) (x : Call) → CallIs m.calls i x → length (calls_of c (take i n.calls)) ≡ length (calls_of c (take i m.calls))
  pub log : (e : ℕ) (en : LogEntry) → slice_get m.log e ≡ Some en → slice_get n.log e ≡ Some en
  pub entries : entries_of c n.log ≡ entries_of c m.log
  pub more : (rest : List LogEntry) × (n.log ≡ m.log ++ rest)
  pub raw : n.raw c ≡ m.raw c
  pub client : n.client_lives c ≡ m.client_lives c
  pub server : n.server_lives c ≡ m.server_lives c

exact_same : {H : Type 0} (Q : Call → Type 0) (c : ℕ) (m n : Machine H) (is : List ℕ) → ((x : Call) → Q x → x.connection ≡ c) → SameAt c m n → Exact Q m.calls is → Exact Q n.calls is
exact_same Q c m n is at s e = exact_kept Q m.calls n.calls is (λ i x g q. (x, s.there i x g (at x q), q)) (λ i x g q. (x, s.back i x g (at x q), q)) e

pub each_has : {A : Type 0} (P R : A → Type 0) (key : A → ℕ) (xs : List A) → ((x : A) → Has (key x) (map key xs) → P x → R x) → Each P xs → Each R xs
each_has P R key [] f e = tt
each_has P R key (x ∷ xs) f e = (f x (inl refl) e.0, each_has P R key xs (λ y h p. f y (inr h) p) e.1)

tags_same : {H : Type 0} (Q : Call → Type 0) (c : ℕ) (m n : Machine H) (ts : List Tag) → ((x : Call) → Q x → x.connection ≡ c) → SameAt c m n → Exact Q m.calls (tag_calls ts) → Each (TagIs m.calls) ts → Each (TagIs n.calls) ts
tags_same Q c m n ts at s e tags = each_has (TagIs m.calls) (TagIs n.calls) (λ t. t.call) ts
    (λ t h is. let p = e.each t.call h in let same : is.x ≡ p.0 = same_Some is.x p.0 (sym is.at ∙ p.1) in
    record { x = is.x; at = s.there t.call is.x is.at (rw same (at p.0 p.2)); asked = is.asked; index = s.ranks t.call is.x is.at ∙ is.index }) tags

pub fits_same : {H : Type 0} (limit c : ℕ) (k : Conn) (m n : Machine H) (r : Route) → SameAt c m n → Fits limit c k m r → Fits limit c k n r
fits_same limit c k m n r s f = record {
  made = f.made;
  raw_is = f.raw_is ∙ sym s.raw;
  client_is = f.client_is ∙ sym s.client;
  server_is = f.server_is ∙ sym s.server;
  wait = λ lives. let w = f.wait (sym s.server ∙ lives) in record {
    same = w.same;
    are = exact_same (WaitingAt c) c m n (tag_calls r.waiting) (λ x q. q.0) s w.are;
    tags = tags_same (WaitingAt c) c m n r.waiting (λ x q. q.0) s w.are w.tags;
  };
  up = λ lives raw. let u = f.up (sym s.server ∙ lives) raw in record {
    bytes = u.bytes;
    still_open = u.still_open;
    fit = u.fit;
    are = exact_same (OnWayAt c) c m n (tag_calls r.onway) (λ x q. q.0) s u.are;
    tags = tags_same (OnWayAt c) c m n r.onway (λ x q. q.0) s u.are u.tags;
    rising = u.rising;
  };
  down = λ lives. let d = f.down (sym s.client ∙ lives) in record {
    bytes = d.bytes;
    still_open = d.still_open;
    no_reply = d.no_reply;
    fit = d.fit;
    are = exact_same (DueAt c) c m n (due_calls r.due) (λ x q. q.0) s d.are;
    tags = each_has (DueIs m) (DueIs n) (λ a. a.tag.call) r.due
        (λ a h is. let p = d.are.each a.tag.call h in let same : is.tag.x ≡ p.0 = same_Some is.tag.x p.0 (sym is.tag.at ∙ p.1) in
        due_there m n a is (s.there a.tag.call is.tag.x is.tag.at (rw same p.2.0)) (s.ranks a.tag.call is.tag.x is.tag.at) (s.log a.entry is.entry is.in_log)) d.tags;
    rising = d.rising;
    ids = d.ids;
    streams = d.streams;
  };
  onway_ids = λ a b. f.onway_ids (sym s.client ∙ a) (sym s.server ∙ b);
  waiting_ids = λ a b. f.waiting_ids (sym s.client ∙ a) (sym s.server ∙ b);
  up_uncut = f.up_uncut;
  down_uncut = f.down_uncut;
}

pub Rising-push : (is : List ℕ) (n : ℕ) → ((j : ℕ) → Has j is → j < n) → Rising is → Rising (is ++ n ∷ [])
Rising-push [] n b r = (λ j h. absurd h, tt)
Rising-push (i ∷ is) n b r = (λ j h. elim (Has-push_cases is j n h) [ inl h' ↦ r.0 j h' | inr e ↦ let lt : i < n = b i (inl refl) in omega arith ], Rising-push is n (λ j h. b j (inr h)) r.1)

pub one_more : {A : Type 0} (f : A → List ℕ) (held output : List ℕ) (xs : List A) (x : A) → held ++ output ≡ flat_map f xs → held ++ (output ++ f x) ≡ flat_map f (xs ++ x ∷ [])
one_more f held output xs x e =
    sym (append_assoc held output (f x)) ∙ ap (λ b. b ++ f x) e ∙ (let single : flat_map f xs ++ f x ≡ flat_map f xs ++ (f x ++ []) = ap (λ b. flat_map f xs ++ b) (sym (append_nil (f x))) in single) ∙ sym (flat_map-append f xs (x ∷ []))
  where
    append_nil : (ys : List ℕ) → ys ++ [] ≡ ys
    append_nil [] = refl
    append_nil (y ∷ ys) = ap (λ zs. y ∷ zs) (append_nil ys)
