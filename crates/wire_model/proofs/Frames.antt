-- A step of one connection leaves the others as they are.
use Rattle.std.proofs.Common.{◌≡◌, ℕ, Bool, List, [], ◌∷◌, ◌++◌, map, refl, sym, ◌∙◌, ap, append_assoc, Some, inl, inr}
use Rattle.std.specs.Prelude.{slice_get, slice_set, if◌then◌else◌}
use Rattle.std.proofs.lemmas.List.{append-nil}
use Rattle.std.proofs.lemmas.Option.{same_Some}
use Rattle.wire_peer.specs.{LogEntry}
use Rattle.wire_model.specs.Machines.{Call, CallIs, Machine, lost_state, lost, never_place, never, with_new, with_call, logged, client_gone, server_gone}
use Rattle.wire_model.proofs.ConnCalls.{before-map, before-push, before-set, calls-map_other, calls-push_other, calls-set_other, entries-push_other, is_elsewhere}
use Rattle.wire_model.proofs.Lists.{get-push_old, get-push_cases, get-set_same, get-set_other, same_or_not, get-map, get-map_back}
use Rattle.wire_model.proofs.Ranks.{ours, rank-push, rank-set, rank-map, ours-lost}
use Rattle.wire_model.proofs.Kept.{SameAt}
use Rattle.wire_model.proofs.Gone.{gone_other}

pub same_there : {H : Type 0} (d : ℕ) (m : Machine H) → SameAt d m m
same_there d m = record {
  there = λ i x g at. g;
  back = λ i x g at. g;
  still = λ i x g. (x, g);
  ranks = λ i x g. refl;
  calls = refl;
  before = λ i x g. refl;
  log = λ e en g. g;
  entries = refl;
  more = ([], sym (append-nil m.log));
  raw = refl;
  client = refl;
  server = refl;
}

pub same_then : {H : Type 0} (d : ℕ) (m n o : Machine H) → SameAt d m n → SameAt d n o → SameAt d m o
same_then d m n o a b = record {
  there = λ i x g at. b.there i x (a.there i x g at) at;
  back = λ i x g at. a.back i x (b.back i x g at) at;
  still = λ i x g. let p = a.still i x g in b.still i p.0 p.1;
  ranks = λ i x g. let p = a.still i x g in b.ranks i p.0 p.1 ∙ a.ranks i x g;
  calls = b.calls ∙ a.calls;
  before = λ i x g. let p = a.still i x g in b.before i p.0 p.1 ∙ a.before i x g;
  log = λ e en g. b.log e en (a.log e en g);
  entries = b.entries ∙ a.entries;
  more = (a.more.0 ++ b.more.0, b.more.1 ∙ ap (λ z. z ++ b.more.0) a.more.1 ∙ append_assoc m.log a.more.0 b.more.0);
  raw = b.raw ∙ a.raw;
  client = b.client ∙ a.client;
  server = b.server ∙ a.server;
}

pub same_new : {H : Type 0} (d : ℕ) (m : Machine H) (y : Call) → (y.connection ≡ d → ⊥) → SameAt d m (with_new m y)
same_new d m y n = record {
  there = λ i x g at. get-push_old m.calls i x y g;
  back = λ i x g at. elim (get-push_cases m.calls i x y g) [ inl h ↦ h | inr h ↦ absurd (n (ap (λ (z : Call). z.connection) h.1 ∙ at)) ];
  still = λ i x g. (x, get-push_old m.calls i x y g);
  ranks = λ i x g. rank-push m.calls i x y g;
  calls = calls-push_other d m.calls y n;
  before = λ i x g. before-push d m.calls i x y g;
  log = λ e en g. g;
  entries = refl;
  more = ([], sym (append-nil m.log));
  raw = refl;
  client = refl;
  server = refl;
}

set_there : (d : ℕ) (calls : List Call) (i : ℕ) (x y : Call) → CallIs calls i x → (x.connection ≡ d → ⊥) → (j : ℕ) (z : Call) → CallIs calls j z → z.connection ≡ d → CallIs (slice_set calls i y) j z
set_there d calls i x y at n j z g is = elim (same_or_not j i) [
  | inl s ↦ absurd (let same : z ≡ x = same_Some z x (sym g ∙ ap (slice_get calls) s ∙ at) in n (ap (λ (w : Call). w.connection) (sym same) ∙ is))
  | inr o ↦ get-set_other calls i j y o ∙ g
]

set_still : (calls : List Call) (i : ℕ) (x y : Call) → CallIs calls i x → (j : ℕ) (z : Call) → CallIs calls j z → (w : Call) × CallIs (slice_set calls i y) j w
set_still calls i x y at j z g = elim (same_or_not j i) [
  | inl s ↦ (y, ap (slice_get (slice_set calls i y)) s ∙ get-set_same calls i x y at)
  | inr o ↦ (z, get-set_other calls i j y o ∙ g)
]

set_back : (d : ℕ) (calls : List Call) (i : ℕ) (x y : Call) → CallIs calls i x → (y.connection ≡ d → ⊥) → (j : ℕ) (z : Call) → CallIs (slice_set calls i y) j z → z.connection ≡ d → CallIs calls j z
set_back d calls i x y at n j z g is = elim (same_or_not j i) [
  | inl s ↦ absurd (let same : z ≡ y = same_Some z y (sym g ∙ ap (slice_get (slice_set calls i y)) s ∙ get-set_same calls i x y at) in n (ap (λ (w : Call). w.connection) (sym same) ∙ is))
  | inr o ↦ sym (get-set_other calls i j y o) ∙ g
]

pub same_with_call : {H : Type 0} (d : ℕ) (m : Machine H) (i : ℕ) (x y : Call) → CallIs m.calls i x → (x.connection ≡ d → ⊥) → y.connection ≡ x.connection → y.asked ≡ x.asked → ours y ≡ ours x → SameAt d m (with_call m i y)
same_with_call d m i x y at n same asked o = record {
  there = set_there d m.calls i x y at n;
  back = set_back d m.calls i x y at (λ is. n (sym same ∙ is));
  still = set_still m.calls i x y at;
  ranks = λ j z g. rank-set m.calls i x y at o j;
  calls = calls-set_other d m.calls i x y at n (λ is. n (sym same ∙ is));
  before = λ j z g. before-set d m.calls i j x y at same;
  log = λ e en g. g;
  entries = refl;
  more = ([], sym (append-nil m.log));
  raw = refl;
  client = refl;
  server = refl;
}

pub same_logged : {H : Type 0} (d : ℕ) (m : Machine H) (i : ℕ) (x y : Call) (en : LogEntry) (h : H) → CallIs m.calls i x → (x.connection ≡ d → ⊥) → y.connection ≡ x.connection → y.asked ≡ x.asked → ours y ≡ ours x
    → en.connection ≡ x.connection → SameAt d m (logged m i y en h)
same_logged d m i x y en h at n same asked o of_x = record {
  there = set_there d m.calls i x y at n;
  back = set_back d m.calls i x y at (λ is. n (sym same ∙ is));
  still = set_still m.calls i x y at;
  ranks = λ j z g. rank-set m.calls i x y at o j;
  calls = calls-set_other d m.calls i x y at n (λ is. n (sym same ∙ is));
  before = λ j z g. before-set d m.calls i j x y at same;
  log = λ e e' g. get-push_old m.log e e' en g;
  entries = entries-push_other d m.log en (λ is. n (sym of_x ∙ is));
  more = (en ∷ [], refl);
  raw = refl;
  client = refl;
  server = refl;
}

pub lost_other : (c : ℕ) (x : Call) → (x.connection ≡ c → ⊥) → lost c x ≡ x
lost_other c x n = ap (λ (b : Bool). let y : Call = record { connection = x.connection; asked = x.asked; place = x.place; parts = x.parts; state = if b then lost_state x.state else x.state } in y) (is_elsewhere c x.connection n)

pub never_other : (c : ℕ) (x : Call) → (x.connection ≡ c → ⊥) → never c x ≡ x
never_other c x n = ap (λ (b : Bool). let y : Call = record { connection = x.connection; asked = x.asked; place = if b then never_place x.place else x.place; parts = x.parts; state = x.state } in y) (is_elsewhere c x.connection n)

map_there : (d : ℕ) (f : Call → Call) (calls : List Call) → ((x : Call) → x.connection ≡ d → f x ≡ x) → (i : ℕ) (x : Call) → CallIs calls i x → x.connection ≡ d → CallIs (map f calls) i x
map_there d f calls same i x g at = get-map f calls i x g ∙ ap (λ z. Some z) (same x at)

map_back : (d : ℕ) (f : Call → Call) (calls : List Call) → ((x : Call) → (f x).connection ≡ x.connection) → ((x : Call) → x.connection ≡ d → f x ≡ x) → (i : ℕ) (x : Call) → CallIs (map f calls) i x → x.connection ≡ d → CallIs calls i x
map_back d f calls conn same i x g at = let p = get-map_back f calls i x g in
    let here : p.0.connection ≡ d = sym (conn p.0) ∙ ap (λ (z : Call). z.connection) p.2 ∙ at in
    p.1 ∙ ap (λ z. Some z) (sym (same p.0 here) ∙ p.2)

pub same_client_gone : {H : Type 0} (d c : ℕ) (m : Machine H) → (d ≡ c → ⊥) → SameAt d m (client_gone m c)
same_client_gone d c m n = record {
  there = map_there d (lost c) m.calls (λ x at. lost_other c x (λ e. n (sym at ∙ e)));
  back = map_back d (lost c) m.calls (λ x. refl) (λ x at. lost_other c x (λ e. n (sym at ∙ e)));
  still = λ i x g. (lost c x, get-map (lost c) m.calls i x g);
  ranks = λ i x g. rank-map (lost c) (ours-lost c) m.calls i;
  calls = calls-map_other d (lost c) m.calls (λ x. refl) (λ x at. lost_other c x (λ e. n (sym at ∙ e)));
  before = λ j z g. before-map d (lost c) m.calls j (λ x. refl);
  log = λ e en g. g;
  entries = refl;
  more = ([], sym (append-nil m.log));
  raw = refl;
  client = gone_other m.client_lives c d n;
  server = refl;
}

pub same_server_gone : {H : Type 0} (d c : ℕ) (m : Machine H) → (d ≡ c → ⊥) → SameAt d m (server_gone m c)
same_server_gone d c m n = record {
  there = map_there d (never c) m.calls (λ x at. never_other c x (λ e. n (sym at ∙ e)));
  back = map_back d (never c) m.calls (λ x. refl) (λ x at. never_other c x (λ e. n (sym at ∙ e)));
  still = λ i x g. (never c x, get-map (never c) m.calls i x g);
  ranks = λ i x g. rank-map (never c) (λ z. refl) m.calls i;
  calls = calls-map_other d (never c) m.calls (λ x. refl) (λ x at. never_other c x (λ e. n (sym at ∙ e)));
  before = λ j z g. before-map d (never c) m.calls j (λ x. refl);
  log = λ e en g. g;
  entries = refl;
  more = ([], sym (append-nil m.log));
  raw = refl;
  client = refl;
  server = gone_other m.server_lives c d n;
}
