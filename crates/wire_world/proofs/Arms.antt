-- Cuts and returns in the world, by what the code has done.
use Rattle.std.proofs.Common.{◌≡◌, ℕ, ◌-◌, ◌&&◌, ◌||◌, Bool, true, false, not, if◌then◌else◌, get_or, List, map, Option, None, Some, ap, refl, sym, subst, ◌∙◌}
use Rattle.std.specs.Prelude.{slice_set, unwrap_or}
use Rattle.std.proofs.lemmas.Option.{none-some}
use Rattle.wire_msg.specs.declared.payloads.Payload.{Payload}
use Rattle.wire_peer.specs.declared.calls.CallKind.{CallKind}
use Rattle.wire_pool.specs.{PoolSeen, checked_in}
use Rattle.wire_pool.specs.declared.pool_answers.CheckIn.{CheckIn}
use Rattle.wire_pool.specs.declared.pool_answers.CheckIn.TheVariants as ins
use Rattle.wire_model.specs.{Conn, CutsDown, CutsUp, Record, Returns, World, conn_at, conn_set, core_reason, cut_down, cut_up, dropped, first_reason, is_cut_for, is_healthy, is_lent, needs_of, no_needs, reason_at, settled_record, with_pool}
use Rattle.wire_model.specs.declared.events.Event.{Event}
use Rattle.wire_model.specs.declared.events.Event.TheVariants as events
use Rattle.wire_model.specs.declared.needs.Needs.{Needs}
use Rattle.wire_model.specs.declared.refusals.WorldRefusal.{WorldRefusal}
use Rattle.wire_model.specs.declared.refusals.WorldRefusal.TheVariants as refusals
use Rattle.wire_world.specs.Worlds.{WorldSeen}
use Rattle.wire_world.proofs.Found.{is_from_1, is_read}
use Rattle.wire_world.proofs.Numbered.{conn_set_place}

-- ---- an event that passes the checks

-- what an event of this connection needs of it
abbrev needs : Event → ℕ → Needs
needs e c = unwrap_or (needs_of e) (no_needs c)

-- the connection isn't of the wrong sort, is lent if it must be, and isn't cut
pub record Passes {H : Type 0} (w : World H) (e : Event) (c : ℕ) (k : Conn) : Type 0 where
  pub client : ((needs e c).client && k.raw) ≡ false
  pub raw : ((needs e c).raw && not k.raw) ≡ false
  pub loan : ((needs e c).loan && not (is_lent (needs e c).connection w.pool.lent)) ≡ false
  pub up : ((needs e c).up && k.up_cut) ≡ false
  pub down : ((needs e c).down && k.down_cut) ≡ false
  pub core : core_reason e k ≡ None

first_of : (b : Bool) (r : WorldRefusal) (o : Option WorldRefusal) → (if b then Some r else o) ≡ None → (b ≡ false) × (o ≡ None)
first_of true r o e = absurd (none-some r (sym e))
first_of false r o e = (refl, e)

neither : (a b : Bool) → (a || b) ≡ false → (a ≡ false) × (b ≡ false)
neither true b e = let no : true ≡ false = e in cc
neither false b e = (refl, e)

pub passed : {H : Type 0} (w : World H) (e : Event) (c : ℕ) (k : Conn) → conn_at w.conns c ≡ Some k → reason_at w e (needs e c) (conn_at w.conns c) ≡ None → Passes w e c k
passed w e c k at none =
    let n : Needs = needs e c in
    let p = subst (λ (o : Option Conn). reason_at w e n o ≡ None) at none in
    let one = first_of (n.client && k.raw) refusals.Raw _ p in
    let two = first_of (n.raw && not k.raw) refusals.NotRaw _ one.1 in
    let three = first_of (n.loan && not (is_lent n.connection w.pool.lent)) refusals.NotLent _ two.1 in
    let four = first_of (is_cut_for n k) refusals.Cut _ three.1 in
    let ways = neither (n.up && k.up_cut) (n.down && k.down_cut) four.0 in
    record { client = one.0; raw = two.0; loan = three.0; up = ways.0; down = ways.1; core = four.1 }

sure : (b : Bool) → (true && b) ≡ false → b ≡ false
sure b e = e

-- a connection that is called isn't raw
pub calls_ours : {H : Type 0} {v now : WorldSeen H} (c : ℕ) (kind : CallKind) (payload : Payload) (k : Conn) → v ≡ now → first_reason now.state (events.Call c kind payload) ≡ None → k ≡ get_or v.state.conns (c - 1) k → k.raw ≡ false
calls_ours {v = v} c kind payload k seen passes read =
    let e : Event = events.Call c kind payload in
    let none : first_reason v.state e ≡ None = subst (λ (u : WorldSeen _). first_reason u.state e ≡ None) (sym seen) passes in
    sure k.raw (passed v.state e c k (is_read v.state e c k refl none read) none).client

-- ---- cuts

pub cuts_up : {H : Type 0} {v now : WorldSeen H} (c : ℕ) (k k' : Conn) → v ≡ now → first_reason now.state (events.CutUp c) ≡ None → k ≡ get_or v.state.conns (c - 1) k
    → k' ≡ cut_up k → CutsUp now.state c (record (v.state) { conns = slice_set v.state.conns (c - 1) k' })
cuts_up {H} {v} {now} c k k' seen passes read is =
    subst (λ (u : WorldSeen H). first_reason u.state (events.CutUp c) ≡ None → CutsUp u.state c (record (v.state) { conns = slice_set v.state.conns (c - 1) k' })) seen here passes
  where
    here : first_reason v.state (events.CutUp c) ≡ None → CutsUp v.state c (record (v.state) { conns = slice_set v.state.conns (c - 1) k' })
    here none = record {
      k = k;
      at = is_read v.state (events.CutUp c) c k refl none read;
      uncut = (passed v.state (events.CutUp c) c k (is_read v.state (events.CutUp c) c k refl none read) none).up;
      after = ap (λ (ks : List Conn). let w : World H = record (v.state) { conns = ks } in w)
          (sym (conn_set_place v.state.conns c k' (is_from_1 v.state (events.CutUp c) c refl none)) ∙ ap (λ (j : Conn). conn_set v.state.conns c j) is);
    }

pub cuts_down : {H : Type 0} {v now : WorldSeen H} (c : ℕ) (k k' : Conn) (calls : List Record) → v ≡ now → first_reason now.state (events.CutDown c) ≡ None → k ≡ get_or v.state.conns (c - 1) k
    → k' ≡ cut_down k → calls ≡ map (settled_record (slice_set v.state.conns (c - 1) k')) v.state.calls
    → CutsDown now.state c (record (v.state) { conns = slice_set v.state.conns (c - 1) k'; calls = calls })
cuts_down {H} {v} {now} c k k' calls seen passes read is settles =
    subst (λ (u : WorldSeen H). first_reason u.state (events.CutDown c) ≡ None → CutsDown u.state c (record (v.state) { conns = slice_set v.state.conns (c - 1) k'; calls = calls })) seen here passes
  where
    here : first_reason v.state (events.CutDown c) ≡ None → CutsDown v.state c (record (v.state) { conns = slice_set v.state.conns (c - 1) k'; calls = calls })
    here none = record {
      k = k;
      at = is_read v.state (events.CutDown c) c k refl none read;
      honest = sure k.raw (passed v.state (events.CutDown c) c k (is_read v.state (events.CutDown c) c k refl none read) none).client;
      uncut = (passed v.state (events.CutDown c) c k (is_read v.state (events.CutDown c) c k refl none read) none).down;
      after = ap (λ (xs : List Record). let w : World H = record (v.state) { conns = slice_set v.state.conns (c - 1) k'; calls = xs } in w) settles
          ∙ ap (λ (ks : List Conn). let w : World H = record (v.state) { conns = ks; calls = map (settled_record ks) v.state.calls } in w)
          (sym (conn_set_place v.state.conns c k' (is_from_1 v.state (events.CutDown c) c refl none)) ∙ ap (λ (j : Conn). conn_set v.state.conns c j) is);
    }

-- ---- connections that come back

came_back : {H : Type 0} {v now : WorldSeen H} (c : ℕ) (k : Conn) (kept : Bool) (p : PoolSeen) (new : World H) → v ≡ now → first_reason now.state (events.Return c) ≡ None → k ≡ get_or v.state.conns (c - 1) k
    → checked_in v.state.pool c (is_healthy k) ≡ (if kept then ins.Kept else ins.Dropped, p) → new ≡ (if kept then with_pool v.state p else dropped (with_pool v.state p) c) → Returns now.state c kept new
came_back {H} {v} {now} c k kept p new seen passes read step after = subst (λ (u : WorldSeen H). first_reason u.state (events.Return c) ≡ None → Returns u.state c kept new) seen here passes
  where
    here : first_reason v.state (events.Return c) ≡ None → Returns v.state c kept new
    here none = record {
      k = k;
      at = is_read v.state (events.Return c) c k refl none read;
      honest = sure k.raw (passed v.state (events.Return c) c k (is_read v.state (events.Return c) c k refl none read) none).client;
      pool = p;
      checked = step;
      after = after;
    }

checked_as : (p q : PoolSeen) (c : ℕ) (k : Conn) (healthy : Bool) (r is : CheckIn) → healthy ≡ is_healthy k → r ≡ is → (r, q) ≡ checked_in p c healthy → checked_in p c (is_healthy k) ≡ (is, q)
checked_as p q c k healthy r is same was step =
    ap (λ (h : Bool). checked_in p c h) (sym same) ∙ sym step ∙ ap (λ (i : CheckIn). let x : CheckIn × PoolSeen = (i, q) in x) was

pub comes_kept : {H : Type 0} {v now : WorldSeen H} (c : ℕ) (k : Conn) (healthy : Bool) (r : CheckIn) (p : PoolSeen) → v ≡ now → first_reason now.state (events.Return c) ≡ None → k ≡ get_or v.state.conns (c - 1) k
    → healthy ≡ is_healthy k → r ≡ ins.Kept → (r, p) ≡ checked_in v.state.pool c healthy → Returns now.state c true (with_pool v.state p)
comes_kept {H} {v} {now} c k healthy r p seen passes read same was step = came_back c k true p (with_pool v.state p) seen passes read (checked_as v.state.pool p c k healthy r ins.Kept same was step) refl

pub comes_dropped : {H : Type 0} {v now : WorldSeen H} (c : ℕ) (k : Conn) (healthy : Bool) (r : CheckIn) (p : PoolSeen) (new : World H) → v ≡ now → first_reason now.state (events.Return c) ≡ None → k ≡ get_or v.state.conns (c - 1) k
    → healthy ≡ is_healthy k → r ≡ ins.Dropped → (r, p) ≡ checked_in v.state.pool c healthy → new ≡ dropped (with_pool v.state p) c → Returns now.state c false new
comes_dropped {H} {v} {now} c k healthy r p new seen passes read same was step after = came_back c k false p new seen passes read (checked_as v.state.pool p c k healthy r ins.Dropped same was step) after
