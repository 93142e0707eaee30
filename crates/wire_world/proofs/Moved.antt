-- What each event that moves bytes does, from what was moved over its connection.
use Rattle.std.specs.Prelude.{◌≡◌, ◌≢◌, ℕ, ◌+◌, ◌-◌, ◌<◌, ◌≤◌, ◌⊎◌, ◌&&◌, Bool, true, false, not, List, [], length, take, drop, Option, None, Some, Result, Ok, slice_set}
use Rattle.std.specs.declared.alloc.Global.{Global}
use Rattle.std.specs.declared.vec.Vec.{Vec}
use Rattle.std.proofs.Common.{◌∙◌, Bor, ap, get_or, inr, refl, subst, sym}
use Rattle.wire_peer.specs.{ClientSeen, Does, ServerView, Stops}
use Rattle.wire_peer.specs.declared.server_state.ServerCause.{ServerCause}
use Rattle.wire_model.specs.{Conn, Happens, World, conn_at, conn_set, connection_of, dropped, first_reason}
use Rattle.wire_model.specs.Happening.{IsRefused, RunsOut, WantsRoom, closed_now}
use Rattle.wire_model.specs.Moves.{GivesRaw, MovesUp, TakesNone, TakesRaw, joined, with_server_output}
use Rattle.wire_model.specs.declared.events.Event.{Event}
use Rattle.wire_model.specs.declared.events.Event.TheVariants as events
use Rattle.wire_model.specs.declared.refusals.WorldRefusal.{WorldRefusal}
use Rattle.wire_model.specs.declared.refusals.WorldRefusal.TheVariants as refusals
use Rattle.wire_model.specs.declared.reports.Report.{Report}
use Rattle.wire_model.specs.declared.reports.Report.TheVariants as reports
use Rattle.wire_world.specs.Connections.{conn_of}
use Rattle.wire_world.specs.Moving.{MovedUp, TakenRaw}
use Rattle.wire_world.specs.Worlds.{WorldSeen}
use Rattle.wire_world.proofs.Answered.{conn_set_same}
use Rattle.wire_world.proofs.Arms.{Passes, passed}
use Rattle.wire_world.proofs.Found.{is_read, numbered}
use Rattle.wire_world.proofs.Numbered.{conn_set_place}

-- ---- the connection of an event that passes the checks

sure : (b : Bool) → (true && b) ≡ false → b ≡ false
sure b e = e

sure_raw : (b : Bool) → (true && not b) ≡ false → b ≡ true
sure_raw true e = refl
sure_raw false e = sym e

-- the world with this connection at its index
abbrev pub placed : {H : Type 0} → World H → ℕ → Conn → World H
placed w c k = record w { conns = slice_set w.conns (c - 1) k }

is_placed : {H : Type 0} (w : World H) (c : ℕ) (k k' j : Conn) → conn_at w.conns c ≡ Some k → k' ≡ j → placed w c k' ≡ record w { conns = conn_set w.conns c j }
is_placed {H} w c k k' j at is = ap (λ (ks : List Conn). let u : World H = record w { conns = ks } in u)
    (sym (conn_set_place w.conns c k' (numbered w.conns c k at).0) ∙ ap (λ (z : Conn). conn_set w.conns c z) is)

-- the same, of an index that is one less than the number
pub is_dropped : {H : Type 0} (w : World H) (c i : ℕ) (k : Conn) (new : World H) → i ≡ c - 1 → new ≡ dropped (record w { conns = slice_set w.conns i k }) c → new ≡ dropped (placed w c k) c
is_dropped {H} w c i k new e is = subst (λ (n : ℕ). new ≡ dropped (record w { conns = slice_set w.conns n k }) c) e is

-- ---- up

abbrev moves_up : {H : Type 0} (w : World H) (c n : ℕ) (k k' : Conn) → conn_at w.conns c ≡ Some k → Passes w (events.Up c n) c k → MovedUp k n k' → MovesUp w c n (placed w c k')
moves_up w c n k k' at p m = record {
  k = k;
  at = at;
  honest = sure k.raw p.client;
  uncut = p.up;
  pieces = m.pieces;
  rest = m.rest;
  output = m.output;
  at_most = m.at_most;
  server = m.server;
  takes = m.takes;
  after = is_placed w c k k' _ at m.after;
}

-- ---- raw connections

abbrev takes_raw : {H : Type 0} (w : World H) (c : ℕ) (b : Bor (List ℕ)) (k k' : Conn) → conn_at w.conns c ≡ Some k → Passes w (events.Raw c b) c k → TakenRaw k b.now k' → TakesRaw w c b.now (placed w c k')
takes_raw w c b k k' at p m = record {
  k = k;
  at = at;
  raw = sure_raw k.raw p.raw;
  uncut = p.up;
  pieces = m.pieces;
  rest = m.rest;
  input = m.input;
  server = m.server;
  takes = m.takes;
  after = is_placed w c k k' _ at m.after;
}

abbrev gives_raw : {H : Type 0} (w : World H) (c n : ℕ) (k k' : Conn) → conn_at w.conns c ≡ Some k → Passes w (events.RawTake c n) c k
    → k' ≡ record k { server = with_server_output k.server (drop n k.server.output) } → GivesRaw w c n (placed w c k')
gives_raw w c n k k' at p is = record {
  k = k;
  at = at;
  raw = sure_raw k.raw p.raw;
  uncut = p.down;
  bytes = take n k.server.output;
  are = refl;
  after = is_placed w c k k' _ at is;
}

-- the connection is as before
as_before : {H : Type 0} (w : World H) (c : ℕ) (k k' : Conn) → conn_at w.conns c ≡ Some k → k' ≡ k → placed w c k' ≡ w
as_before {H} w c k k' at same = is_placed w c k k' k at same ∙ ap (λ (ks : List Conn). let u : World H = record w { conns = ks } in u) (conn_set_same w.conns c k at)

-- the server that the parts of a connection show
pub server_seen : (o : Option ClientSeen) (s : ServerView) (calls : List ℕ) (up down : Bool) (k : Conn) → conn_of o s calls up down ≡ k → s.state ≡ k.server.state
server_seen None s calls up down k e = ap (λ (z : Conn). z.server.state) e
server_seen (Some client) s calls up down k e = ap (λ (z : Conn). z.server.state) e

-- what happens in the world that the parts show
module _ {H : Type 0} {v now : WorldSeen H} (seen : v ≡ now) where
  pub in_seen : (does : Does H) (stops : Stops H) (e : Event) (r : Result Report WorldRefusal) (new : World H) → (first_reason v.state e ≡ None → Happens does stops v.limits v.state e r new)
      → first_reason now.state e ≡ None → Happens does stops now.limits now.state e r new
  in_seen does stops e r new here passes = subst (λ (u : WorldSeen H). first_reason u.state e ≡ None → Happens does stops u.limits u.state e r new) seen here passes

  pub runs_out : (e : Event) (new : World H) → (first_reason v.state e ≡ None → RunsOut v.limits v.state e new)
      → first_reason now.state e ≡ None → IsRefused now.limits now.state e refusals.OutOfMemory new
  runs_out e new here passes = subst (λ (u : WorldSeen H). first_reason u.state e ≡ None → IsRefused u.limits u.state e refusals.OutOfMemory new) seen (λ none. (none, inr (here none))) passes

module _ {H : Type 0} {v now : WorldSeen H} (seen : v ≡ now) (c : ℕ) (k k' : Conn) (read : k ≡ get_or v.state.conns (c - 1) k) where
  found : (e : Event) → connection_of e ≡ Some c → first_reason v.state e ≡ None → conn_at v.state.conns c ≡ Some k
  found e is none = is_read v.state e c k is none read

  -- ---- the events

  pub goes_up : (does : Does H) (stops : Stops H) (n moved : ℕ) → first_reason now.state (events.Up c n) ≡ None
      → (m : MovedUp k n k') → (moved ≡ length (joined m.pieces)) → (moved < n → (m.rest ≡ []) ⊎ TakesNone m.server)
      → Happens does stops now.limits now.state (events.Up c n) (Ok (reports.Moved moved)) (placed v.state c k')
  goes_up does stops n moved passes m are fewer = in_seen seen does stops (events.Up c n) (Ok (reports.Moved moved)) (placed v.state c k') here passes
    where
      here : first_reason v.state (events.Up c n) ≡ None → Happens does stops v.limits v.state (events.Up c n) (Ok (reports.Moved moved)) (placed v.state c k')
      here none =
          let at = found (events.Up c n) refl none in
          (none, (moves_up v.state c n k k' at (passed v.state (events.Up c n) c k at none) m, moved, refl, record { moved_are = are; fewer = fewer }))

  pub up_runs_out : (n : ℕ) (new : World H) → first_reason now.state (events.Up c n) ≡ None
      → (m : MovedUp k n k') → ((i : ℕ) × (i + length (joined m.pieces) ≤ n) × WantsRoom m.server (take i m.rest)) → new ≡ dropped (placed v.state c k') c
      → IsRefused now.limits now.state (events.Up c n) refusals.OutOfMemory new
  up_runs_out n new passes m wants after = runs_out seen (events.Up c n) new here passes
    where
      here : first_reason v.state (events.Up c n) ≡ None → RunsOut v.limits v.state (events.Up c n) new
      here none =
          let at = found (events.Up c n) refl none in
          record { c = c; is = refl; done = placed v.state c k'; part = (moves_up v.state c n k k' at (passed v.state (events.Up c n) c k at none) m, wants); after = after }

  pub takes_in : (does : Does H) (stops : Stops H) (b : Bor (List ℕ)) (moved : ℕ) (closed : Option ServerCause) → first_reason now.state (events.Raw c b) ≡ None
      → (m : TakenRaw k b.now k') → (moved ≡ length (joined m.pieces)) → (m.rest ≡ []) ⊎ TakesNone m.server → closed ≡ closed_now k.server.state k'.server.state
      → Happens does stops now.limits now.state (events.Raw c b) (Ok (reports.RawMoved moved closed)) (placed v.state c k')
  takes_in does stops b moved closed passes m are fewer is = in_seen seen does stops (events.Raw c b) (Ok (reports.RawMoved moved closed)) (placed v.state c k') here passes
    where
      here : first_reason v.state (events.Raw c b) ≡ None → Happens does stops v.limits v.state (events.Raw c b) (Ok (reports.RawMoved moved closed)) (placed v.state c k')
      here none =
          let at = found (events.Raw c b) refl none in (
            none,
            (
              takes_raw v.state c b k k' at (passed v.state (events.Raw c b) c k at none) m,
              moved,
              closed,
              refl,
              record {
                moved_are = are;
                fewer = fewer;
                closed_is = is ∙ ap (λ (z : Conn). closed_now k.server.state z.server.state) m.after;
              },
            ),
          )

  pub raw_runs_out : (b : Bor (List ℕ)) (new : World H) → first_reason now.state (events.Raw c b) ≡ None
      → (m : TakenRaw k b.now k') → WantsRoom m.server m.rest → new ≡ dropped (placed v.state c k') c
      → IsRefused now.limits now.state (events.Raw c b) refusals.OutOfMemory new
  raw_runs_out b new passes m wants after = runs_out seen (events.Raw c b) new here passes
    where
      here : first_reason v.state (events.Raw c b) ≡ None → RunsOut v.limits v.state (events.Raw c b) new
      here none =
          let at = found (events.Raw c b) refl none in
          record { c = c; is = refl; done = placed v.state c k'; part = (takes_raw v.state c b k k' at (passed v.state (events.Raw c b) c k at none) m, wants); after = after }

  pub gives_out : (does : Does H) (stops : Stops H) (n : ℕ) (bytes : Vec ℕ Global) → first_reason now.state (events.RawTake c n) ≡ None
      → bytes.items ≡ take n k.server.output → k' ≡ record k { server = with_server_output k.server (drop n k.server.output) }
      → Happens does stops now.limits now.state (events.RawTake c n) (Ok (reports.Bytes bytes)) (placed v.state c k')
  gives_out does stops n bytes passes are is = in_seen seen does stops (events.RawTake c n) (Ok (reports.Bytes bytes)) (placed v.state c k') here passes
    where
      here : first_reason v.state (events.RawTake c n) ≡ None → Happens does stops v.limits v.state (events.RawTake c n) (Ok (reports.Bytes bytes)) (placed v.state c k')
      here none =
          let at = found (events.RawTake c n) refl none in
          (none, (gives_raw v.state c n k k' at (passed v.state (events.RawTake c n) c k at none) is, bytes, refl, are))

  pub take_runs_out : (n : ℕ) (new : World H) → first_reason now.state (events.RawTake c n) ≡ None
      → k' ≡ k → take n k.server.output ≢ [] → new ≡ dropped (placed v.state c k') c
      → IsRefused now.limits now.state (events.RawTake c n) refusals.OutOfMemory new
  take_runs_out n new passes same some after = runs_out seen (events.RawTake c n) new here passes
    where
      here : first_reason v.state (events.RawTake c n) ≡ None → RunsOut v.limits v.state (events.RawTake c n) new
      here none =
          let at = found (events.RawTake c n) refl none in
          record { c = c; is = refl; done = placed v.state c k'; part = (as_before v.state c k k' at same, record { k = k; at = at; some = some }); after = after }
