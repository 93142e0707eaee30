-- What an event that moves bytes down does, from what was moved over its connection.
use Rattle.std.specs.Prelude.{◌≡◌, ◌≢◌, ℕ, zero, suc, ◌-◌, ◌<◌, ◌⊎◌, ◌&&◌, Bool, true, false, List, [], ◌∷◌, length, Option, None, Some, Result, Ok, Err, MatchResult, slice_set}
use Rattle.std.proofs.Common.{◌∙◌, ap, get_or, inl, inr, refl, subst, sym}
use Rattle.wire_peer.specs.{Does, Stops}
use Rattle.wire_peer.specs.declared.client_state.ClientState.TheVariants as clients
use Rattle.wire_model.specs.{Conn, Happens, Record, World, change, conn_at, conn_set, cut_at, cut_both, first_reason, settled}
use Rattle.wire_model.specs.Happening.{IsRefused, PartDone, RunsOut}
use Rattle.wire_model.specs.Moves.{ClientTakesAll, MovesDown, joined}
use Rattle.wire_model.specs.declared.limits.WorldLimits.{WorldLimits}
use Rattle.wire_model.specs.declared.events.Event.TheVariants as events
use Rattle.wire_model.specs.declared.refusals.WorldRefusal.TheVariants as refusals
use Rattle.wire_model.specs.declared.reports.Report.TheVariants as reports
use Rattle.wire_world.specs.Moving.{DownResult, MovedDown, Stopped}
use Rattle.wire_world.specs.Worlds.{WorldSeen}
use Rattle.wire_world.proofs.Arms.{Passes, passed}
use Rattle.wire_world.proofs.Found.{is_read, numbered}
use Rattle.wire_world.proofs.Moved.{in_seen, runs_out}
use Rattle.wire_world.proofs.Numbered.{conn_set_place}
use Rattle.wire_world.proofs.StayParts.{conn_at_set}

sure : (b : Bool) → (true && b) ≡ false → b ≡ false
sure b e = e

slice_set_twice : (ks : List Conn) (i : ℕ) (j k : Conn) → slice_set (slice_set ks i j) i k ≡ slice_set ks i k
slice_set_twice [] i j k = refl
slice_set_twice (z ∷ zs) zero j k = refl
slice_set_twice (z ∷ zs) (suc i) j k = ap (λ (ys : List Conn). z ∷ ys) (slice_set_twice zs i j k)

conn_set_twice : (ks : List Conn) (c : ℕ) (j k : Conn) → conn_set (conn_set ks c j) c k ≡ conn_set ks c k
conn_set_twice ks zero j k = refl
conn_set_twice ks (suc i) j k = slice_set_twice ks i j k

-- the connection of this number, and the records, are changed
abbrev pub changed : {H : Type 0} → World H → List Conn → List Record → World H
changed w ks xs = record w { conns = ks; calls = xs }

abbrev moves_down : {H : Type 0} (w : World H) (c n : ℕ) (k k' : Conn) (xs ys : List Record) → xs ≡ w.calls → conn_at w.conns c ≡ Some k → Passes w (events.Down c n) c k → MovedDown k n xs k' ys
    → MovesDown w c n (changed w (conn_set w.conns c k') ys)
moves_down {H} w c n k k' xs ys seen at p m = record {
  k = k;
  at = at;
  honest = sure k.raw p.client;
  uncut = p.down;
  pieces = m.pieces;
  rest = m.rest;
  output = m.output;
  at_most = m.at_most;
  client = m.client;
  calls = ys;
  takes = subst (λ (zs : List Record). ClientTakesAll k.calls k.client zs m.pieces m.client ys) seen m.takes;
  after = ap (λ (z : Conn). changed w (conn_set w.conns c z) ys) m.after;
}

-- a connection that was set is cut
cut_set : (ks : List Conn) (c : ℕ) (k done : Conn) → conn_at ks c ≡ Some k → cut_at c (conn_set ks c done) ≡ conn_set ks c (cut_both done)
cut_set ks c k done at = ap (λ (o : Option Conn). change cut_both o c (conn_set ks c done)) (conn_at_set ks c k done at) ∙ conn_set_twice ks c done (cut_both done)

stopped : {H : Type 0} (w : World H) (c n : ℕ) (k done : Conn) (xs ys : List Record) → xs ≡ w.calls → conn_at w.conns c ≡ Some k → Passes w (events.Down c n) c k → Stopped k n xs done ys
    → (l : WorldLimits) → PartDone l w (events.Down c n) (changed w (conn_set w.conns c done) ys)
stopped w c n k done xs ys seen at p (inl (m, wants)) l = inl (moves_down w c n k done xs ys seen at p m, wants)
stopped w c n k done xs ys seen at p (inr (mid, m, u)) l = inr (
  changed w (conn_set w.conns c mid) ys,
  moves_down w c n k mid xs ys seen at p m,
  record {
    k = mid;
    at = conn_at_set w.conns c k mid at;
    piece = u.piece;
    rest = u.rest;
    output = u.output;
    at_most = u.at_most;
    client = u.client;
    takes = u.takes;
    ready = u.ready;
    after = ap (λ (z : Conn). changed w (conn_set w.conns c z) ys) u.after ∙ ap (λ (ks : List Conn). changed w ks ys) (sym (conn_set_twice w.conns c mid _));
  },
)

module _ {H : Type 0} {v now : WorldSeen H} (seen : v ≡ now) (c n : ℕ) (k k' : Conn) (read : k ≡ get_or v.state.conns (c - 1) k) (xs ys : List Record) (calls : xs ≡ v.state.calls) (new : World H)
    (settles : new ≡ settled (changed v.state (slice_set v.state.conns (c - 1) k') ys)) where
  at_its_place : conn_at v.state.conns c ≡ Some k → slice_set v.state.conns (c - 1) k' ≡ conn_set v.state.conns c k'
  at_its_place at = sym (conn_set_place v.state.conns c k' (numbered v.state.conns c k at).0)

  goes_down : (does : Does H) (stops : Stops H) (moved : ℕ) → first_reason now.state (events.Down c n) ≡ None
      → (m : MovedDown k n xs k' ys) → (moved ≡ length (joined m.pieces)) → (moved < n → (m.rest ≡ []) ⊎ (m.client.state ≢ clients.Open))
      → Happens does stops now.limits now.state (events.Down c n) (Ok (reports.Moved moved)) new
  goes_down does stops moved passes m are fewer = in_seen seen does stops (events.Down c n) (Ok (reports.Moved moved)) new here passes
    where
      here : first_reason v.state (events.Down c n) ≡ None → Happens does stops v.limits v.state (events.Down c n) (Ok (reports.Moved moved)) new
      here none =
          let at = is_read v.state (events.Down c n) c k refl none read in (
            none,
            (
              changed v.state (conn_set v.state.conns c k') ys,
              moves_down v.state c n k k' xs ys calls at (passed v.state (events.Down c n) c k at none) m,
              moved,
              refl,
              record { moved_are = are; fewer = fewer },
              settles ∙ ap (λ (ks : List Conn). settled (changed v.state ks ys)) (at_its_place at),
            ),
          )

  down_runs_out : (done : Conn) → first_reason now.state (events.Down c n) ≡ None → Stopped k n xs done ys → k' ≡ cut_both done
      → IsRefused now.limits now.state (events.Down c n) refusals.OutOfMemory new
  down_runs_out done passes part cut = runs_out seen (events.Down c n) new here passes
    where
      here : first_reason v.state (events.Down c n) ≡ None → RunsOut v.limits v.state (events.Down c n) new
      here none =
          let at = is_read v.state (events.Down c n) c k refl none read in
          record {
            c = c;
            is = refl;
            done = changed v.state (conn_set v.state.conns c done) ys;
            part = stopped v.state c n k done xs ys calls at (passed v.state (events.Down c n) c k at none) part v.limits;
            after = settles ∙ ap (λ (ks : List Conn). settled (changed v.state ks ys)) (at_its_place at ∙ ap (conn_set v.state.conns c) cut ∙ sym (cut_set v.state.conns c k done at));
          }

  -- either way: this many bytes were moved, or memory ran out
  pub down_ends : {E : Type 0} (does : Does H) (stops : Stops H) → first_reason now.state (events.Down c n) ≡ None → (r : Result ℕ E) → DownResult k n xs k' ys r
      → MatchResult r
      (λ moved. Happens does stops now.limits now.state (events.Down c n) (Ok (reports.Moved moved)) new)
      (λ _. Happens does stops now.limits now.state (events.Down c n) (Err refusals.OutOfMemory) new)
  down_ends does stops passes (Ok moved) end = goes_down does stops moved passes end.0 end.1 end.2
  down_ends does stops passes (Err e) end = down_runs_out end.0 passes end.1 end.2
