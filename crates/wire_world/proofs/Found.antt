-- The connection of an event that passes the checks.
use Rattle.std.specs.Prelude.{◌≡◌, ℕ, zero, suc, ◌-◌, ◌<◌, List, length, Option, None, Some, option_map}
use Rattle.std.proofs.Common.{◌∙◌, ap, arith, get_or, refl, subst, sym}
use Rattle.std.proofs.lemmas.Option.{none-some, same_Some, slice_get_read, slice_get_within}
use Rattle.wire_model.specs.{Conn, World, conn_at, connection_of, first_reason, needs_of, reason_at, reason_of}
use Rattle.wire_model.specs.declared.events.Event.{Event}
use Rattle.wire_model.specs.declared.needs.Needs.{Needs}
use Rattle.wire_model.specs.declared.refusals.WorldRefusal.TheVariants.{NoConnection}
use Rattle.wire_world.specs.Worlds.{WorldSeen}
use Rattle.wire_world.proofs.Numbered.{conn_at_place}

-- its connection is there
pub is_there : {H : Type 0} (w : World H) (e : Event) (c : ℕ) → connection_of e ≡ Some c → first_reason w e ≡ None → (k : Conn) × (conn_at w.conns c ≡ Some k)
is_there w e c is passes = of (needs_of e) is passes
  where
    by : (n : Needs) (o : Option Conn) → conn_at w.conns n.connection ≡ o → reason_at w e n o ≡ None → (k : Conn) × (conn_at w.conns n.connection ≡ Some k)
    by n None at p = absurd (none-some NoConnection (sym p))
    by n (Some k) at p = (k, at)

    of : (o : Option Needs) → option_map (λ (n : Needs). n.connection) o ≡ Some c → reason_of w e o ≡ None → (k : Conn) × (conn_at w.conns c ≡ Some k)
    of None is p = absurd (none-some c is)
    of (Some n) is p =
        let found = by n (conn_at w.conns n.connection) refl p in
        (found.0, ap (conn_at w.conns) (sym (same_Some n.connection c is)) ∙ found.1)

-- a connection's number is from 1 to their count
pub numbered : (ks : List Conn) (c : ℕ) (k : Conn) → conn_at ks c ≡ Some k → (0 < c) × (c - 1 < length ks)
numbered ks zero k at = absurd (none-some k at)
numbered ks (suc i) k at = let within = slice_get_within ks i k at in (omega arith, omega (arith, within))

pub is_from_1 : {H : Type 0} (w : World H) (e : Event) (c : ℕ) → connection_of e ≡ Some c → first_reason w e ≡ None → 0 < c
is_from_1 w e c is passes = (numbered w.conns c (is_there w e c is passes).0 (is_there w e c is passes).1).0

-- the connection that is read at its index is that one
pub is_read : {H : Type 0} (w : World H) (e : Event) (c : ℕ) (k : Conn) → connection_of e ≡ Some c → first_reason w e ≡ None → k ≡ get_or w.conns (c - 1) k → conn_at w.conns c ≡ Some k
is_read w e c k is passes read =
    let place = numbered w.conns c (is_there w e c is passes).0 (is_there w e c is passes).1 in
    conn_at_place w.conns c place.0 ∙ slice_get_read w.conns (length w.conns) (c - 1) k refl place.1 read

-- the same, of the world that the parts show
pub read_by : {H : Type 0} {v now : WorldSeen H} (e : Event) (c : ℕ) (k : Conn) → v ≡ now → connection_of e ≡ Some c → first_reason now.state e ≡ None → k ≡ get_or v.state.conns (c - 1) k → conn_at v.state.conns c ≡ Some k
read_by {v = v} e c k seen is passes read = is_read v.state e c k is (subst (λ (u : WorldSeen _). first_reason u.state e ≡ None) (sym seen) passes) read

-- an index that is one less than the number
pub at_place : {i j : ℕ} (ks : List Conn) (k : Conn) → i ≡ j → k ≡ get_or ks i k → k ≡ get_or ks j k
at_place ks k e read = subst (λ (n : ℕ). k ≡ get_or ks n k) e read
