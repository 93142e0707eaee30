-- A call that is made, and its record.
use Rattle.std.specs.Prelude.{◌≡◌, ℕ, List, [], ◌∷◌, ◌++◌, length, Some}
use Rattle.std.proofs.Common.{refl}
use Rattle.wire_msg.specs.{Content}
use Rattle.wire_peer.specs.{IsCalled, called}
use Rattle.wire_peer.specs.declared.calls.CallKind.{CallKind}
use Rattle.wire_peer.specs.declared.calls.CallNo.{CallNo}
use Rattle.wire_model.specs.{Calls, Conn, Record, World, asked_as, conn_at, conn_set, new_record}

pub call_made : {H : Type 0} (old : World H) (c : ℕ) (kind : CallKind) (p : Content) (id : CallNo) (k k' : Conn) (x : Record) (n : ℕ) (conns : List Conn) (calls : List Record)
    → conn_at old.conns c ≡ Some k → IsCalled k.client kind p id → k' ≡ record k { client = called k.client kind p id; calls = k.calls ++ n ∷ [] }
    → n ≡ length old.calls → x ≡ new_record c (asked_as kind p) → conns ≡ conn_set old.conns c k' → calls ≡ old.calls ++ x ∷ []
    → Calls old c kind p id (record old { conns = conns; calls = calls })
call_made old c kind p id k k' x n conns calls at accepted conn count made conns_are calls_are = record {
  k = k;
  at = at;
  accepted = accepted;
  after = rw (conns_are, calls_are, conn, made, count) refl;
}
