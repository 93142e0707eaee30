-- Ways that are cut, and connections that are dropped.
use Rattle.std.specs.Prelude.{ℕ, Bool, true, false, ◌&&◌, ◌||◌, not, if◌then◌else◌, Option, None}
use Rattle.std.specs.Prelude.{Some, List, [], ◌∷◌, map}
use Rattle.wire_pool.specs.{cleared_pool, reset_pool}
use Rattle.wire_peer.specs.{ServerView, closed_for, end_cause, ended}
use Rattle.wire_model.specs.Conns.{Conn, World, conn_at, conn_set, is_closed, settled}

abbrev pub ended_server : ServerView → ServerView
ended_server s = record s { state = closed_for (end_cause s.held) s.state }

-- nothing more moves up, and the server is told the end
abbrev pub cut_up : Conn → Conn
cut_up k = record k { server = ended_server k.server; up_cut = true }

-- nothing more moves down, and the client is told the end
abbrev pub cut_down : Conn → Conn
cut_down k = record k { client = ended k.client; down_cut = true }

abbrev pub cut_both : Conn → Conn
cut_both k = cut_down (cut_up k)

abbrev pub change : (Conn → Conn) → Option Conn → ℕ → List Conn → List Conn
change f None c ks = ks
change f (Some k) c ks = conn_set ks c (f k)

-- the connections, with the one of this number cut both ways
abbrev pub cut_at : ℕ → List Conn → List Conn
cut_at c ks = change cut_both (conn_at ks c) c ks

-- a connection is cut both ways, and the pending calls of its client are lost
abbrev pub dropped : {H : Type 0} → World H → ℕ → World H
dropped w c = settled (record w { conns = cut_at c w.conns })

abbrev pub all_cut : List ℕ → List Conn → List Conn
all_cut [] ks = ks
all_cut (c ∷ cs) ks = all_cut cs (cut_at c ks)

-- the pool is cleared, and each connection that was idle is cut both ways
abbrev pub cleared_world : {H : Type 0} → World H → World H
cleared_world w =
    settled (record w { pool = cleared_pool w.pool; conns = all_cut w.pool.idle w.conns })

-- the way down is cut if it wasn't yet, so the client is told the end; a raw connection stays as it
-- is
abbrev pub restarted : Conn → Conn
restarted k = if k.raw || k.down_cut then k else cut_down k

abbrev pub restarted_world : {H : Type 0} → World H → World H
restarted_world w = settled (record w { pool = reset_pool w.pool; conns = map restarted w.conns })

abbrev pub is_empty : {A : Type 0} → List A → Bool
is_empty [] = true
is_empty (x ∷ xs) = false

-- a connection that may be used again: not cut, its client open, and none of its calls outstanding
abbrev pub is_healthy : Conn → Bool
is_healthy k =
    not (k.up_cut || k.down_cut)
    && (not (is_closed k.client.state) && is_empty k.client.requests.outstanding)
