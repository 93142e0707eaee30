-- The world that a system shows, and what holds of every trace.
use Rattle.std.specs.Prelude.{◌≡◌, ℕ, ◌⊎◌, false, None, Some, List, [], ◌++◌, length, map}
use Rattle.std.specs.Prelude.{slice_get}
use Rattle.wire_msg.specs.{Message, SpellsMsg}
use Rattle.wire_pool.specs.{new_pool}
use Rattle.wire_peer.specs.{ClientSeen, Does, ServerView, Stops, released}
use Rattle.wire_peer.specs.declared.call_table.ReadyReply.{ReadyReply}
use Rattle.wire_model.specs.Conns.{Conn, Record, World, given_record}
use Rattle.wire_model.specs.Machines.{Done, Lost, Pending}
use Rattle.wire_model.specs.Shown.{Headline, IsStopped}
use Rattle.wire_model.specs.Moves.{with_client_output, with_server_output}
use Rattle.wire_model.specs.Channels.{Pair, System, pair_at}
use Rattle.wire_model.specs.Knowing.{Owned}

-- A pair, seen as a connection of a world: bytes in flight are in their sender's output still, and
-- a reply that is ready is released already.
abbrev pub seen_client : Pair → ClientSeen
seen_client p = with_client_output (released p.client) (p.up.bytes ++ p.client.requests.output)

abbrev pub seen_server : Pair → ServerView
seen_server p = with_server_output p.server (p.down.bytes ++ p.server.output)

abbrev pub seen_as : Pair → Conn
seen_as p = record {
  raw = false;
  client = seen_client p;
  server = seen_server p;
  calls = p.calls;
  up_cut = p.server_told;
  down_cut = p.client_told;
}

-- the world that a system shows, with these records; its pool doesn't matter
abbrev pub world_of : {H : Type 0} → System H → List Record → World H
world_of s calls = record {
  pool = new_pool 1;
  conns = map seen_as s.pairs;
  calls = calls;
  log = s.log;
  handler = s.handler;
}

-- ---- the records

-- the client of connection c has a reply ready to call i, which its owner hasn't collected
pub record IsReady (ps : List Pair) (i c : ℕ) : Type 0 where
  pub p : Pair
  pub at : pair_at ps c ≡ Some p
  pub reply : ReadyReply
  pub ready : p.client.reply ≡ Some reply
  pub index : slice_get p.calls reply.call ≡ Some i

-- the world's record is the owner's, with that reply added
pub record IsAhead (ps : List Pair) (i : ℕ) (x y : Record) : Type 0 where
  pub is : IsReady ps i x.connection
  pub m : Message
  pub spells : SpellsMsg m is.p.client.held
  pub not_done : (x.state ≡ Pending) ⊎ (x.state ≡ Lost)
  pub given : y ≡ given_record x m.content is.reply.last

-- The world's record of call i is its owner's, with a reply added if one is ready.
abbrev pub Agree : List Pair → ℕ → Record → Record → Type 0
Agree ps i x y = ((y ≡ x) × (IsReady ps i x.connection → ⊥)) ⊎ IsAhead ps i x y

-- Neither end of the pair was told that no more bytes come, and its server wasn't closed by an
-- answer; nothing is in flight or has yet to be sent, no request waits, and no reply is ready.
pub record IsQuietPair (ps : List Pair) (c : ℕ) : Type 0 where
  pub p : Pair
  pub at : pair_at ps c ≡ Some p
  pub server_untold : p.server_told ≡ false
  pub client_untold : p.client_told ≡ false
  pub not_stopped : IsStopped p.server.state → ⊥
  pub none_up : p.up.bytes ≡ []
  pub none_down : p.down.bytes ≡ []
  pub client_empty : p.client.requests.output ≡ []
  pub server_empty : p.server.output ≡ []
  pub none_waits : p.server.waiting ≡ []
  pub none_ready : p.client.reply ≡ None

-- The headline holds of the world that the system shows, whose records are those of the owners with
-- ready replies added. It holds of the owners' own records, too. On a quiet pair each acknowledged
-- call is done in its owner's records.
pub record Channelled {H : Type 0} (does : Does H) (stops : Stops H) (first : H) (s : System H)
    : Type 0 where
  pub calls : List Record
  pub headline : Headline does stops first (world_of s calls)
  pub as_many : length calls ≡ length s.calls
  pub agree : (i : ℕ) (x : Record) → slice_get s.calls i ≡ Some x → (y : Record)
      × (slice_get calls i ≡ Some y) × Agree s.pairs i x y
  pub done : (i : ℕ) (x : Record) → slice_get s.calls i ≡ Some x → x.state ≡ Done
      → slice_get calls i ≡ Some x
  pub owned : Owned headline.m (λ (i : ℕ) (x : Record). slice_get s.calls i ≡ Some x)
  pub quiet : (c : ℕ) → IsQuietPair s.pairs c → (i : ℕ) (x : Record)
      → slice_get s.calls i ≡ Some x → x.connection ≡ c → x.asked.more_to_come ≡ false
      → x.state ≡ Done
