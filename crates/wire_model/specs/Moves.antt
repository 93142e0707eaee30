-- Bytes that move from one end of a connection to the other, and calls that are made.
use Rattle.std.specs.Prelude.{◌≡◌, ◌≢◌, ℕ, ◌<◌, ◌≤◌, ◌⊎◌, Bool, true, false, Option, None, Some}
use Rattle.std.specs.Prelude.{List, [], ◌∷◌, ◌++◌, length, slice_get, slice_set, take, drop}
use Rattle.std.specs.List.{flat_map}
use Rattle.wire_msg.specs.{Content, Message, SpellsMsg}
use Rattle.wire_peer.specs.{ClientSeen, IsCalled, MayTake, ServerView, Takes, TakesBytes, called}
use Rattle.wire_peer.specs.{released}
use Rattle.wire_peer.specs.declared.call_table.ReadyReply.{ReadyReply}
use Rattle.wire_peer.specs.declared.calls.CallKind.{CallKind}
use Rattle.wire_peer.specs.declared.calls.CallNo.{CallNo}
use Rattle.wire_peer.specs.declared.server_state.ServerState.TheVariants as servers
use Rattle.wire_model.specs.Conns.{Conn, Record, World, conn_at, given_record, new_record}
use Rattle.wire_model.specs.Conns.{with_conn}
use Rattle.wire_model.specs.Machines.{asked_as}

-- the pieces, joined
abbrev pub joined : List (List ℕ) → List ℕ
joined pieces = flat_map (λ p. p) pieces

-- ---- servers

-- the server takes this piece, all of it
pub record ServerTakes (old : ServerView) (piece : List ℕ) (new : ServerView) : Type 0 where
  pub is_open : old.state ≡ servers.Open
  pub has_room : length old.waiting < old.window
  pub takes : TakesBytes old piece (length piece) new

-- piece after piece
abbrev pub ServerTakesAll : ServerView → List (List ℕ) → ServerView → Type 0
ServerTakesAll old [] new = new ≡ old
ServerTakesAll old (p ∷ ps) new =
    (mid : ServerView) × ServerTakes old p mid × ServerTakesAll mid ps new

-- the server takes no more: it is closed, or its waiting list is full
abbrev pub TakesNone : ServerView → Type 0
TakesNone s = (s.state ≢ servers.Open) ⊎ (s.window ≤ length s.waiting)

abbrev pub with_client_output : ClientSeen → List ℕ → ClientSeen
with_client_output k output = record k { requests = record (k.requests) { output = output } }

abbrev pub with_server_output : ServerView → List ℕ → ServerView
with_server_output s output = record s { output = output }

-- at most n bytes of the client's output go into the server, piece by piece
pub record MovesUp {H : Type 0} (old : World H) (c n : ℕ) (new : World H) : Type 0 where
  pub k : Conn
  pub at : conn_at old.conns c ≡ Some k
  pub honest : k.raw ≡ false
  pub uncut : k.up_cut ≡ false
  pub pieces : List (List ℕ)
  pub rest : List ℕ
  pub output : k.client.requests.output ≡ joined pieces ++ rest
  pub at_most : length (joined pieces) ≤ n
  pub server : ServerView
  pub takes : ServerTakesAll k.server pieces server
  pub after : new
      ≡ with_conn old c (record k { client = with_client_output k.client rest; server = server })

-- some of these bytes, from the first on, go into the server of a raw connection, piece by piece
pub record TakesRaw {H : Type 0} (old : World H) (c : ℕ) (bytes : List ℕ) (new : World H) :
    Type 0 where
  pub k : Conn
  pub at : conn_at old.conns c ≡ Some k
  pub raw : k.raw ≡ true
  pub uncut : k.up_cut ≡ false
  pub pieces : List (List ℕ)
  pub rest : List ℕ
  pub input : bytes ≡ joined pieces ++ rest
  pub server : ServerView
  pub takes : ServerTakesAll k.server pieces server
  pub after : new ≡ with_conn old c (record k { server = server })

-- the first n bytes of the output of a raw connection's server are taken away, or all, if there are
-- fewer
pub record GivesRaw {H : Type 0} (old : World H) (c n : ℕ) (new : World H) : Type 0 where
  pub k : Conn
  pub at : conn_at old.conns c ≡ Some k
  pub raw : k.raw ≡ true
  pub uncut : k.down_cut ≡ false
  pub bytes : List ℕ
  pub are : bytes ≡ take n k.server.output
  pub after : new
      ≡ with_conn old c (record k { server = with_server_output k.server (drop n k.server.output) })

-- ---- clients

-- the client takes this piece, all of it
pub record ClientTakes (old : ClientSeen) (piece : List ℕ) (new : ClientSeen) : Type 0 where
  pub may : MayTake old
  pub takes : Takes old piece (length piece) new

-- the records, with one more part in the one of this index
abbrev pub put_part : Option Record → ℕ → Content → Bool → List Record → List Record
put_part None i part last calls = calls
put_part (Some x) i part last calls = slice_set calls i (given_record x part last)

abbrev pub put_at : Option ℕ → Content → Bool → List Record → List Record
put_at None part last calls = calls
put_at (Some i) part last calls = put_part (slice_get calls i) i part last calls

-- the reply that is ready, if one is, goes into the record of its call
abbrev pub CopiesReply : List ℕ → List ℕ → Option ReadyReply → List Record → List Record → Type 0
CopiesReply indexes held None old new = new ≡ old
CopiesReply indexes held (Some reply) old new =
    (m : Message) × SpellsMsg m held
    × (new ≡ put_at (slice_get indexes reply.call) m.content reply.last old)

-- The client takes these pieces, one after another. Each reply goes into the record of its call,
-- and is released.
abbrev pub ClientTakesAll : List ℕ → ClientSeen → List Record → List (List ℕ) → ClientSeen
    → List Record → Type 0
ClientTakesAll indexes old calls [] new calls' = (new ≡ old) × (calls' ≡ calls)
ClientTakesAll indexes old calls (p ∷ ps) new calls' =
    (mid : ClientSeen) × ClientTakes old p mid
    × ((copied : List Record) × CopiesReply indexes mid.held mid.reply calls copied
    × ClientTakesAll indexes (released mid) copied ps new calls')

-- at most n bytes of the server's output go into the client, piece by piece
pub record MovesDown {H : Type 0} (old : World H) (c n : ℕ) (new : World H) : Type 0 where
  pub k : Conn
  pub at : conn_at old.conns c ≡ Some k
  pub honest : k.raw ≡ false
  pub uncut : k.down_cut ≡ false
  pub pieces : List (List ℕ)
  pub rest : List ℕ
  pub output : k.server.output ≡ joined pieces ++ rest
  pub at_most : length (joined pieces) ≤ n
  pub client : ClientSeen
  pub calls : List Record
  pub takes : ClientTakesAll k.calls k.client old.calls pieces client calls
  pub after : new
      ≡ record
      (with_conn old c
      (record k { client = client; server = with_server_output k.server rest }))
      { calls = calls }

-- one more piece of at most n bytes goes into the client, and makes a reply ready that isn't copied
-- into its record
pub record TakesUncopied {H : Type 0} (old : World H) (c n : ℕ) (new : World H) : Type 0 where
  pub k : Conn
  pub at : conn_at old.conns c ≡ Some k
  pub piece : List ℕ
  pub rest : List ℕ
  pub output : k.server.output ≡ piece ++ rest
  pub at_most : length piece ≤ n
  pub client : ClientSeen
  pub takes : ClientTakes k.client piece client
  pub ready : client.reply ≢ None
  pub after : new
      ≡ with_conn old c (record k { client = client; server = with_server_output k.server rest })

-- ---- calls

-- the client accepts a call, and its record is added to the world's
pub record Calls {H : Type 0} (old : World H) (c : ℕ) (kind : CallKind) (payload : Content)
    (id : CallNo) (new : World H) : Type 0 where
  pub k : Conn
  pub at : conn_at old.conns c ≡ Some k
  pub accepted : IsCalled k.client kind payload id
  pub after : new
      ≡ record
      (with_conn old c
      (record k
      { client = called k.client kind payload id; calls = k.calls ++ length old.calls ∷ [] }))
      { calls = old.calls ++ new_record c (asked_as kind payload) ∷ [] }
