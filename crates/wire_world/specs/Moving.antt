-- Bytes that move over one connection.
use Rattle.std.specs.Prelude.{◌≡◌, ◌≢◌, ℕ, ◌+◌, ◌-◌, ◌<◌, ◌≤◌, ◌⊎◌, List, [], ◌++◌, drop, length}
use Rattle.std.specs.Prelude.{take, None, Result, Ok, Err}
use Rattle.wire_peer.specs.{ClientSeen, ServerView, released}
use Rattle.wire_peer.specs.declared.client_state.ClientState.TheVariants as clients
use Rattle.wire_model.specs.{Conn, Record, ClientTakes, CopiesReply, ClientTakesAll, ServerTakesAll}
use Rattle.wire_model.specs.{TakesNone, joined, with_client_output, with_server_output, cut_both}
use Rattle.wire_model.specs.{ClientWantsRoom, WantsRoom}

-- at most n bytes of the client's output went into the server, piece by piece
pub record MovedUp (old : Conn) (n : ℕ) (new : Conn) : Type 0 where
  pub pieces : List (List ℕ)
  pub rest : List ℕ
  pub output : old.client.requests.output ≡ joined pieces ++ rest
  pub at_most : length (joined pieces) ≤ n
  pub server : ServerView
  pub takes : ServerTakesAll old.server pieces server
  pub after : new ≡ record old { client = with_client_output old.client rest; server = server }

-- the result of the move: how many bytes were moved, or that there was no memory for a message
abbrev pub UpResult : {E : Type 0} {old new : Conn} {n : ℕ} → MovedUp old n new → Result ℕ E
    → Type 0
UpResult {n = n} m (Ok moved) =
    (moved ≡ length (joined m.pieces)) × (moved < n → (m.rest ≡ []) ⊎ TakesNone m.server)
UpResult {n = n} m (Err e) =
    (k : ℕ) × (k + length (joined m.pieces) ≤ n) × WantsRoom m.server (take k m.rest)

-- some of these bytes, from the first on, went into the server of a raw connection, piece by piece
pub record TakenRaw (old : Conn) (bytes : List ℕ) (new : Conn) : Type 0 where
  pub pieces : List (List ℕ)
  pub rest : List ℕ
  pub input : bytes ≡ joined pieces ++ rest
  pub server : ServerView
  pub takes : ServerTakesAll old.server pieces server
  pub after : new ≡ record old { server = server }

-- the result of that: how many bytes were taken, or that there was no memory for a message
abbrev pub RawResult : {E : Type 0} {old new : Conn} {bytes : List ℕ} → TakenRaw old bytes new
    → Result ℕ E → Type 0
RawResult m (Ok moved) = (moved ≡ length (joined m.pieces)) × ((m.rest ≡ []) ⊎ TakesNone m.server)
RawResult m (Err e) = WantsRoom m.server m.rest

-- at most n bytes of the server's output went into the client, piece by piece, and the replies into
-- the records
pub record MovedDown (old : Conn) (n : ℕ) (calls : List Record) (new : Conn) (calls' : List Record)
    : Type 0 where
  pub pieces : List (List ℕ)
  pub rest : List ℕ
  pub output : old.server.output ≡ joined pieces ++ rest
  pub at_most : length (joined pieces) ≤ n
  pub client : ClientSeen
  pub takes : ClientTakesAll old.calls old.client calls pieces client calls'
  pub after : new ≡ record old { client = client; server = with_server_output old.server rest }

-- one more piece went into the client, and made a reply ready that wasn't copied
pub record Uncopied (old : Conn) (n : ℕ) (new : Conn) : Type 0 where
  pub piece : List ℕ
  pub rest : List ℕ
  pub output : old.server.output ≡ piece ++ rest
  pub at_most : length piece ≤ n
  pub client : ClientSeen
  pub takes : ClientTakes old.client piece client
  pub ready : client.reply ≢ None
  pub after : new ≡ record old { client = client; server = with_server_output old.server rest }

-- memory ran out, for a message or for the copy of the last piece's reply
abbrev pub Stopped : (old : Conn) (n : ℕ) (calls : List Record) (new : Conn) (calls' : List Record)
    → Type 0
Stopped old n calls new calls' =
    ((m : MovedDown old n calls new calls')
    × ((k : ℕ) × (k + length (joined m.pieces) ≤ n) × ClientWantsRoom m.client (take k m.rest)))
    ⊎
    ((mid : Conn) × (m : MovedDown old n calls mid calls')
    × Uncopied mid (n - length (joined m.pieces)) new)

-- the result of the move: how many bytes were moved; or memory ran out, and both ways were cut then
abbrev pub DownResult :
    {E : Type 0} (old : Conn) (n : ℕ) (calls : List Record) (new : Conn) (calls' : List Record)
    → Result ℕ E → Type 0
DownResult old n calls new calls' (Ok moved) =
    (m : MovedDown old n calls new calls') × (moved ≡ length (joined m.pieces))
    × (moved < n → (m.rest ≡ []) ⊎ (m.client.state ≢ clients.Open))
DownResult old n calls new calls' (Err e) =
    (done : Conn) × Stopped old n calls done calls' × (new ≡ cut_both done)

-- ---- one piece

-- a server took the first bytes of a piece: at least one, unless the piece is empty or the server
-- takes no more
pub record FedServer (old : ServerView) (piece : List ℕ) (taken : ℕ) (new : ServerView) :
    Type 0 where
  pub within : taken ≤ length piece
  pub pieces : List (List ℕ)
  pub are : joined pieces ≡ take taken piece
  pub takes : ServerTakesAll old pieces new
  pub none : taken ≡ 0 → (piece ≡ []) ⊎ TakesNone new

-- a client took the first bytes of a piece, and the reply that was ready then went into its record
pub record FedClient (indexes : List ℕ) (old : ClientSeen) (calls : List Record) (piece : List ℕ)
    (taken : ℕ) (new : ClientSeen) (calls' : List Record) : Type 0 where
  pub within : taken ≤ length piece
  pub mid : ClientSeen
  pub takes : ClientTakes old (take taken piece) mid
  pub copies : CopiesReply indexes mid.held mid.reply calls calls'
  pub after : new ≡ released mid
  pub none : taken ≡ 0 → piece ≡ []

-- memory ran out: a client took nothing, or the first bytes of a piece, which made a reply ready
abbrev pub Unfed : (old : ClientSeen) (piece : List ℕ) (taken : ℕ) (new : ClientSeen) → Type 0
Unfed old piece taken new =
    ((taken ≡ 0) × (new ≡ old) × ClientWantsRoom old piece)
    ⊎ ((taken ≤ length piece) × ClientTakes old (take taken piece) new × (new.reply ≢ None))

-- ---- piece after piece

-- this many bytes of the client's output went into the server
pub record GoneUp (kc : ClientSeen) (ks : ServerView) (moved : ℕ) (client : ClientSeen)
    (server : ServerView) : Type 0 where
  pub pieces : List (List ℕ)
  pub many : moved ≡ length (joined pieces)
  pub output : kc.requests.output ≡ joined pieces ++ client.requests.output
  pub takes : ServerTakesAll ks pieces server
  pub client_is : client ≡ with_client_output kc client.requests.output

-- the result of that: how many bytes, or that there was no memory for a message
abbrev pub UpEnd : {E : Type 0} (n moved : ℕ) (client : ClientSeen) (server : ServerView)
    → Result ℕ E → Type 0
UpEnd n moved client server (Ok k) =
    (k ≡ moved) × (moved < n → (client.requests.output ≡ []) ⊎ TakesNone server)
UpEnd n moved client server (Err e) =
    (k : ℕ) × (k + moved ≤ n) × WantsRoom server (take k client.requests.output)

-- this many of the bytes went into the server
pub record GoneRaw (old : ServerView) (bytes : List ℕ) (moved : ℕ) (server : ServerView) :
    Type 0 where
  pub pieces : List (List ℕ)
  pub many : moved ≡ length (joined pieces)
  pub input : bytes ≡ joined pieces ++ drop moved bytes
  pub takes : ServerTakesAll old pieces server

-- the result of that, likewise
abbrev pub RawEnd : {E : Type 0} (bytes : List ℕ) (moved : ℕ) (server : ServerView) → Result ℕ E
    → Type 0
RawEnd bytes moved server (Ok k) = (k ≡ moved) × ((drop moved bytes ≡ []) ⊎ TakesNone server)
RawEnd bytes moved server (Err e) = WantsRoom server (drop moved bytes)

-- this many bytes of the server's output went into the client
pub record GoneDown (indexes : List ℕ) (kc : ClientSeen) (ks : ServerView) (calls : List Record)
    (moved : ℕ) (client : ClientSeen) (server : ServerView) (calls' : List Record) : Type 0 where
  pub pieces : List (List ℕ)
  pub many : moved ≡ length (joined pieces)
  pub output : ks.output ≡ joined pieces ++ server.output
  pub takes : ClientTakesAll indexes kc calls pieces client calls'
  pub server_is : server ≡ with_server_output ks server.output

-- some bytes were moved, and then memory ran out: for a message, or for the copy of a reply
pub record PartDown (indexes : List ℕ) (kc : ClientSeen) (ks : ServerView) (calls : List Record)
    (n : ℕ) (client : ClientSeen) (server : ServerView) (calls' : List Record) : Type 0 where
  pub moved : ℕ
  pub at_most : moved ≤ n
  pub many : ℕ
  pub small : many ≤ n - moved
  pub mid : ClientSeen
  pub half : ServerView
  pub gone : GoneDown indexes kc ks calls moved mid half calls'
  pub taken : ℕ
  pub unfed : Unfed mid (take many half.output) taken client
  pub after : server ≡ with_server_output half (drop taken half.output)

-- the result of that: how many bytes were moved; or memory ran out after some of them
abbrev pub DownEnd :
    {E : Type 0} (indexes : List ℕ) (kc : ClientSeen) (ks : ServerView) (calls : List Record)
    (n : ℕ) (client : ClientSeen) (server : ServerView) (calls' : List Record)
    → Result ℕ E → Type 0
DownEnd indexes kc ks calls n client server calls' (Ok moved) =
    (moved ≤ n) × GoneDown indexes kc ks calls moved client server calls'
    × (client.state ≡ clients.Open → client.reply ≡ None)
    × (moved < n → (server.output ≡ []) ⊎ (client.state ≢ clients.Open))
DownEnd indexes kc ks calls n client server calls' (Err e) =
    PartDown indexes kc ks calls n client server calls'
