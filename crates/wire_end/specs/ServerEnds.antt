-- A server's end, and what is done with it.
use Rattle.std.specs.Prelude.{◌≡◌, ℕ, Option, List, [], ◌++◌}
use Rattle.std.specs.Io.KnownBytes.{Appends}
use Rattle.bson_elem.specs.{IsBytes}
use Rattle.wire_peer.specs.{Does, ServerView, Stops, log_of}
use Rattle.wire_peer.specs.declared.log.Logged.{Logged}
use Rattle.wire_model.specs.{ServerAct, ServerEnd, ServerMovesOn, ServerRun, bytes_sent_down}
use Rattle.wire_model.specs.{bytes_taken_up}

-- The server, the link, and the bytes that came over it and that the server hasn't taken yet.
pub record ServerEndSeen (L : Type 0) : Type 0 where
  pub server : ServerView
  pub link : L
  pub inlet : List ℕ

abbrev pub parts : {L : Type 0} → ServerView → L → List ℕ → ServerEndSeen L
parts server link inlet = record { server = server; link = link; inlet = inlet }

-- an end over which nothing was done
abbrev pub new_server_end : {L : Type 0} → ServerView → L → ServerEndSeen L
new_server_end server link = parts server link []

-- The link sent the bytes that these acts sent; and what came over it, behind the bytes that were
-- held, are those that they took and those that are held now.
pub record GoesOver {L : Type 0} (sent received : L → Option (List ℕ)) (old : ServerEndSeen L)
    (acts : List ServerAct) (new : ServerEndSeen L) : Type 0 where
  pub sends : Appends (sent old.link) (sent new.link) (bytes_sent_down acts)
  pub came : List ℕ
  pub receives : Appends (received old.link) (received new.link) came
  pub taken : old.inlet ++ came ≡ bytes_taken_up acts ++ new.inlet
  pub are_bytes : IsBytes (bytes_taken_up acts)

-- The end did these acts, and answered nothing. They are its server's, and their bytes went over
-- its link.
pub record ServerEndMoves {L : Type 0} (sent received : L → Option (List ℕ)) (old : ServerEndSeen L)
    (acts : List ServerAct) (new : ServerEndSeen L) : Type 0 where
  pub moves : ServerMovesOn old.server acts new.server
  pub bytes : GoesOver sent received old acts new

-- a server, with this handler and its log
abbrev pub with_logged : {H : Type 0} → ServerView → Logged H → ServerEnd H
with_logged server logged = record {
  server = server;
  log = log_of logged.entries.items;
  handler = logged.handler;
}

-- The end did these acts with a handler and its log. They are a run of its server with these, and
-- their bytes went over its link.
pub record ServerEndRuns {H L : Type 0} (does : Does H) (stops : Stops H)
    (sent received : L → Option (List ℕ)) (old : ServerEndSeen L) (from : Logged H)
    (acts : List ServerAct) (new : ServerEndSeen L) (to : Logged H) : Type 0 where
  pub run : ServerRun does stops (with_logged old.server from) acts (with_logged new.server to)
  pub bytes : GoesOver sent received old acts new
