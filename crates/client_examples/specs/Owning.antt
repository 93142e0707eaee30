-- What the owners of the two ends did, as each of them tells it, in one order in which bytes arrive
-- in order.
use Rattle.std.specs.Prelude.{◌≡◌, ℕ, pos, List, [], ◌++◌}
use Rattle.wire_peer.specs.{Does, Stops, log_of, new_server}
use Rattle.wire_model.specs.{Arrive, ClientAct, ClientEnd, ClientRun, Deed, Made, ServerAct}
use Rattle.wire_model.specs.{ServerEnd, ServerRun, first_end}
use Rattle.wire_end.specs.{AreInOrder, records_of}
use Rattle.client_examples.specs.declared.pair.ends.Ends.{Ends}
use Rattle.wire_msg.specs.declared.header.TheConstants.{MAX_MESSAGE_LEN}

-- the most bytes that a message has
abbrev pub message_limit : ℕ
message_limit = MAX_MESSAGE_LEN

-- ids from 1, and room for four calls and four requests
abbrev pub made_for_four : Made
made_for_four = record { first_id = pos 1; client_window = 4; server_window = 4 }

-- what the owner of the client holds, and the owner of the server; their connection is number 1
abbrev pub client_end : {H : Type 0} → Ends H → ClientEnd
client_end e = record { client = e.client; records = records_of 1 e.calls.items }

abbrev pub server_end : {H : Type 0} → Ends H → ServerEnd H
server_end e = record {
  server = e.server;
  log = log_of e.logged.entries.items;
  handler = e.logged.handler;
}

-- bytes arrive in order in these deeds, if what is in flight before them is what is in flight here
abbrev pub ArriveFrom : {H : Type 0} → Ends H → List Deed → Type 0
ArriveFrom e deeds = (up down : ℕ → List ℕ) → up 1 ≡ e.up.bytes → down 1 ≡ e.down.bytes
    → Arrive up down deeds

-- The acts of the two owners, in one order, lead from the old ends to the new ones. Bytes arrive in
-- order in it, with whatever arrives in order behind it.
pub record Acts {H : Type 0} (does : Does H) (stops : Stops H) (old new : Ends H) : Type 0 where
  pub acts : List ClientAct
  pub served : List ServerAct
  pub deeds : List Deed
  pub order : AreInOrder acts served deeds
  pub ran : ClientRun 1 (client_end old) acts (client_end new)
  pub serves : ServerRun does stops (server_end old) served (server_end new)
  pub arrives : (more : List Deed) → ArriveFrom new more → ArriveFrom old (deeds ++ more)

-- The same from before the first call on, with this handler.
pub record Told {H : Type 0} (does : Does H) (stops : Stops H) (first : H) (e : Ends H) : Type 0
  where
    pub acts : List ClientAct
    pub served : List ServerAct
    pub deeds : List Deed
    pub order : AreInOrder acts served deeds
    pub ran : ClientRun 1 (first_end message_limit (λ _. made_for_four) 1) acts (client_end e)
    pub serves : ServerRun does stops
        (record { server = new_server 1 4 message_limit; log = []; handler = first }) served
        (server_end e)
    pub arrives : (more : List Deed) → ArriveFrom e more
        → Arrive (λ _. []) (λ _. []) (deeds ++ more)
