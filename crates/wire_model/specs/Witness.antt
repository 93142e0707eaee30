-- A run in which a call of each kind gets done, so that the laws of runs speak of something.
use Rattle.std.specs.Prelude.{◌≡◌, ℕ, pos, if◌then◌else◌, List, [], ◌∷◌}
use Rattle.wire_msg.specs.{Content}
use Rattle.wire_msg.specs.declared.payloads.Payload.{Payload}
use Rattle.wire_peer.specs.{Does, Stops, content_of, takes_more}
use Rattle.wire_peer.specs.declared.calls.CallKind.{CallKind}
use Rattle.wire_peer.specs.declared.calls.CallKind.TheVariants.{Plain, Exhaust, Unacknowledged}
use Rattle.wire_model.specs.Machines.{Done, Sent, State, asked_as}
use Rattle.wire_model.specs.Conns.{Record}
use Rattle.wire_model.specs.Owners.{ClientEnd, ClientRun, Made, ServerEnds, first_end}
use Rattle.wire_model.specs.Owners.{first_servers_of}
use Rattle.wire_model.specs.Deeds.{Arrive, Deed, ServersRun, acts_at}

-- a handler that answers each request with its payload, twice where it takes more, and never stops
abbrev pub echoes : Does (Unit {0})
echoes h a answers h' =
    answers ≡ (if takes_more a then a.payload ∷ a.payload ∷ [] else a.payload ∷ [])

abbrev pub never_stops : Stops (Unit {0})
never_stops h a stop h' = ⊥

-- ids from 1, and room for one call
abbrev pub made_least : ℕ → Made
made_least c = record { first_id = pos 1; client_window = 1; server_window = 1 }

abbrev pub record_with : Content → CallKind → List Content → State → Record
record_with payload kind parts state = record {
  connection = 1;
  asked = asked_as kind payload;
  parts = parts;
  state = state;
}

-- There is a run over one connection in which the client's calls with this payload, one of each
-- kind, get done or are sent.
pub record GetDone (limit : ℕ) (payload : Payload) : Type 0 where
  pub deeds : List Deed
  pub ends : ℕ → ClientEnd
  pub servers : ServerEnds (Unit {0})
  pub clients_ran : (c : ℕ) → ClientRun c (first_end limit made_least c) (acts_at c deeds) (ends c)
  pub servers_ran : ServersRun echoes never_stops (first_servers_of limit made_least 1 tt) deeds
      servers
  pub arrive : Arrive (λ _. []) (λ _. []) deeds
  pub done : (ends 1).records
      ≡ record_with (content_of payload) Plain (content_of payload ∷ []) Done
      ∷ record_with (content_of payload) Exhaust
      (content_of payload ∷ content_of payload ∷ []) Done
      ∷ record_with (content_of payload) Unacknowledged [] Sent ∷ []
