-- The record of a call, as the owner of a client keeps it.
use Rattle.std.specs.Prelude.{ℕ, List, map}
use Rattle.wire_peer.specs.{buf_content}
use Rattle.wire_model.specs.{Record, State, asked_as, Pending, Done, Sent, Lost}
use Rattle.wire_end.specs.declared.call_record.CallRecord.{CallRecord}
use Rattle.wire_end.specs.declared.call_record.CallState.{CallState}
use Rattle.wire_end.specs.declared.call_record.CallState.TheVariants as states

abbrev pub state_of : CallState → State
state_of states.Pending = Pending
state_of states.Done = Done
state_of states.Sent = Sent
state_of states.Lost = Lost

-- the record of a call over the connection of this number
abbrev pub record_of : ℕ → CallRecord → Record
record_of c r = record {
  connection = c;
  asked = asked_as r.kind (buf_content r.payload);
  parts = map buf_content r.parts.items;
  state = state_of r.state;
}

abbrev pub records_of : ℕ → List CallRecord → List Record
records_of c rs = map (record_of c) rs
