-- The record of a call, as a world sees it.
use Rattle.std.specs.Prelude.{List, map}
use Rattle.wire_msg.specs.{Content}
use Rattle.wire_msg.specs.declared.payload_buf.PayloadBuf.{PayloadBuf}
use Rattle.wire_peer.specs.{buf_content}
use Rattle.wire_model.specs.{Record, State, asked_as, Pending, Done, Sent, Lost}
use Rattle.wire_world.specs.declared.records.CallRecord.{CallRecord}
use Rattle.wire_world.specs.declared.records.CallState.{CallState}
use Rattle.wire_world.specs.declared.records.CallState.TheVariants as states

abbrev pub state_of : CallState → State
state_of states.Pending = Pending
state_of states.Done = Done
state_of states.Sent = Sent
state_of states.Lost = Lost

abbrev pub contents_of : List PayloadBuf → List Content
contents_of parts = map buf_content parts

abbrev pub record_of : CallRecord → Record
record_of r = record {
  connection = r.connection;
  asked = asked_as r.kind (buf_content r.payload);
  parts = contents_of r.parts.items;
  state = state_of r.state;
}

abbrev pub records_of : List CallRecord → List Record
records_of calls = map record_of calls
