use Rattle.std.proofs.Common.{◌≡◌, take, vec_capacity, vec_len}
use Rattle.wire_msg.specs.{number_at}
use Rattle.wire_stream.proofs.held.begin_message.Given as goal

abbrev pub invariant-loop-byte : goal.invariant-loop-byte
invariant-loop-byte l = record {
  items : l.message.items ≡ take l.byte-index l.header;
  count : vec_len l.message ≡ l.byte-index;
  room : vec_capacity l.message ≡ number_at l.header 0;
}
