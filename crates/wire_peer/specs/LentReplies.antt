-- A reply, as a client lends it.
use Rattle.wire_peer.specs.declared.call_table.ReadyReply.{ReadyReply}
use Rattle.wire_peer.specs.declared.reply.Reply.{Reply}

-- the call that a reply belongs to, and whether it is the last one
abbrev pub ready_of : Reply → ReadyReply
ready_of r = record { call = r.call; last = r.last }
