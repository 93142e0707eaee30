-- What a borrowed message shows.
use Rattle.std.specs.Prelude.{ℕ, List}
use Rattle.wire_msg.specs.declared.msg.RawMsg.{RawMsg}

-- the bytes of the message
abbrev pub msg_bytes : RawMsg → List ℕ
msg_bytes m = m.bytes.now
