use Rattle.std.proofs.Common.{◌≡◌, length}
use Rattle.std.specs.Io.KnownBytes.{Keeps}
use Rattle.wire_stream.proofs.tcp_link.TcpLinkLink.recv.Given as goal

abbrev pub invariant-loop : goal.invariant-loop
invariant-loop g l = record {
  read : Keeps (g.S.Read.remaining l.fn.self.stream) (g.S.Read.remaining l.self.stream);
  room : length l.buffer ≡ length l.fn.buffer;
  ends : l.self.ends ≡ l.fn.self.ends;
  waits : l.self.waits ≡ l.fn.self.waits;
  works : l.self.failures ≡ l.fn.self.failures;
}
