use Rattle.std.proofs.Common.{◌≡◌}
use Rattle.std.specs.Io.KnownBytes.{Keeps}
use Rattle.wire_stream.proofs.tcp_link.TcpLinkLink.send.Given as goal

abbrev pub invariant-loop : goal.invariant-loop
invariant-loop g l = record {
  written : Keeps (g.S.Write.contents l.fn.self.stream) (g.S.Write.contents l.self.stream);
  ends : l.self.ends ≡ l.fn.self.ends;
  waits : l.self.waits ≡ l.fn.self.waits;
  works : l.self.failures ≡ l.fn.self.failures;
}
