use Rattle.std.specs.Io.KnownBytes.{Appends}
use Rattle.std.proofs.Common.{List}
use Rattle.wire_model.specs.{ClientAct, ServerAct}
use Rattle.wire_end.specs.{EndRuns, ServerEndRuns}
use Rattle.wire_play.specs.Calling.{AreComplete}
use Rattle.wire_play.specs.Loopback.{AppendsUpTo, call_lines, echo_does, echo_stops, loop_text, requests_bytes}
use Rattle.wire_play.proofs.LoopLemmas.{left_from}
use Rattle.wire_play.proofs.loopback.make_calls.Given as goal

abbrev pub invariant-loop-k : goal.invariant-loop-k
invariant-loop-k g l =
    let L = g.L.Link in
    record {
      complete : AreComplete l.k (l.loopback.client);
      client : (acts : List ClientAct) × EndRuns L.sent L.received l.fn.loopback.client acts l.loopback.client;
      server : (acts : List ServerAct) × ServerEndRuns echo_does echo_stops L.sent L.received l.fn.loopback.server l.fn.loopback.logged acts l.loopback.server l.loopback.logged;
      sent : Appends (L.sent l.fn.loopback.client.link) (L.sent l.loopback.client.link) (requests_bytes l.k);
      lines : Appends (g.W.Write.contents l.fn.out) (g.W.Write.contents l.out) (call_lines 0 l.k);
      written : AppendsUpTo (left_from l.k l.calls) (loop_text l.calls) (g.W.Write.contents l.fn.out) (g.W.Write.contents l.out);
    }
