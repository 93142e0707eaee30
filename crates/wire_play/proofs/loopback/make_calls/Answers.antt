use Rattle.std.proofs.Common.{◌++◌, ◌+◌, [], inl, inr, arith}
use Rattle.std.proofs.KnownBytes.{Appends-nil}
use Rattle.std.proofs.lemmas.Result.{err_from_is_err_and}
use Rattle.wire_play.specs.Loopback.{loop_text}
use Rattle.wire_play.proofs.LoopLemmas.{all_lines, call_written, client_goes_on, last_written, left_from, line_written, lines_written, none_done, none_of, none_served, made_so_far, one_more_sent, server_goes_on}
use Rattle.wire_play.proofs.loopback.make_calls.Goals as goal

pub returns-in_err-write_call-clause-written : goal.returns-in_err-write_call-clause-written
returns-in_err-write_call-clause-written g c =
    let k = c.loop-k.k in
    let calls = c.args.calls in
    let number = c.in_ok-call.ensures.number in
    let line = c.write_call.ensures.written k number.0 number.1 in
    let told = err_from_is_err_and c.from_residual-in_err-write_call.result c.from_residual-in_err-write_call.ensures.1 in (
      line.0 ++ left_from (k + 1) calls,
      call_written k calls line.0 (loop_text calls) _ _ _ c.loop-k-test.true c.loop-k.invariant.written line.1,
      rw told.1 tt,
    )

pub loop-k-preserved : goal.loop-k-preserved
loop-k-preserved g c =
    let L = g.L.Link in
    let k = c.loop-k.k in
    let calls = c.args.calls in
    let number = c.in_ok-call.ensures.number in
    let line = c.write_call.ensures.written k number.0 number.1 in
    let whole = rw c.in_ok-write_call.was at line.2 in
    record {
      complete = c.in_ok-call.ensures.complete;
      client = client_goes_on L.sent L.received _ _ _ c.loop-k.invariant.client c.in_ok-call.ensures.client;
      server = server_goes_on L.sent L.received _ _ _ _ _ _ c.loop-k.invariant.server c.in_ok-call.ensures.server;
      sent = one_more_sent k _ _ _ c.loop-k.invariant.sent c.in_ok-call.ensures.sent;
      lines = line_written k _ _ _ c.loop-k.invariant.lines (rw whole at line.1);
      written = rw whole at (call_written k calls line.0 (loop_text calls) _ _ _ c.loop-k-test.true c.loop-k.invariant.written line.1);
    }

pub returns-clause-written : goal.returns-clause-written
returns-clause-written g c =
    let calls = c.args.calls in
    let line = c.write_last.ensures.written in
    (line.0, last_written c.loop-k.k calls line.0 (loop_text calls) _ _ _ c.loop-k-test.false c.loop-k.invariant.written line.1, line.2)

pub loop-k-init : goal.loop-k-init
loop-k-init g c =
    let L = g.L.Link in
    record {
      complete = c.requires;
      client = none_done L.sent L.received _;
      server = none_served L.sent L.received _ _;
      sent = Appends-nil _;
      lines = Appends-nil _;
      written = none_of c.args.calls _;
    }

pub returns-in_err-call-clause-told : goal.returns-in_err-call-clause-told
returns-in_err-call-clause-told g c =
    let L = g.L.Link in
    let k = c.loop-k.k in
    let before = c.loop-k.invariant in
    made_so_far L.sent L.received k c.args.calls _ _ _ _ _ _ _ _ (omega (arith, c.loop-k-test.true)) before.complete before.client before.server
    (inr ([], all_lines k _ _ before.lines))

pub returns-in_err-write_call-clause-told : goal.returns-in_err-write_call-clause-told
returns-in_err-write_call-clause-told g c =
    let L = g.L.Link in
    let k = c.loop-k.k in
    let before = c.loop-k.invariant in
    let call = c.in_ok-call.ensures in
    let line = c.write_call.ensures.written k call.number.0 call.number.1 in
    made_so_far L.sent L.received (k + 1) c.args.calls _ _ _ _ _ _ _ _ (omega (arith, c.loop-k-test.true)) call.complete
    (client_goes_on L.sent L.received _ _ _ before.client call.client)
    (server_goes_on L.sent L.received _ _ _ _ _ _ before.server call.server)
    (inr (line.0, lines_written k line.0 _ _ _ before.lines line.1))

pub returns-clause-told : goal.returns-clause-told
returns-clause-told g c =
    let L = g.L.Link in
    let k = c.loop-k.k in
    let before = c.loop-k.invariant in
    made_so_far L.sent L.received k c.args.calls _ _ _ _ _ _ _ _ (omega (arith, c.loop-k-test.false)) before.complete before.client before.server
    (inl (omega (arith, c.loop-k-test.false)))
