use Rattle.std.proofs.Common.{ℕ, ◌+◌, List, subst}
use Rattle.std.proofs.lemmas.List.{take_rest}
use Rattle.std.proofs.lemmas.Result.{err_from_is_err_and}
use Rattle.wire_msg.specs.Faults.{SequenceFault}
use Rattle.wire_msg.specs.Checks.{IsSequenceAt}
use Rattle.wire_msg.proofs.SequenceLaws.{run_more, run_fails}
use Rattle.wire_msg.proofs.sequence.check_sequences.Goals as goal

pub returns-in_err-at : goal.returns-in_err-at
returns-in_err-at c =
    let p = err_from_is_err_and c.from_residual.result c.from_residual.ensures.1 in
    let fault = subst (λ (x : List ℕ). SequenceFault c.loop-at.at x c.in_err-at.field-0.0) (take_rest c.args.bytes.now (c.loop-at.at + 1)) c.in_err-at.ensures in
    rw (p.1, p.2) (run_fails c.args.bytes.now c.args.start c.loop-at.at c.in_err-at.field-0.0 c.loop-at.invariant c.loop-at-test.true c.if-bytes-at-eq-SEQUENCE.true fault)

pub loop-at-preserved : goal.loop-at-preserved
loop-at-preserved c =
    let is = subst (λ (x : List ℕ). IsSequenceAt x c.in_ok-at.field-0) (take_rest c.args.bytes.now (c.loop-at.at + 1)) c.in_ok-at.ensures in
    run_more c.args.bytes.now c.args.start c.loop-at.at c.in_ok-at.field-0 c.loop-at.invariant c.loop-at-test.true c.if-bytes-at-eq-SEQUENCE.true is
