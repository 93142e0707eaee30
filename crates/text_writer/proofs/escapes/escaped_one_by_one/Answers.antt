use Rattle.std.proofs.Common.{sym, ◌∙◌, arith}
use Rattle.text_writer.proofs.Lanes.{first_at, none_at}
use Rattle.text_writer.proofs.escapes.escaped_one_by_one.Goals as goal

pub returns-then-is_escaped : goal.returns-then-is_escaped
returns-then-is_escaped c =
    sym (first_at c.args.bytes.now c.loop-at.at c.loop-at-test.true c.loop-at.invariant (sym c.is_escaped.ensures ∙ c.if-is_escaped.true))

pub returns : goal.returns
returns c =
    sym (none_at c.args.bytes.now (λ k lt. c.loop-at.invariant k (omega (arith, lt, c.loop-at-test.false))))
