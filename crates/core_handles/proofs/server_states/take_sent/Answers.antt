use Rattle.std.proofs.Common.{length, refl, ap, arith}
use Rattle.core_handles.specs.Standing.{is_sent, too_many}
use Rattle.core_handles.proofs.server_states.take_sent.Goals as goal

pub returns-then-n-output : goal.returns-then-n-output
returns-then-n-output c = too_many (omega (arith, c.if-n-output.true, ap length c.output.ensures)) refl refl

pub returns : goal.returns
returns c = is_sent (omega (arith, c.if-n-output.false, ap length c.output.ensures)) c.sent.ensures refl
