use Rattle.std.proofs.Common.{arith}
use Rattle.wire_msg.specs.Standing.{in_message}
use Rattle.wire_stream.proofs.Readings.{whole_is_bad}
use Rattle.wire_stream.proofs.held.state_of.Goals as goal

pub returns-then-message-announced-clause-stands : goal.returns-then-message-announced-clause-stands
returns-then-message-announced-clause-stands c = in_message c.requires.header c.requires.good (omega (arith, c.if-message-announced.true, c.requires.announced))

pub returns-in-Err-clause-stands : goal.returns-in-Err-clause-stands
returns-in-Err-clause-stands c =
    whole_is_bad c.args.limit c.args.message.now c.in-Err.fault c.requires.header c.requires.good
    (omega (arith, c.if-message-announced.false, c.requires.announced)) (omega (arith, c.requires.within, c.requires.announced))
    c.in-Err.ensures.fault
