use Rattle.wire_msg.proofs.FlagLaws.{flags_are}
use Rattle.wire_msg.proofs.flags.MsgFlags.read.Goals as goal

pub returns-clause-read : goal.returns-clause-read
returns-clause-read c = flags_are c.args.word c.ranges.word.fits c.if-required.false c.if-required-ne0.false
