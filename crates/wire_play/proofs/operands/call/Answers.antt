use Rattle.std.proofs.Common.{rules}
use Rattle.wire_play.proofs.operands.call.Goals as goal

pub returns-in_default-clause-nothing : goal.returns-in_default-clause-nothing
returns-in_default-clause-nothing c = λ malformed n payload is. c.in_default.ensures.only n is.hex is.words

pub returns-in_err-payload-clause-nothing : goal.returns-in_err-payload-clause-nothing
returns-in_err-payload-clause-nothing c = λ malformed n payload is.
    let same = c.in-Some.ensures.only n is.hex is.words in
    c.payload_of.ensures.nothing (search rules) is.body payload (rw same.1 is.hex_is) is.carried
