use Rattle.wire_play.proofs.operands.raw.Goals as goal

pub returns-in_default-clause-nothing : goal.returns-in_default-clause-nothing
returns-in_default-clause-nothing c = λ malformed n bytes is. c.in_default.ensures.only n is.hex is.words
