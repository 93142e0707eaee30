use Rattle.std.proofs.Common.{refl, ◌∙◌}
use Rattle.replay.proofs.Comparing.{rest_from, to_end}
use Rattle.replay.proofs.Replies.{no_message}
use Rattle.replay.proofs.content.Content.of.Goals as goal

pub returns-in-Ok-clause-reply : goal.returns-in-Ok-clause-reply
returns-in-Ok-clause-reply c = λ is. no_message _ c.args.bytes.now c.in-Ok.ensures.found.1 is

pub returns-in-Some-clause-reply : goal.returns-in-Some-clause-reply
returns-in-Some-clause-reply c = λ is.
    let found = c.in-Some.ensures.lookup.0 in found.2 ∙ to_end 36 c.args.bytes.now found.0

pub returns-in_default-get-clause-other : goal.returns-in_default-get-clause-other
returns-in_default-get-clause-other c = λ no isnt.
    rest_from 12 c.args.bytes.now c.get-in_default-get.result _ c.unwrap_or.result c.unwrap_or.ensures refl c.get-in_default-get.ensures.lookup.0
