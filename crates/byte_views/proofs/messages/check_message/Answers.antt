use Rattle.byte_views.specs.Messages.{is_message}
use Rattle.byte_views.proofs.ToldMessages.{told_fault}
use Rattle.byte_views.proofs.messages.check_message.Goals as goal

pub returns-in-Ok-clause-read : goal.returns-in-Ok-clause-read
returns-in-Ok-clause-read g c = λ within.
    let is = c.in-Ok.ensures.found.1 in
    is_message is.1.0 is.1.1 is.0 cc

pub returns-in-Err-clause-read : goal.returns-in-Err-clause-read
returns-in-Err-clause-read g c = λ within. told_fault c.args.limit c.args.bytes.now c.in-Err.fault _ _ c.in-Err.ensures.fault c.of_message.ensures c.inside.ensures
