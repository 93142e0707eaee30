use Rattle.wire_share.specs.Needs.{command_in}
use Rattle.wire_share.proofs.Giving_back.{noted, told_by}
use Rattle.wire_share.proofs.Wishing.{asks}
use Rattle.wire_share.proofs.giving.follow.Goals as goal

pub returns-in-Ok-clause-noted : goal.returns-in-Ok-clause-noted
returns-in-Ok-clause-noted c = λ m answer waits spells.
    let told = c.body-told.ensures answer.content (c.in-Some.ensures.payload answer spells) in
    noted c.in-Some-request.request m answer c.args.upstream c.args.routes.now c.answered.new.self
    (asks c.args.client.now.downstream.conn.server c.in-Some-request.request m c.in-Some-request.ensures.shown waits)
    (λ content carries.
    let asked = c.command_in-asked.ensures content.body (c.body.ensures content carries) in
    told_by c.answered.result (command_in content.body) answer c.args.upstream c.args.routes.now c.answered.new.self
    (c.answered.ensures.noted (command_in content.body) answer.content.body asked told) (c.answered.ensures.room (command_in content.body) answer.content.body asked told))
