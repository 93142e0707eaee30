use Rattle.std.proofs.Common.{length, ap}
use Rattle.byte_views.specs.Front.{is_open}
use Rattle.byte_views.proofs.ToldFront.{told_bad, told_whole}
use Rattle.byte_views.proofs.front.message_front.Goals as goal

pub returns-in-Open-clause-read : goal.returns-in-Open-clause-read
returns-in-Open-clause-read g c = λ within. is_open c.in-Open.ensures.front cc

pub returns-in-Whole-clause-read : goal.returns-in-Whole-clause-read
returns-in-Whole-clause-read g c = λ within.
    let front = c.in-Whole.ensures.front in
    told_whole c.args.limit c.args.bytes.now _ _ _ _ _ front.0 front.1 (ap length c.as_bytes.ensures) c.none-none.ensures c.none-none.ensures

pub returns-in-Bad-clause-read : goal.returns-in-Bad-clause-read
returns-in-Bad-clause-read g c = λ within.
    told_bad c.args.limit c.args.bytes.now c.in-Bad.found _ _ c.in-Bad.ensures.front.0 c.of_message.ensures c.inside.ensures
