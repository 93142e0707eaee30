use Rattle.replay.proofs.Noting.{compared_as}
use Rattle.replay.proofs.Replies.{counted}
use Rattle.replay.proofs.teller.Teller.compare_carried.Goals as goal

pub returns-clause-compared : goal.returns-clause-compared
returns-clause-compared g c =
    compared_as c.compare.result _ _ c.args.recorded.now c.in_ok-bytes.bytes.items c.deref.result.now c.args.received.now _ _ c.in_ok-bytes.ensures c.deref.ensures.value
    c.compare.ensures.messages c.compare.ensures.other

pub returns-clause-noted : goal.returns-clause-noted
returns-clause-noted g c = counted c.compare.result c.in_ok-note_answer.ensures
