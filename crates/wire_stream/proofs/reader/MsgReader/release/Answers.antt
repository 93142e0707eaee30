use Rattle.wire_stream.proofs.Readings.{kept_all, message_not_bad, message_not_open}
use Rattle.wire_stream.proofs.reader.MsgReader.release.Goals as goal

pub returns-clause-open : goal.returns-clause-open
returns-clause-open c = λ o. kept_all _ _ c.take.result _ _ c.take.ensures.some c.take.ensures.none (λ m. message_not_open _ _ m o)

pub returns-clause-bad : goal.returns-clause-bad
returns-clause-bad c = λ f b. kept_all _ _ c.take.result _ _ c.take.ensures.some c.take.ensures.none (λ m. message_not_bad _ _ f m b)
