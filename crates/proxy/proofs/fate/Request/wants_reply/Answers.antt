use Rattle.std.proofs.Common.{subst}
use Rattle.proxy.specs.Fates.{IsRequest}
use Rattle.proxy.proofs.Requests.{wanted}
use Rattle.proxy.proofs.fate.Request.wants_reply.Goals as goal

pub returns-in-Message : goal.returns-in-Message
returns-in-Message c = λ a is. wanted c.in-Message.message a c.more_to_come.result (subst (λ r. IsRequest r a) c.in-Message.is is) c.more_to_come.ensures
