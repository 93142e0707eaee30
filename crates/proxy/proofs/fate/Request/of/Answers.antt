use Rattle.proxy.proofs.Requests.{message_found, query_found}
use Rattle.proxy.proofs.fate.Request.of.Goals as goal

pub returns-in-Ok-clause-some : goal.returns-in-Ok-clause-some
returns-in-Ok-clause-some c = message_found c.in-Ok.message _ _ c.as_bytes-bytes.ensures c.in-Ok.ensures.found

pub returns-in-Ok-parse-clause-some : goal.returns-in-Ok-parse-clause-some
returns-in-Ok-parse-clause-some c = query_found c.in-Ok-parse.query _ _ c.as_bytes-bytes.ensures c.in-Ok-parse.ensures.found
