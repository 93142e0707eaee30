use Rattle.bson_json_read.proofs.Scans.{closed_len, open_len}
use Rattle.bson_json_read.proofs.extent.text_extent.Goals as goal

pub returns-in-Closed-clause-len : goal.returns-in-Closed-clause-len
returns-in-Closed-clause-len c = closed_len c.in-Closed.len c.args.rest.now c.in-Closed.ensures

pub returns-in-Open-clause-len : goal.returns-in-Open-clause-len
returns-in-Open-clause-len c = open_len c.in-Open.field-0 c.args.rest.now c.in-Open.ensures.0 c.in-Open.ensures.1
