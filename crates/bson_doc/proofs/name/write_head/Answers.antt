use Rattle.std.proofs.Common.{arith}
use Rattle.bson_doc.proofs.Writing.{name_text, always}
use Rattle.bson_doc.proofs.name.write_head.Goals as goal

pub returns-clause-text : goal.returns-clause-text
returns-clause-text c = always c.write_name.result (name_text c.args.in_array c.args.index c.args.name.now (omega arith) c.utf8.name)
