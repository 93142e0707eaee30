use Rattle.std.proofs.Common.{[]}
use Rattle.bson_raw.specs.RawDocument.{document_bytes}
use Rattle.wire_msg.proofs.ContentLaws.{one_content}
use Rattle.wire_msg.proofs.laws.one_content.Goals as goal

pub returns-clause-lent : goal.returns-clause-lent
returns-clause-lent c = λ p x y. one_content p.before.now (document_bytes p.body) p.after.now x y

pub returns-clause-owned : goal.returns-clause-owned
returns-clause-owned c = λ p x y. one_content [] p.body.items p.sequences.items x y
