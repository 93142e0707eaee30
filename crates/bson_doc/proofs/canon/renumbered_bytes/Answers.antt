use Rattle.bson_doc.specs.Plain.{canonical_len}
use Rattle.bson_doc.proofs.canon.renumbered_bytes.Goals as goal

pub returns-in-None-clause-refused : goal.returns-in-None-clause-refused
returns-in-None-clause-refused c = λ t spelled. c.refusal_of.ensures c.args.limit (canonical_len t) (c.room_after_document.ensures t spelled)
