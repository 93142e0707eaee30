use Rattle.std.proofs.Common.{refl, arith}
use Rattle.bson_elem.specs.Spelling.{document, elements}
use Rattle.bson_doc.specs.Plain.{plain, canonical_len}
use Rattle.bson_doc.proofs.Spelled.{spells_plain}
use Rattle.bson_doc.proofs.laws.canonical_form_is_there.Goals as goal

pub returns : goal.returns
returns c = λ t bytes s short. (spells_plain t bytes (document (elements (plain t))) (canonical_len t) short s refl (omega arith)).0
