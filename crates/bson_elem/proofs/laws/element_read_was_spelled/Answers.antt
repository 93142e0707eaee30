use Rattle.bson_elem.proofs.ContainerLaws.{element_takes}
use Rattle.bson_elem.proofs.laws.element_read_was_spelled.Goals as goal

pub returns : goal.returns
returns c = λ depth s p bytes e fits read. let t = element_takes depth s p bytes e fits read in (t.0.parts, t.1)
