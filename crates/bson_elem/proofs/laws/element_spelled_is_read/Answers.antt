use Rattle.bson_elem.proofs.ContainerLaws.{element_again}
use Rattle.bson_elem.proofs.laws.element_spelled_is_read.Goals as goal

pub returns : goal.returns
returns c = element_again
