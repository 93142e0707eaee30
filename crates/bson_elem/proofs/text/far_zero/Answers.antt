use Rattle.bson_elem.proofs.NameLaws.{first_zero_offset}
use Rattle.bson_elem.proofs.text.far_zero.Goals as goal

pub returns : goal.returns
returns c = first_zero_offset c.args.bytes.now c.memchr.result c.memchr.ensures
