use Rattle.bson_raw.proofs.value.RawBson.of_item.Goals as goal

pub from_spelled-requires-in-CodeWithScope : goal.from_spelled-requires-in-CodeWithScope
from_spelled-requires-in-CodeWithScope c = rw c.in-CodeWithScope.is at c.requires
