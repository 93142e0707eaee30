use Rattle.std.proofs.Common.{take}
use Rattle.bson_doc.specs.NameList.{IsIndex}
use Rattle.bson_doc.proofs.name_list.indexed.Given as goal

abbrev pub invariant-loop-i : goal.invariant-loop-i
invariant-loop-i l = IsIndex l.tree (take l.i l.names)
