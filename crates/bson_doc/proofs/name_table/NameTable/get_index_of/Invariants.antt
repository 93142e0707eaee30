use Rattle.std.proofs.Common.{vec_len}
use Rattle.bson_doc.specs.NameSlots.{slot_of}
use Rattle.bson_doc.proofs.NameTables.{Rest}
use Rattle.bson_doc.proofs.name_table.NameTable.get_index_of.Given as goal

abbrev pub invariant-loop-last : goal.invariant-loop-last
invariant-loop-last l = Rest (vec_len l.self.last) (slot_of (vec_len l.self.last) l.name) l.names l.name l.last

abbrev pub decreases-loop-last : goal.decreases-loop-last
decreases-loop-last l = l.last
