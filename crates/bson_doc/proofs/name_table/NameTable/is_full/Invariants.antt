use Rattle.std.proofs.Common.{◌≤◌, length}
use Rattle.bson_doc.proofs.name_table.NameTable.is_full.Given as goal

abbrev pub invariant-loop : goal.invariant-loop
invariant-loop l = l.last ≤ length l.names
