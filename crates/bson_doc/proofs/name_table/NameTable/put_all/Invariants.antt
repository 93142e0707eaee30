use Rattle.std.proofs.Common.{◌≡◌, map, string_bytes, vec_len}
use Rattle.bson_doc.specs.NameSlots.{HasNames}
use Rattle.bson_doc.proofs.name_table.NameTable.put_all.Given as goal

abbrev pub invariant-loop-index : goal.invariant-loop-index
invariant-loop-index l = record {
  room : vec_len l.self.last ≡ vec_len l.initial.self.last;
  has : HasNames (vec_len l.self.last) l.self.last.items l.self.before.items l.index (map string_bytes l.names);
}
