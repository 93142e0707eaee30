use Rattle.std.proofs.Common.{ℕ, subst, sym}
use Rattle.bson_doc.specs.NameSlots.{HasNames}
use Rattle.bson_doc.proofs.name_table.NameTable.of.Goals as goal

pub put_all-requires-clause-none : goal.put_all-requires-clause-none
put_all-requires-clause-none c = λ all.
    let t = c.in_ok-table.table in
    subst (λ (n : ℕ). HasNames n t.last.items t.before.items 0 all) (sym c.in_ok-table.ensures.room) (c.in_ok-table.ensures.none all)
