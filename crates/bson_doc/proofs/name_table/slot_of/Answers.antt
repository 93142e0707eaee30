use Rattle.std.proofs.Common.{ℕ, ◌-◌, ◌∙◌, ap, bit_and}
use Rattle.std.specs.Hash.FoldHasher.{finish, write}
use Rattle.bson_doc.specs.NameSlots.{slot_of}
use Rattle.bson_doc.proofs.name_table.slot_of.Goals as goal

pub returns-clause-slot : goal.returns-clause-slot
unfolding slot_of
returns-clause-slot c =
    ap (λ (n : ℕ). bit_and n (c.args.slots - 1)) (c.finish.ensures ∙ ap finish (c.write.ensures ∙ (λ i. write (c.default-hasher.ensures i) (c.as_bytes.ensures.value i))))
