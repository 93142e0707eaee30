use Rattle.std.proofs.Common.{◌≡◌, ◌+◌, ℕ, [], ◌∙◌, arith, get_or, map, refl, string_bytes, subst, sym, vec_len}
use Rattle.bson_doc.specs.NameSlots.{HasNames, slot_of}
use Rattle.bson_doc.proofs.NameTables.{name_at}
use Rattle.bson_doc.proofs.name_table.NameTable.put_all.Goals as goal

pub loop-index-init : goal.loop-index-init
loop-index-init c = record { room = refl; has = c.requires.none (map string_bytes c.args.names.now) }

pub loop-index-preserved : goal.loop-index-preserved
loop-index-preserved c =
    let names = c.args.names.now in
    let index = c.loop-index.index in
    let read = name_at names index c.index-names-index.result (omega arith) c.index-names-index.is in
    let slot : c.slot_of-slot.result ≡ slot_of (vec_len c.loop-index.self.last) (get_or (map string_bytes names) index []) =
    c.slot_of-slot.ensures.slot ∙ (λ i. slot_of (c.len.ensures i) ((c.as_str.ensures.value ∙ sym read) i)) in
    let new = c.put_at.new.self in
    record {
      room = c.put_at.ensures.room ∙ c.loop-index.invariant.room;
      has = subst (λ (n : ℕ). HasNames n new.last.items new.before.items (index + 1) (map string_bytes names)) (sym c.put_at.ensures.room) (c.put_at.ensures.put (map string_bytes names) c.loop-index.invariant.has slot);
    }
