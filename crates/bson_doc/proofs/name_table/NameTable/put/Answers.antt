use Rattle.std.proofs.Common.{◌≡◌, ◌+◌, ◌++◌, ◌∷◌, [], ◌∙◌, ℕ, get_or, length, map, string_bytes, subst, sym, vec_len}
use Rattle.std.proofs.lemmas.List.{length_push}
use Rattle.bson_doc.specs.NameSlots.{HasNames, slot_of}
use Rattle.bson_doc.proofs.NameTables.{at_end, behind_them}
use Rattle.bson_doc.proofs.name_table.NameTable.put.Goals as goal

pub returns-clause-put : goal.returns-clause-put
returns-clause-put c = λ _.
    let ks = c.args.names.now in
    let k = c.args.name.now in
    let old = c.args.self.now in
    let new = c.put_at.new.self in
    let all = map string_bytes (ks ++ k ∷ []) in
    let slot : c.slot_of-slot.result ≡ slot_of (vec_len old.last) (get_or all (length ks) []) =
    c.slot_of-slot.ensures.slot ∙ (λ i. slot_of (c.len.ensures i) ((c.as_str.ensures.value ∙ sym (at_end ks k)) i)) in
    let put = c.put_at.ensures.put all (behind_them (vec_len old.last) old.last.items old.before.items ks k c.requires.has) slot in
    let sized : HasNames (vec_len new.last) new.last.items new.before.items (length ks + 1) all = subst (λ (n : ℕ). HasNames n new.last.items new.before.items (length ks + 1) all) (sym c.put_at.ensures.room) put in
    subst (λ (n : ℕ). HasNames (vec_len new.last) new.last.items new.before.items n all) (sym (length_push ks k)) sized
