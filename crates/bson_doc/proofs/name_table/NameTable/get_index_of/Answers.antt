use Rattle.std.proofs.Common.{◌≡◌, ◌-◌, ◌<◌, ◌∙◌, ℕ, arith, length, refl, subst, sym, true, vec_len}
use Rattle.std.specs.Str.{bytes_eq}
use Rattle.std.proofs.lemmas.Bool.{false≢true}
use Rattle.std.proofs.lemmas.List.{get_or_read}
use Rattle.std.proofs.lemmas.Slice.Eq.{bytes_eq-Decides}
use Rattle.bson_doc.specs.NameSlots.{slot_of}
use Rattle.bson_doc.proofs.NameLists.{found_at}
use Rattle.bson_doc.proofs.NameTables.{Rest, name_at, nowhere, walk_on}
use Rattle.bson_doc.proofs.name_table.NameTable.get_index_of.Goals as goal

pub returns-then-eq : goal.returns-then-eq
returns-then-eq c =
    let names = c.args.names.now in
    let i = c.loop-last.last - 1 in
    let short : i < length names = omega (arith, c.loop-last.invariant.within) in
    let read = name_at names i c.index-names-last.result short c.index-names-last.is in
    let same : c.as_str.result.now ≡ c.args.name.now = (bytes_eq-Decides c.as_str.result.now c.args.name.now).0 (sym c.eq.ensures ∙ c.if-eq.true) in
    sym (found_at c.args.name.now names i c.requires.distinct short (read ∙ sym c.as_str.ensures.value ∙ same))

pub loop-last-preserved : goal.loop-last-preserved
loop-last-preserved c =
    let s = c.args.self.now in
    let names = c.args.names.now in
    let q = c.args.name.now in
    let i = c.loop-last.last - 1 in
    let slots = vec_len s.last in
    let w = c.loop-last.invariant in
    let short : i < length names = omega (arith, w.within) in
    let read = name_at names i c.index-names-last.result short c.index-names-last.is in
    let next = c.index-last-in-loop-last.result.now in
    let there = get_or_read s.before.items i next (omega (arith, w.within, c.requires.has.room, s.as_many, s.before.ok.0, s.last.ok.0)) c.index-last-in-loop-last.ensures 0 in
    subst (λ (n : ℕ). Rest slots (slot_of slots q) names q n) (sym there)
    (walk_on slots (slot_of slots q) s.last.items s.before.items names q c.loop-last.last i c.requires.has refl w (omega arith)
    (λ e.
    let equal : bytes_eq c.as_str.result.now q ≡ true = (bytes_eq-Decides c.as_str.result.now q).1 (c.as_str.ensures.value ∙ sym read ∙ e) in
    false≢true (sym c.if-eq.false ∙ c.eq.ensures ∙ equal)))

pub returns : goal.returns
returns c =
    let slots = vec_len c.args.self.now.last in
    sym (nowhere slots (slot_of slots c.args.name.now) c.args.names.now c.args.name.now c.loop-last.last c.loop-last.invariant (omega arith))
