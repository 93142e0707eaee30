use Rattle.std.proofs.Common.{◌≡◌, ℕ, ◌+◌, ◌-◌, take, drop, ap, sym, ◌∙◌, arith, length-drop}
use Rattle.std.specs.List.{copy_within}
use Rattle.std.proofs.lemmas.List.{drop-take}
use Rattle.std.proofs.lemmas.List.Edits.{take-paste}
use Rattle.bson_stream.proofs.salvager.move_to_front.Goals as goal

pub returns-clause-moved : goal.returns-clause-moved
returns-clause-moved c =
    let at = c.args.at in
    let old = c.args.bytes.now in
    let n : ℕ = c.args.len - at in
    let bare : n ≡ 0 + n = omega arith in
    let end : at + n ≡ c.args.len = omega (arith, c.requires.behind) in
    ap (take n) c.copy_within.ensures.after ∙ ap (λ (k : ℕ). take k (copy_within old at c.args.len 0)) bare ∙ take-paste old 0 (drop at old) n (omega arith) (omega (arith, c.requires.within, length-drop at old))
    ∙ sym (drop-take at n old) ∙ ap (λ (k : ℕ). drop at (take k old)) end
