use Rattle.std.proofs.Common.{◌+◌, ◌∙◌, ◌∷◌, List, ℕ, ap, sym, take}
use Rattle.std.proofs.lemmas.List.{take_rest}
use Rattle.script_lines.proofs.Lemmas.{cut_at, uncut}
use Rattle.wire_play.specs.Words.{words_of}
use Rattle.wire_play.proofs.cut.cut_word.Goals as goal

pub returns-in-Some : goal.returns-in-Some
returns-in-Some c =
    let at = c.in-Some.at in
    let line = c.args.line.now in
    cut_at 32 line at c.in-Some.ensures ∙ ap (λ (rest : List ℕ). take at line ∷ words_of rest) (sym (take_rest line (at + 1)))

pub returns-in-None : goal.returns-in-None
returns-in-None c = uncut 32 c.args.line.now c.in-None.ensures
