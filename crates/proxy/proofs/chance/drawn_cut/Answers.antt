use Rattle.std.proofs.Common.{arith}
use Rattle.std.proofs.lemmas.Bool.Decides.{nat_tests}
use Rattle.proxy.specs.declared.direction.Direction.TheVariants as directions
use Rattle.proxy.specs.Drawing.{words_of}
use Rattle.proxy.proofs.Drawn.{is_count, is_direction, is_first, is_second, is_third, is_words}
use Rattle.proxy.proofs.chance.drawn_cut.Goals as goal
use Rattle.proxy.proofs.chance.drawn_cut.Goals.{then-next_word-eq0, else-next_word-eq0}

pub returns-clause-direction : goal.returns-clause-direction
returns-clause-direction c =
    let is = is_words _ c.args.seed c.args.number c.new-words.ensures in
    let first = is_first c.new-words.result _ c.next_word.result c.next_word.new.self is c.next_word.ensures in
    elim c.if-next_word-eq0.branch [
      | then-next_word-eq0 w ↦ let even = w.if-next_word-eq0.true in is_direction _ c.next_word.result _ directions.There first w.direction-is (grind (arith, nat_tests))
      | else-next_word-eq0 w ↦ let odd = w.if-next_word-eq0.false in is_direction _ c.next_word.result _ directions.Back first w.direction-is (grind (arith, nat_tests))
    ]

pub returns-clause-count : goal.returns-clause-count
returns-clause-count c =
    let is = is_words _ c.args.seed c.args.number c.new-words.ensures in
    let one = c.next_word.ensures in
    let two = c.next_word-digits.ensures in
    is_count (words_of c.args.seed c.args.number) c.from-count.result c.next_word-digits.result c.next_word-2.result
    (is_second c.new-words.result _ c.next_word.new.self c.next_word-digits.new.self c.next_word.result c.next_word-digits.result is one two)
    (is_third c.new-words.result _ c.next_word.new.self c.next_word-digits.new.self c.next_word-2.new.self c.next_word.result c.next_word-digits.result c.next_word-2.result is one two c.next_word-2.ensures)
    c.from-count.ensures
