use Rattle.std.proofs.Common.{sym}
use Rattle.wire_play.proofs.Behind.{not_one}
use Rattle.wire_play.specs.Reading.{words_behind}
use Rattle.wire_play.proofs.operands.one_word.Goals as goal

pub returns-then-is_some-clause-only : goal.returns-then-is_some-clause-only
returns-then-is_some-clause-only c = not_one (words_behind c.args.rest) c.in_ok-word.word.now c.in_ok-word.rest c.in_ok-word.ensures (sym c.if-is_some.ensures)
