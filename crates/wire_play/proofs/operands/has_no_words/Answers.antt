use Rattle.wire_play.proofs.Behind.{no_word}
use Rattle.wire_play.proofs.operands.has_no_words.Goals as goal

pub returns : goal.returns
returns c = no_word c.args.rest c.is_none.result c.is_none.ensures
