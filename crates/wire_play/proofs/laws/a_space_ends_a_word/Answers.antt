use Rattle.std.proofs.lemmas.List.Splits.{join_with_byte-slice_split}
use Rattle.wire_play.proofs.Parts.{word_ended, word_last}
use Rattle.wire_play.proofs.laws.a_space_ends_a_word.Goals as goal

pub returns-clause-ended : goal.returns-clause-ended
returns-clause-ended c = word_ended

pub returns-clause-last : goal.returns-clause-last
returns-clause-last c = word_last

pub returns-clause-joined : goal.returns-clause-joined
returns-clause-joined c = join_with_byte-slice_split 32
