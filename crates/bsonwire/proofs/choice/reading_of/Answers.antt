use Rattle.bsonwire.proofs.ChoiceLemmas.{hex_held, salvage_held}
use Rattle.bsonwire.proofs.choice.reading_of.Goals as goal

pub flag_of-requires : goal.flag_of-requires
flag_of-requires c = salvage_held c.requires.0 _ c.requires.1

pub flag_of-requires-else-flag_of : goal.flag_of-requires-else-flag_of
flag_of-requires-else-flag_of c = hex_held c.requires.0 _ c.requires.1
