use Rattle.bsonwire.proofs.ChoiceLemmas.{json_held, relaxed_held}
use Rattle.bsonwire.proofs.choice.form_of.Goals as goal

pub flag_of-requires : goal.flag_of-requires
flag_of-requires c = json_held c.requires.0 _ c.requires.1

pub mode_of-requires : goal.mode_of-requires
mode_of-requires c = relaxed_held c.requires.0 _ c.requires.1
