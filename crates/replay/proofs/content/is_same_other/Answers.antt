use Rattle.replay.proofs.content.is_same_other.Goals as goal

pub returns-in-Other-clause-message : goal.returns-in-Other-clause-message
returns-in-Other-clause-message c = λ n spells within. absurd (c.in-Other.ensures.message n spells within)
