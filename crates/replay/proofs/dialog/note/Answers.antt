use Rattle.replay.proofs.dialog.note.Goals as goal

pub returns-clause-noted : goal.returns-clause-noted
returns-clause-noted c = rw (c.id_of.ensures, c.to_of.ensures, c.has_flag.ensures) at c.note.ensures.noted
