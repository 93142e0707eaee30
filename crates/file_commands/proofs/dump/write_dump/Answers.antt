use Rattle.file_commands.proofs.dump.write_dump.Goals as goal

pub returns-then-offsets : goal.returns-then-offsets
returns-then-offsets g c = λ t s. rw (c.if-offsets.true) (c.dump_with_offsets.ensures t s)

pub returns : goal.returns
returns g c = λ t s. rw (c.if-offsets.false) (c.dump_to.ensures t s)
