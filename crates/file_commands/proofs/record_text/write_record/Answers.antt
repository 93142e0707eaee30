use Rattle.file_commands.proofs.record_text.write_record.Goals as goal

pub returns-in-Text : goal.returns-in-Text
returns-in-Text g c = rw (c.in-Text.is) c.write_record_lines.ensures
