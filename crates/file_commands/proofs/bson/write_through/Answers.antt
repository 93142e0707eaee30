use Rattle.std.proofs.Common.{sym}
use Rattle.command_run.specs.{buffered_contents}
use Rattle.file_commands.proofs.TextPieceLemmas.{flushed_empty, flushed_memory, flushed_ok, read_kept}
use Rattle.file_commands.proofs.bson.write_through.Goals as goal

pub returns-clause-empty : goal.returns-clause-empty
returns-clause-empty g c = flushed_empty _ _ _ (rw (sym c.into_parts-writer.ensures.waiting) at c.flush_behind-passed.ensures.same)

pub returns-clause-ok : goal.returns-clause-ok
returns-clause-ok g c = λ read start r.
    let texts = c.write_documents-passed.new.self in
    let begun = read_kept _ read _ _ start _ _ r (c.new-out.ensures.empty c.requires.empty) in
    flushed_ok c.args.job.last read _ _ texts.count texts.reader c.into_parts-writer.result.1.items start (buffered_contents g.W.Write.contents c.write_documents-passed.new.out) (buffered_contents g.W.Write.contents c.flush_behind-passed.new.out) (g.W.Write.contents c.into_parts-writer.result.0) (rw (sym c.into_parts-writer.ensures.waiting) at c.flush_behind-passed.ensures.same)
    c.flush_behind-passed.ensures.bytes c.into_parts-writer.ensures.contents (c.write_documents-passed.ensures.ok read start begun)

pub returns-clause-memory : goal.returns-clause-memory
returns-clause-memory g c = λ read start r.
    let texts = c.write_documents-passed.new.self in
    let begun = read_kept _ read _ _ start _ _ r (c.new-out.ensures.empty c.requires.empty) in
    flushed_memory c.args.job.last read _ _ texts.count texts.reader c.into_parts-writer.result.1.items start (buffered_contents g.W.Write.contents c.write_documents-passed.new.out) (buffered_contents g.W.Write.contents c.flush_behind-passed.new.out) (g.W.Write.contents c.into_parts-writer.result.0) (rw (sym c.into_parts-writer.ensures.waiting) at c.flush_behind-passed.ensures.same)
    c.flush_behind-passed.ensures.bytes c.into_parts-writer.ensures.contents (c.write_documents-passed.ensures.memory read start begun)
