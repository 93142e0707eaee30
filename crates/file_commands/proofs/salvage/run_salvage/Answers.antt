use Rattle.std.specs.Io.KnownBytes.{append_known}
use Rattle.file_commands.specs.SalvageWalk.{manner}
use Rattle.file_commands.proofs.SalvageLemmas.{salvage_read, salvage_short, salvage_unread, salvage_written, wrote_none, wrote_nothing}
use Rattle.file_commands.proofs.salvage.run_salvage.Goals as goal

pub returns-in_default-clause-memory : goal.returns-in_default-clause-memory
returns-in_default-clause-memory g c = λ _. wrote_none (manner (g.E.EachDocument.rule c.args.each) c.args.lines c.args.limit) (g.R.Read.remaining c.args.reader.now) (g.W.Write.contents c.args.writer.now)

pub returns-in_default-resize-clause-memory : goal.returns-in_default-resize-clause-memory
returns-in_default-resize-clause-memory g c = λ _. wrote_none (manner (g.E.EachDocument.rule c.args.each) c.args.lines c.args.limit) (g.R.Read.remaining c.args.reader.now) (g.W.Write.contents c.args.writer.now)

pub returns-clause-read : goal.returns-clause-read
returns-clause-read g c =
    let m = manner (g.E.EachDocument.rule c.args.each) c.args.lines c.args.limit in
    let old = g.W.Write.contents c.args.writer.now in
    let last = c.in-Ok-write_input.last in
    let none = wrote_nothing m c.new.result old c.in-Ok.text.items c.in-Ok.ensures.items c.new.ensures.fresh c.new.ensures.limit in
    let ends = c.in-Ok-write_input.ensures c.args.limit old c.new.ensures.settled none in
    salvage_read m last.0 c.replace_with.result (g.R.Read.remaining c.args.reader.now) (g.R.Read.remaining c.write_input.new.reader) old (append_known (g.W.Write.contents c.write_input.new.writer) last.1.text.items) (g.W.Write.contents c.replace_with.new.dest) ends c.replace_with.ensures

pub returns-clause-written : goal.returns-clause-written
returns-clause-written g c =
    let m = manner (g.E.EachDocument.rule c.args.each) c.args.lines c.args.limit in
    let old = g.W.Write.contents c.args.writer.now in
    let last = c.in-Ok-write_input.last in
    let none = wrote_nothing m c.new.result old c.in-Ok.text.items c.in-Ok.ensures.items c.new.ensures.fresh c.new.ensures.limit in
    let ends = c.in-Ok-write_input.ensures c.args.limit old c.new.ensures.settled none in
    salvage_written m last.0 c.replace_with.result (g.R.Read.remaining c.args.reader.now) (g.R.Read.remaining c.write_input.new.reader) old (append_known (g.W.Write.contents c.write_input.new.writer) last.1.text.items) (g.W.Write.contents c.replace_with.new.dest) ends c.replace_with.ensures

pub returns-clause-unread : goal.returns-clause-unread
returns-clause-unread g c =
    let m = manner (g.E.EachDocument.rule c.args.each) c.args.lines c.args.limit in
    let old = g.W.Write.contents c.args.writer.now in
    let last = c.in-Ok-write_input.last in
    let none = wrote_nothing m c.new.result old c.in-Ok.text.items c.in-Ok.ensures.items c.new.ensures.fresh c.new.ensures.limit in
    let ends = c.in-Ok-write_input.ensures c.args.limit old c.new.ensures.settled none in
    salvage_unread m last.0 c.replace_with.result (g.R.Read.remaining c.args.reader.now) (g.R.Read.remaining c.write_input.new.reader) old (append_known (g.W.Write.contents c.write_input.new.writer) last.1.text.items) (g.W.Write.contents c.replace_with.new.dest) ends c.replace_with.ensures

pub returns-clause-memory : goal.returns-clause-memory
returns-clause-memory g c =
    let m = manner (g.E.EachDocument.rule c.args.each) c.args.lines c.args.limit in
    let old = g.W.Write.contents c.args.writer.now in
    let last = c.in-Ok-write_input.last in
    let none = wrote_nothing m c.new.result old c.in-Ok.text.items c.in-Ok.ensures.items c.new.ensures.fresh c.new.ensures.limit in
    let ends = c.in-Ok-write_input.ensures c.args.limit old c.new.ensures.settled none in
    salvage_short m last.0 c.replace_with.result (g.R.Read.remaining c.args.reader.now) (g.R.Read.remaining c.write_input.new.reader) old (append_known (g.W.Write.contents c.write_input.new.writer) last.1.text.items) (g.W.Write.contents c.replace_with.new.dest) ends c.replace_with.ensures
