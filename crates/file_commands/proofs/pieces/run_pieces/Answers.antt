use Rattle.std.specs.Io.KnownBytes.{append_known}
use Rattle.file_commands.proofs.PieceLemmas.{from_empty, run_done, run_read, run_short, run_unread}
use Rattle.file_commands.proofs.pieces.run_pieces.Goals as goal

pub returns-clause-read : goal.returns-clause-read
returns-clause-read g c =
    let t = g.E.Walk.tells c.args.each.now in
    run_read t _ (g.R.Read.remaining c.write_pieces.new.reader) _ _ c.in-Ok-write_pieces.last.reader c.in-Ok-write_pieces.ending c.replace_with.result
    c.in-Ok-write_pieces.ensures.written c.replace_with.ensures.1 c.in-Ok-write_pieces.ensures.whole

pub returns-clause-written : goal.returns-clause-written
returns-clause-written g c =
    let t = g.E.Walk.tells c.args.each.now in
    let r = c.in-Ok-write_pieces.last.reader in
    let k = c.in-Ok-write_pieces.ending in
    let mid = append_known (g.W.Write.contents c.write_pieces.new.writer) c.in-Ok-write_pieces.last.text.items in
    let ended = from_empty t _ (g.R.Read.remaining c.write_pieces.new.reader) _ mid c.in-Ok.text.items r k c.in-Ok.ensures.items c.in-Ok-write_pieces.ensures.written in
    run_done t _ _ _ mid (g.W.Write.contents c.replace_with.new.dest) r k c.replace_with.result ended c.replace_with.ensures.0 c.replace_with.ensures.1 c.in-Ok-write_pieces.ensures.whole

pub returns-clause-unread : goal.returns-clause-unread
returns-clause-unread g c =
    let t = g.E.Walk.tells c.args.each.now in
    let r = c.in-Ok-write_pieces.last.reader in
    let k = c.in-Ok-write_pieces.ending in
    let mid = append_known (g.W.Write.contents c.write_pieces.new.writer) c.in-Ok-write_pieces.last.text.items in
    let ended = from_empty t _ (g.R.Read.remaining c.write_pieces.new.reader) _ mid c.in-Ok.text.items r k c.in-Ok.ensures.items c.in-Ok-write_pieces.ensures.written in
    run_unread t _ _ _ mid (g.W.Write.contents c.replace_with.new.dest) r k c.replace_with.result ended c.replace_with.ensures.0

pub returns-clause-memory : goal.returns-clause-memory
returns-clause-memory g c =
    let t = g.E.Walk.tells c.args.each.now in
    let r = c.in-Ok-write_pieces.last.reader in
    let k = c.in-Ok-write_pieces.ending in
    let mid = append_known (g.W.Write.contents c.write_pieces.new.writer) c.in-Ok-write_pieces.last.text.items in
    let ended = from_empty t _ (g.R.Read.remaining c.write_pieces.new.reader) _ mid c.in-Ok.text.items r k c.in-Ok.ensures.items c.in-Ok-write_pieces.ensures.written in
    run_short t _ _ _ mid (g.W.Write.contents c.replace_with.new.dest) r k c.replace_with.result ended c.replace_with.ensures.0
