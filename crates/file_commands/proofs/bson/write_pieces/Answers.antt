use Rattle.std.proofs.Common.{◌≡◌, ◌∙◌, ◌+◌, ◌≤◌, ◌++◌, false, ℕ, Option, Ok, take, length, sym, subst, ap, arith, length-append, length-take-le}
use Rattle.std.specs.Io.KnownBytes.{Consumes, IsAtEnd}
use Rattle.std.proofs.lemmas.Result.{err_from_is_err_and}
use Rattle.std.proofs.KnownBytes.{Consumes-kept, Consumes-trans}
use Rattle.bson_json_read.specs.{Held}
use Rattle.file_commands.specs.declared.bson.TextStop.{TextStop}
use Rattle.file_commands.specs.declared.texts.Passed.{Passed}
use Rattle.file_commands.specs.declared.texts.Passed.TheVariants.{Over, Wanted}
use Rattle.file_commands.specs.TextPieces.{IsPassed}
use Rattle.file_commands.proofs.PieceLemmas.{where_ok}
use Rattle.file_commands.proofs.TextPieceLemmas.{Stopped, all_written, came_behind, fed, first_written, given_or, none_of, over, short_behind, told_ok, unread_behind}
use Rattle.file_commands.proofs.bson.write_pieces.Goals as goal

pub returns-in-Err-clause-unread : goal.returns-in-Err-clause-unread
returns-in-Err-clause-unread g c = λ same.
    let b = c.loop.invariant.4 in
    (b.0, Consumes-kept _ _ _ b.0 b.1 c.in-Err.ensures.unread, all_written b.0 _ _ _ _ b.2 b.3)

pub returns-in-Err-clause-memory : goal.returns-in-Err-clause-memory
returns-in-Err-clause-memory g c = λ same.
    let b = c.loop.invariant.4 in
    first_written false b.0 _ _ _ _ _ _ b.2 b.1 (λ no. absurd cc)

pub returns-in_default-clause-memory : goal.returns-in_default-clause-memory
returns-in_default-clause-memory g c = λ same.
    let b = c.loop.invariant.4 in
    first_written false b.0 _ _ _ _ _ _ b.2 b.1 (λ no. absurd cc)

-- a piece that isn't there is the end of the input
pub end_behind-requires-clause-ended : goal.end_behind-requires-clause-ended
end_behind-requires-clause-ended g c = λ is. c.in-Ok.ensures.ended (ap Ok (none_of c.in-Ok.read c.is_none-last.result c.is_none-last.ensures is))

pub returns-in-Over-clause-ok : goal.returns-in-Over-clause-ok
returns-in-Over-clause-ok g c =
    let b = c.loop.invariant.4 in
    let last = c.is_none-last.result in
    let room = c.read_piece.new.room in
    let piece = take c.unwrap_or-n.result room in
    let from = g.R.Read.remaining c.args.reader.now in
    let mid = g.R.Read.remaining c.loop.reader in
    let to = g.R.Read.remaining c.read_piece.new.reader in
    let old = g.W.Write.contents c.args.writer.now in
    let known = g.W.Write.contents c.loop.writer in
    let new = g.W.Write.contents c.write_held-after.new.writer in
    let after = c.write_held-after.result.0.texts in
    let came : Consumes mid to piece = subst (λ (k : ℕ). Consumes mid to (take k room)) (given_or c.in-Ok.read ∙ sym c.unwrap_or-n.ensures) c.in-Ok.ensures.read in
    let all = Consumes-trans from mid to b.0 piece b.1 came in
    let held = fed last from mid old known c.loop.between.texts.count c.loop.between.texts.reader c.feed.new.self piece b c.in-Ok-feed.ensures.fed in
    let passed = told_ok (λ (p : Passed). IsPassed last (b.0 ++ piece) p after.count after.reader old new) c.write_held-after.result.1 c.in_ok-passed.field-0 (Over c.in-Over.stop) (c.write_held-after.ensures.ok (b.0 ++ piece) old held) c.in_ok-passed.was c.in-Over.is in
    let end = g.R.Read.remaining c.end_behind.new.reader in
    let stop = c.in-Over.stop in
    let gone = c.end_behind.ensures.read in
    let whole = over last (b.0 ++ piece) gone.0 stop after.count after.reader from to end old new passed all gone.1 gone.2 in
    where_ok c.end_behind.result (λ (s : Option TextStop). (s ≡ stop) × IsAtEnd end) (Stopped from end old new) (λ s e. subst (Stopped from end old new) (sym e.0) whole) c.end_behind.ensures.ok

pub returns-in-Over-clause-unread : goal.returns-in-Over-clause-unread
returns-in-Over-clause-unread g c = λ same.
    let b = c.loop.invariant.4 in
    let last = c.is_none-last.result in
    let room = c.read_piece.new.room in
    let piece = take c.unwrap_or-n.result room in
    let from = g.R.Read.remaining c.args.reader.now in
    let mid = g.R.Read.remaining c.loop.reader in
    let to = g.R.Read.remaining c.read_piece.new.reader in
    let old = g.W.Write.contents c.args.writer.now in
    let known = g.W.Write.contents c.loop.writer in
    let new = g.W.Write.contents c.write_held-after.new.writer in
    let after = c.write_held-after.result.0.texts in
    let came : Consumes mid to piece = subst (λ (k : ℕ). Consumes mid to (take k room)) (given_or c.in-Ok.read ∙ sym c.unwrap_or-n.ensures) c.in-Ok.ensures.read in
    let all = Consumes-trans from mid to b.0 piece b.1 came in
    let held = fed last from mid old known c.loop.between.texts.count c.loop.between.texts.reader c.feed.new.self piece b c.in-Ok-feed.ensures.fed in
    let passed = told_ok (λ (p : Passed). IsPassed last (b.0 ++ piece) p after.count after.reader old new) c.write_held-after.result.1 c.in_ok-passed.field-0 (Over c.in-Over.stop) (c.write_held-after.ensures.ok (b.0 ++ piece) old held) c.in_ok-passed.was c.in-Over.is in
    let end = g.R.Read.remaining c.end_behind.new.reader in
    let stop = c.in-Over.stop in
    let gone = c.end_behind.ensures.read in
    unread_behind last (b.0 ++ piece) gone.0 stop after.count after.reader from to end old new passed (rw same at c.end_behind.ensures.stopped).1 all gone.1

pub returns-in-Over-clause-memory : goal.returns-in-Over-clause-memory
returns-in-Over-clause-memory g c = λ same.
    let b = c.loop.invariant.4 in
    let last = c.is_none-last.result in
    let room = c.read_piece.new.room in
    let piece = take c.unwrap_or-n.result room in
    let from = g.R.Read.remaining c.args.reader.now in
    let mid = g.R.Read.remaining c.loop.reader in
    let to = g.R.Read.remaining c.read_piece.new.reader in
    let old = g.W.Write.contents c.args.writer.now in
    let known = g.W.Write.contents c.loop.writer in
    let new = g.W.Write.contents c.write_held-after.new.writer in
    let after = c.write_held-after.result.0.texts in
    let came : Consumes mid to piece = subst (λ (k : ℕ). Consumes mid to (take k room)) (given_or c.in-Ok.read ∙ sym c.unwrap_or-n.ensures) c.in-Ok.ensures.read in
    let all = Consumes-trans from mid to b.0 piece b.1 came in
    let held = fed last from mid old known c.loop.between.texts.count c.loop.between.texts.reader c.feed.new.self piece b c.in-Ok-feed.ensures.fed in
    let passed = told_ok (λ (p : Passed). IsPassed last (b.0 ++ piece) p after.count after.reader old new) c.write_held-after.result.1 c.in_ok-passed.field-0 (Over c.in-Over.stop) (c.write_held-after.ensures.ok (b.0 ++ piece) old held) c.in_ok-passed.was c.in-Over.is in
    let stop = c.in-Over.stop in
    short_behind last (b.0 ++ piece) stop after.count after.reader from to old new passed (rw same at c.end_behind.ensures.stopped).1 all

pub returns-in_err-passed-clause-memory : goal.returns-in_err-passed-clause-memory
returns-in_err-passed-clause-memory g c = λ same.
    let b = c.loop.invariant.4 in
    let last = c.is_none-last.result in
    let room = c.read_piece.new.room in
    let piece = take c.unwrap_or-n.result room in
    let from = g.R.Read.remaining c.args.reader.now in
    let mid = g.R.Read.remaining c.loop.reader in
    let to = g.R.Read.remaining c.read_piece.new.reader in
    let old = g.W.Write.contents c.args.writer.now in
    let known = g.W.Write.contents c.loop.writer in
    let new = g.W.Write.contents c.write_held-after.new.writer in
    let after = c.write_held-after.result.0.texts in
    let came : Consumes mid to piece = subst (λ (k : ℕ). Consumes mid to (take k room)) (given_or c.in-Ok.read ∙ sym c.unwrap_or-n.ensures) c.in-Ok.ensures.read in
    let all = Consumes-trans from mid to b.0 piece b.1 came in
    let held = fed last from mid old known c.loop.between.texts.count c.loop.between.texts.reader c.feed.new.self piece b c.in-Ok-feed.ensures.fed in
    let told = err_from_is_err_and c.from_residual.result c.from_residual.ensures.1 in
    let is = told.1 in
    let end = told.2 in
    let was = c.in_err-passed.was in
    let read = c.write_held-after.ensures.memory (b.0 ++ piece) old held cc in
    first_written last (b.0 ++ piece) after.count after.reader from to old new read all (λ is. c.in-Ok.ensures.ended (ap Ok (none_of c.in-Ok.read last c.is_none-last.ensures is)))

pub loop-preserved : goal.loop-preserved
loop-preserved g c =
    let b = c.loop.invariant.4 in
    let last = c.is_none-last.result in
    let room = c.read_piece.new.room in
    let piece = take c.unwrap_or-n.result room in
    let from = g.R.Read.remaining c.args.reader.now in
    let mid = g.R.Read.remaining c.loop.reader in
    let to = g.R.Read.remaining c.read_piece.new.reader in
    let old = g.W.Write.contents c.args.writer.now in
    let known = g.W.Write.contents c.loop.writer in
    let new = g.W.Write.contents c.write_held-after.new.writer in
    let after = c.write_held-after.result.0.texts in
    let came : Consumes mid to piece = subst (λ (k : ℕ). Consumes mid to (take k room)) (given_or c.in-Ok.read ∙ sym c.unwrap_or-n.ensures) c.in-Ok.ensures.read in
    let all = Consumes-trans from mid to b.0 piece b.1 came in
    let held = fed last from mid old known c.loop.between.texts.count c.loop.between.texts.reader c.feed.new.self piece b c.in-Ok-feed.ensures.fed in
    let passed = told_ok (λ (p : Passed). IsPassed last (b.0 ++ piece) p after.count after.reader old new) c.write_held-after.result.1 c.in_ok-passed.field-0 Wanted (c.write_held-after.ensures.ok (b.0 ++ piece) old held) c.in_ok-passed.was c.in-Wanted.is in
    let size = c.in-Ok.ensures.size in
    let within = subst (λ (k : ℕ). k ≤ length room) (given_or c.in-Ok.read ∙ sym c.unwrap_or-n.ensures) c.in-Ok.ensures.within in
    let fed_len : length c.feed.new.self.bytes ≡ length c.loop.between.texts.reader.bytes + c.unwrap_or-n.result =
    ap (λ (h : Held). length h.bytes) c.in-Ok-feed.ensures.fed ∙ length-append c.loop.between.texts.reader.bytes piece ∙ ap (λ (k : ℕ). length c.loop.between.texts.reader.bytes + k) (length-take-le c.unwrap_or-n.result room within) in (
      omega (arith, c.loop.invariant.0, size),
      omega (arith, c.loop.invariant.1, size),
      (rw c.in_ok-passed.was at c.write_held-after.ensures.empty),
      omega (arith, c.loop.invariant.3, c.write_held-after.ensures.fewer, fed_len),
      came_behind last (b.0 ++ piece) after.count after.reader from to old new passed all,
    )
