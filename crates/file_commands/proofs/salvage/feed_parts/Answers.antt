use Rattle.std.proofs.Common.{◌++◌, ap}
use Rattle.bson_stream.specs.{Salvaging}
use Rattle.file_commands.specs.SalvageWalk.{manner}
use Rattle.file_commands.proofs.SalvageLemmas.{first_before, wrote_by, wrote_fed}
use Rattle.file_commands.proofs.salvage.feed_parts.Goals as goal

pub returns-in_default : goal.returns-in_default
returns-in_default g c = λ limit bytes start w.
    first_before (manner (g.E.EachDocument.rule c.args.salvage.now.each) c.args.salvage.now.lines limit) c.args.ended bytes c.args.piece.now c.args.salvager.now c.args.before start _ w

pub returns : goal.returns
returns g c = λ limit bytes start w.
    let m = manner (g.E.EachDocument.rule c.args.salvage.now.each) c.args.salvage.now.lines limit in
    c.write_parts.ensures limit (bytes ++ c.args.piece.now) start
    (wrote_by m c.args.ended (bytes ++ c.args.piece.now) c.feed.new.self c.args.before start _
    (wrote_fed m bytes c.args.piece.now c.args.salvager.now c.feed.new.self c.args.before start _ (λ ps so. c.in-Ok.ensures.fed bytes ps so) (ap (λ (s : Salvaging). s.limit) c.in-Ok.ensures.held) w))
