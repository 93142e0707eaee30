use Rattle.std.proofs.Common.{◌≡◌, ◌⊎◌, None, Some, ap, subst, take, ◌++◌, ◌∙◌}
use Rattle.std.specs.Io.KnownBytes.{append_known}
use Rattle.command_run.specs.{IsCutShort}
use Rattle.file_commands.specs.declared.input_fault.InputFault.{InputFault}
use Rattle.file_commands.specs.declared.pieces.Ending.TheVariants.{Whole, Cut}
use Rattle.command_run.specs.declared.run.RunEnd.{RunEnd}
use Rattle.file_commands.specs.declared.walk.Stop.TheVariants as stop
use Rattle.file_commands.proofs.PieceLemmas.{begun, came, ends_cut, ends_gone, ends_short, ends_whole, walked}
use Rattle.file_commands.proofs.pieces.write_pieces.Goals as goal

pub loop-init : goal.loop-init
loop-init g c = (c.requires.room, begun _ _ _ c.args.between.reader c.requires.fresh)

pub returns-in-Ok-None-clause-written : goal.returns-in-Ok-None-clause-written
returns-in-Ok-None-clause-written g c =
    let b = c.loop.invariant.1 in
    let end = came _ _ c.read_piece.new.room c.in-Ok-None.field-0 None c.in-Ok-None.ensures.read c.in-Ok-None.field-0-is in
    ends_whole _ _ _ _ _ _ c.loop.between.reader c.fault_at_end-last.result b end (c.fault_at_end-last.ensures b.0 b.1 b.4)

pub returns-in-Err-clause-written : goal.returns-in-Err-clause-written
returns-in-Err-clause-written g c =
    ends_cut _ _ _ _ _ _ c.loop.between.reader c.in-Err.end c.loop.invariant.1 c.in-Err.ensures.unread c.in-Err.ensures.stopped

pub returns-in-Some-Fault-clause-written : goal.returns-in-Some-Fault-clause-written
returns-in-Some-Fault-clause-written g c =
    let t = g.E.Walk.tells c.args.each.now in
    let b = c.loop.invariant.1 in
    let room = c.read_piece.new.room in
    let piece = take c.in-Ok-Some.n room in
    let after = c.pass_piece-after.result.0.reader in
    let got = came _ _ room c.in-Ok-Some.field-0 (Some c.in-Ok-Some.n) c.in-Ok-Some.ensures.read c.in-Ok-Some.field-0-is in
    let known = append_known (g.W.Write.contents c.loop.writer) c.loop.between.text.items in
    let new = append_known (g.W.Write.contents c.pass_piece-after.new.writer) c.pass_piece-after.result.0.text.items in
    let walks = walked t after (b.0 ++ piece) b.1 c.pass_piece-after.result.1 c.in_ok-stop.field-0 (Some (stop.Fault c.in-Some-Fault.fault)) known new
    (c.pass_piece-after.ensures b.0 b.1 b.4) c.in_ok-stop.was (c.in-Some-Fault.is ∙ ap Some c.in-Some-Fault.field-0-is) in
    let gone = c.ending_at.ensures.read in
    let ending = subst (λ (f : InputFault). (c.ending_at.result ≡ Whole (Some f)) ⊎ ((end : RunEnd) × (c.ending_at.result ≡ Cut end) × IsCutShort end)) c.in-Some-Fault.fault-is c.ending_at.ensures.ending in
    ends_gone t _ _ _ _ _ known new c.loop.between.reader after piece gone.0 c.in-Some-Fault.fault c.ending_at.result b got walks gone.1 ending

pub returns-in-Some-OutOfMemory-clause-written : goal.returns-in-Some-OutOfMemory-clause-written
returns-in-Some-OutOfMemory-clause-written g c =
    let t = g.E.Walk.tells c.args.each.now in
    let b = c.loop.invariant.1 in
    let room = c.read_piece.new.room in
    let piece = take c.in-Ok-Some.n room in
    let after = c.pass_piece-after.result.0.reader in
    let got = came _ _ room c.in-Ok-Some.field-0 (Some c.in-Ok-Some.n) c.in-Ok-Some.ensures.read c.in-Ok-Some.field-0-is in
    let known = append_known (g.W.Write.contents c.loop.writer) c.loop.between.text.items in
    let new = append_known (g.W.Write.contents c.pass_piece-after.new.writer) c.pass_piece-after.result.0.text.items in
    let walks = walked t after (b.0 ++ piece) b.1 c.pass_piece-after.result.1 c.in_ok-stop.field-0 (Some stop.OutOfMemory) known new
    (c.pass_piece-after.ensures b.0 b.1 b.4) c.in_ok-stop.was (c.in-Some-OutOfMemory.is ∙ ap Some c.in-Some-OutOfMemory.field-0-is) in
    ends_short t _ _ _ _ known new c.loop.between.reader after piece b got walks
