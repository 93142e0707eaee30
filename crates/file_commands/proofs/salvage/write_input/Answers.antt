use Rattle.std.proofs.Common.{◌++◌, ◌<◌, [], ℕ, None, Ok, Some, ap, false, refl, subst, sym, take, true}
use Rattle.file_commands.specs.SalvageWalk.{manner}
use Rattle.file_commands.proofs.PieceLemmas.{came}
use Rattle.file_commands.proofs.SalvageLemmas.{begun, came_of, ends_cut, ends_refused, ends_whole, goes_on}
use Rattle.file_commands.proofs.salvage.write_input.Goals as goal

pub loop-init : goal.loop-init
loop-init g c = (c.requires, (λ limit start settled w. begun (manner (g.E.EachDocument.rule c.args.salvage.now.each) c.args.salvage.now.lines limit) _ c.args.between.salvager c.args.between.fault start _ settled w))

pub returns-in-Ok-None : goal.returns-in-Ok-None
returns-in-Ok-None g c = λ limit start settled w.
    let m = manner (g.E.EachDocument.rule c.args.salvage.now.each) c.args.salvage.now.lines limit in
    let b = c.loop.invariant.1 limit start settled w in
    let after = c.pass_piece-after.result.0 in
    let end = came _ _ c.read_piece.new.room c.in-Ok-None.field-0 None c.in-Ok-None.ensures.read c.in-Ok-None.field-0-is in
    let passed = came_of m true (b.0 ++ []) after.salvager after.fault c.pass_piece-after.result.1 c.in_ok-whole-in-Ok-None.field-0 _ start _ (c.pass_piece-after.ensures limit b.0 start b.2) c.in_ok-whole-in-Ok-None.was refl in
    ends_whole m _ _ _ c.loop.between.salvager after.salvager c.loop.between.fault after.fault c.in_ok-whole-in-Ok-None.field-0 c.end_of_parts.result start _ _ b end (c.in-Ok-None.ensures.ended (ap Ok c.in-Ok-None.field-0-is)) passed c.end_of_parts.ensures

pub returns-in-Err : goal.returns-in-Err
returns-in-Err g c = λ limit start settled w.
    ends_cut (manner (g.E.EachDocument.rule c.args.salvage.now.each) c.args.salvage.now.lines limit) _ _ _ c.loop.between.salvager c.loop.between.fault c.in-Err.end start _ (c.loop.invariant.1 limit start settled w) c.in-Err.ensures.unread c.in-Err.ensures.stopped

pub returns-then-not-branch : goal.returns-then-not-branch
returns-then-not-branch g c = λ limit start settled w.
    let m = manner (g.E.EachDocument.rule c.args.salvage.now.each) c.args.salvage.now.lines limit in
    let b = c.loop.invariant.1 limit start settled w in
    let room = c.read_piece.new.room in
    let piece = take c.in-Ok-Some.n room in
    let after = c.pass_piece-after-in-loop.result.0 in
    let got = came _ _ room c.in-Ok-Some.field-0 (Some c.in-Ok-Some.n) c.in-Ok-Some.ensures.read c.in-Ok-Some.field-0-is in
    let passed = came_of m false (b.0 ++ piece) after.salvager after.fault c.pass_piece-after-in-loop.result.1 c.in_ok-whole.field-0 false start _ (c.pass_piece-after-in-loop.ensures limit b.0 start b.2) c.in_ok-whole.was c.if-not-branch.true in
    ends_refused m _ _ _ c.loop.between.salvager after.salvager c.loop.between.fault after.fault start _ _ piece b got passed

pub loop-preserved : goal.loop-preserved
loop-preserved g c = (
  subst (λ (n : ℕ). 0 < n) (sym c.read_piece.ensures.size) c.loop.invariant.0,
  (λ limit start settled w.
      let m = manner (g.E.EachDocument.rule c.args.salvage.now.each) c.args.salvage.now.lines limit in
      let b = c.loop.invariant.1 limit start settled w in
      let room = c.read_piece.new.room in
      let piece = take c.in-Ok-Some.n room in
      let after = c.pass_piece-after-in-loop.result.0 in
      let got = came _ _ room c.in-Ok-Some.field-0 (Some c.in-Ok-Some.n) c.in-Ok-Some.ensures.read c.in-Ok-Some.field-0-is in
      let passed = came_of m false (b.0 ++ piece) after.salvager after.fault c.pass_piece-after-in-loop.result.1 c.in_ok-whole.field-0 true start _ (c.pass_piece-after-in-loop.ensures limit b.0 start b.2) c.in_ok-whole.was c.if-not-branch.false in
      goes_on m _ _ _ c.loop.between.salvager after.salvager c.loop.between.fault after.fault start _ _ piece b got passed),
)
