use Rattle.std.proofs.Common.{◌∙◌, refl}
use Rattle.wire_play.proofs.Plays.{all_played, faulted, one_more, none_yet}
use Rattle.wire_play.proofs.playing.play_lines.Goals as goal

pub loop-line-init : goal.loop-line-init
loop-line-init g c = (tt, tt, refl, rw c.into_iter-line-iterator.ensures.into_iter_gives (none_yet _ _ _ _ _ _))

pub loop-line-preserved : goal.loop-line-preserved
loop-line-preserved g c =
    let i = c.loop-line.invariant in (
      tt,
      tt,
      c.in_ok-play_line.ensures.limits ∙ i.2,
      one_more _ _ _ _ _ _ _ _ _ _ _ _ _ _ c.in_ok-play_line.field-0 i.2 c.in-Some.ensures.steps c.if-not-branch.false i.3 c.in_ok-play_line.ensures.played,
    )

pub returns-then-not-branch-clause-played : goal.returns-then-not-branch-clause-played
returns-then-not-branch-clause-played g c =
    let i = c.loop-line.invariant in
    faulted _ _ _ _ _ _ _ _ _ _ _ _ _ _ c.in_ok-play_line.field-0 c.in-Some.ensures.steps c.if-not-branch.true i.3 c.in_ok-play_line.ensures.played

pub returns-clause-played : goal.returns-clause-played
returns-clause-played g c = all_played _ _ _ _ _ _ _ _ _ c.in-None.ensures.steps.0 c.loop-line.invariant.3
