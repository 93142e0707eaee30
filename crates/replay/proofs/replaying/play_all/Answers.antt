use Rattle.std.proofs.Common.{subst, sym}
use Rattle.replay.specs.Counts.{HasTold}
use Rattle.replay.specs.declared.tally.Tally.{Tally}
use Rattle.replay.proofs.Counting.{told_both}
use Rattle.replay.proofs.replaying.play_all.Goals as goal

pub returns-clause-told : goal.returns-clause-told
returns-clause-told g c =
    subst (λ (t : Tally). HasTold c.args.teller.now.tally t) (sym c.finish-2.ensures.kept)
    (told_both _ _ _ c.in_ok-play.ensures.told (told_both _ _ _ c.in_ok-linger.ensures c.in_ok-finish.ensures))
