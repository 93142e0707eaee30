use Rattle.std.proofs.Common.{OnOk, refl, subst, sym}
use Rattle.replay.specs.Counts.{IsCounted}
use Rattle.replay.specs.Notes.{IsNoted}
use Rattle.replay.specs.declared.finding.Finding.{Finding}
use Rattle.replay.proofs.Replies.{counted}
use Rattle.replay.proofs.Noting.{noted_as}
use Rattle.replay.proofs.teller.Teller.tell.Goals as goal

pub returns-in-Compare-clause-counted : goal.returns-in-Compare-clause-counted
returns-in-Compare-clause-counted g c =
    subst (λ (f : Finding). OnOk c.compare_carried.result (IsCounted f c.args.self.now.tally c.compare_carried.new.self.tally)) (sym c.in-Compare.is) c.compare_carried.ensures.one

pub returns-in-Compare-clause-noted : goal.returns-in-Compare-clause-noted
returns-in-Compare-clause-noted g c =
    subst (λ (f : Finding). OnOk c.compare_carried.result (IsNoted f c.args.cursors.now.list.items c.compare_carried.new.cursors.list.items)) (sym c.in-Compare.is)
    (noted_as c.compare_carried.result _ _ c.deref.result.now c.deref-in-Compare.result.now _ _ c.deref.ensures.value c.deref-in-Compare.ensures.value c.compare_carried.ensures.noted)

pub returns-in-Missing-clause-noted : goal.returns-in-Missing-clause-noted
returns-in-Missing-clause-noted g c =
    counted c.tell_missing.result (subst (λ (f : Finding). IsNoted f c.args.cursors.now.list.items c.args.cursors.now.list.items) (sym c.in-Missing.is) refl)

pub returns-in-Late-clause-noted : goal.returns-in-Late-clause-noted
returns-in-Late-clause-noted g c =
    counted c.tell_late.result (subst (λ (f : Finding). IsNoted f c.args.cursors.now.list.items c.args.cursors.now.list.items) (sym c.in-Late.is) refl)

pub returns-in-Unexpected-clause-noted : goal.returns-in-Unexpected-clause-noted
returns-in-Unexpected-clause-noted g c =
    counted c.tell_unexpected.result (subst (λ (f : Finding). IsNoted f c.args.cursors.now.list.items c.args.cursors.now.list.items) (sym c.in-Unexpected.is) refl)

pub returns-in-Failed-clause-noted : goal.returns-in-Failed-clause-noted
returns-in-Failed-clause-noted g c =
    counted c.tell_failed.result (subst (λ (f : Finding). IsNoted f c.args.cursors.now.list.items c.args.cursors.now.list.items) (sym c.in-Failed.is) refl)
