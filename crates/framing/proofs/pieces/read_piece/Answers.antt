use Rattle.std.proofs.Common.{◌≡◌, ◌≤◌, ◌<◌, ◌+◌, ◌-◌, ◌∙◌, [], ap, arith, drop, length, take}
use Rattle.framing.specs.Gathering.{held_open}
use Rattle.framing.specs.Items.{IsRefused}
use Rattle.framing.specs.Readers.{Reading}
use Rattle.framing.proofs.Cuttings.{Fed, fed_size, holds_nothing, moved_out, no_more, no_rest, progress, smaller, tail_size, taken_on}
use Rattle.framing.proofs.ItemLaws.{wants_not_refused}
use Rattle.framing.proofs.pieces.read_piece.Given.{Over}
use Rattle.framing.proofs.pieces.read_piece.Goals as goal
use Rattle.framing.proofs.pieces.read_piece.Goals.{In_ok-taken}

-- the items are still framed alike
alike : (g : Over) (c : In_ok-taken g) → c.feed.new.self.framing ≡ c.args.reader.now.framing
alike g c = c.in_ok-taken.ensures.framing ∙ c.loop-taken.invariant.framing

-- what the reader took of the rest of the piece
fed : (g : Over) (c : In_ok-taken g) → Fed (g.F.Framing.rule c.args.reader.now.framing) c.loop-taken.reader.held (take (length c.args.piece.now - c.loop-taken.taken) (drop c.loop-taken.taken c.args.piece.now)) c.feed.new.self.held c.in_ok-taken.field-0
fed g c = rw (← c.loop-taken.invariant.framing) (record {
  within = c.in_ok-taken.ensures.held.0;
  held = c.in_ok-taken.ensures.held.1;
  wanted = c.in_ok-taken.ensures.wanted;
  refused = c.in_ok-taken.ensures.refused;
})

-- no more than the piece has
within : (g : Over) (c : In_ok-taken g) → c.loop-taken.taken + c.in_ok-taken.field-0 ≤ length c.args.piece.now
within g c = omega (arith, c.loop-taken.invariant.within, (fed g c).within, tail_size c.loop-taken.taken c.args.piece.now)

pub loop-taken-preserved-in-Whole : goal.loop-taken-preserved-in-Whole
loop-taken-preserved-in-Whole g c =
    let i = (goal.at.loop-taken-preserved-in-Whole g c).In_ok-taken in
    let whole = rw (alike g i) at c.in-Whole.ensures in
    let behind = c.release.ensures in
    let none : c.release.new.self.held ≡ [] = ap (λ (r : Reading g.row.F.Denot). r.held) behind in
    record {
      framing = ap (λ (r : Reading g.row.F.Denot). r.framing) behind ∙ alike g i;
      within = within g i;
      held_is = holds_nothing _ _ (g.met.F.Framing.sound c.args.reader.now.framing) none;
      gathered = λ bytes h. moved_out _ _ _ _ _ _ _ _ (rw c.in_ok-copy-in-Whole.ensures at c.in_ok-push-in-Whole.ensures.items) (no_rest _ _ _ _ _ _ _ (g.met.F.Framing.sound c.args.reader.now.framing) c.loop-taken.invariant.held_is (fed g i) whole) none whole (taken_on _ _ _ _ _ _ _ _ (fed g i).held (c.loop-taken.invariant.gathered bytes h));
    }

pub returns-then-taken-piece-clause-gathers : goal.returns-then-taken-piece-clause-gathers
returns-then-taken-piece-clause-gathers g c =
    let i = (goal.at.returns-then-taken-piece-clause-gathers g c).In_ok-taken in
    record {
      within = within g i;
      gathered = λ bytes h. taken_on _ _ _ _ _ _ _ _ (fed g i).held (c.loop-taken.invariant.gathered bytes h);
      held_is = held_open _ (rw (alike g i) at c.in-Open.ensures);
      all = λ n o. c.if-taken-piece.true;
    }

pub loop-taken-smaller : goal.loop-taken-smaller
loop-taken-smaller g c =
    let i = (goal.at.loop-taken-smaller g c).In_ok-taken in
    let some : 0 < c.in_ok-taken.field-0 = progress _ _ _ _ _ _ c.loop-taken.invariant.held_is (fed g i) (rw (alike g i) at c.in-Open.ensures) (omega (arith, within g i, c.if-taken-piece.false, tail_size c.loop-taken.taken c.args.piece.now)) in
    smaller _ _ _ _ _ some (within g i) (fed_size _ _ _ _ _ (fed g i))

pub loop-taken-preserved : goal.loop-taken-preserved
loop-taken-preserved g c =
    let i = (goal.at.loop-taken-preserved g c).In_ok-taken in
    record {
      framing = alike g i;
      within = within g i;
      held_is = held_open _ (rw (alike g i) at c.in-Open.ensures);
      gathered = λ bytes h. taken_on _ _ _ _ _ _ _ _ (fed g i).held (c.loop-taken.invariant.gathered bytes h);
    }

pub returns-in-Bad-clause-gathers : goal.returns-in-Bad-clause-gathers
returns-in-Bad-clause-gathers g c =
    let i = (goal.at.returns-in-Bad-clause-gathers g c).In_ok-taken in
    let refused : IsRefused (g.F.Framing.rule c.args.reader.now.framing) c.feed.new.self.held c.in-Bad.field-0 = rw (alike g i) at c.in-Bad.ensures in
    record {
      within = within g i;
      gathered = λ bytes h. taken_on _ _ _ _ _ _ _ _ (fed g i).held (c.loop-taken.invariant.gathered bytes h);
      held_is = no_more _ _ _ _ _ _ (g.met.F.Framing.sound c.args.reader.now.framing) c.loop-taken.invariant.held_is (fed g i) refused;
      all = λ n o. absurd (wants_not_refused (g.F.Framing.rule c.args.reader.now.framing) c.feed.new.self.held n c.in-Bad.field-0 o refused);
    }
