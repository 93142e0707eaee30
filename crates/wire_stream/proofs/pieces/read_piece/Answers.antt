use Rattle.std.proofs.Common.{◌≡◌, ◌-◌, ◌∙◌, [], ap, arith, drop, length, subst, take, ℕ}
use Rattle.wire_msg.specs.Standing.{in_header}
use Rattle.wire_msg.specs.{IsMessage}
use Rattle.wire_stream.specs.Readers.{Feeds, Reading}
use Rattle.wire_stream.proofs.Cuttings.{false_not_true, fed_at, moved_out, none_for_list, none_for_message, smaller, still_within, stops, taken_on}
use Rattle.wire_stream.proofs.Readings.{on_err}
use Rattle.wire_stream.proofs.pieces.read_piece.Goals as goal
use Rattle.wire_stream.proofs.pieces.read_piece.Goals.{In_ok-fed}

fed : (c : In_ok-fed) → Feeds c.args.reader.now.limit c.loop-fed.reader.held (take (length c.args.piece.now - c.loop-fed.taken) (drop c.loop-fed.taken c.args.piece.now)) c.feed.new.self.held c.in_ok-fed.fed
fed c = fed_at _ _ _ _ _ _ c.loop-fed.invariant.limit c.loop-fed.invariant.wants c.in_ok-fed.ensures.fed

limit : (c : In_ok-fed) → c.feed.new.self.limit ≡ c.args.reader.now.limit
limit c = c.in_ok-fed.ensures.limit ∙ c.loop-fed.invariant.limit

pub returns-in_default-clause-gathers : goal.returns-in_default-clause-gathers
returns-in_default-clause-gathers c =
    let i = (goal.at.returns-in_default-clause-gathers c).In_ok-fed in
    rw c.in_default.ensures.none (stops _ _ _ _ _ _ _ _ _ c.loop-fed.invariant.taken c.loop-fed.invariant.gathered (fed i) (λ m. false_not_true ((rw (limit i) at c.in_default.ensures.ready) m)))

pub returns-in_err-fed-clause-refused : goal.returns-in_err-fed-clause-refused
returns-in_err-fed-clause-refused c =
    on_err c.from_residual.result _ (λ bytes g. none_for_message _ _ _ _ _ _ _ c.loop-fed.invariant.limit (c.loop-fed.invariant.gathered bytes g) c.in_err-fed.ensures.refused)

pub returns-in_default-push-clause-refused : goal.returns-in_default-push-clause-refused
returns-in_default-push-clause-refused c =
    let i = (goal.at.returns-in_default-push-clause-refused c).In_ok-fed in
    let m = c.in-Some.ensures.some in
    λ bytes g.
    none_for_list _ _ _ c.in-Some.message _ _ _ (taken_on _ _ _ _ _ _ _ _ (fed i).held (c.loop-fed.invariant.gathered bytes g)) m.0 (subst (λ (x : ℕ). IsMessage x c.in-Some.message) (limit i) m.1)

pub loop-fed-smaller : goal.loop-fed-smaller
loop-fed-smaller c =
    let m = c.in-Some.ensures.some in
    smaller _ _ _ _ _ _ _ _ c.loop-fed.invariant.taken (fed (goal.at.loop-fed-smaller c).In_ok-fed) m.0 m.1.1 (ap (λ (r : Reading). r.held) m.2)

pub loop-fed-preserved : goal.loop-fed-preserved
loop-fed-preserved c =
    let i = (goal.at.loop-fed-preserved c).In_ok-fed in
    let m = c.in-Some.ensures.some in
    let none : c.take.new.self.held ≡ [] = ap (λ (r : Reading). r.held) m.2 in
    record {
      limit = ap (λ (r : Reading). r.limit) m.2 ∙ limit i;
      taken = still_within _ _ _ _ _ _ c.loop-fed.invariant.taken (fed i);
      wants = rw none (in_header {bytes = []} (omega arith));
      gathered = λ bytes g. moved_out _ _ _ _ _ _ _ c.in-Ok.ensures.items m.0 none (subst (λ (x : ℕ). IsMessage x c.in-Some.message) (limit i) m.1) (taken_on _ _ _ _ _ _ _ _ (fed i).held (c.loop-fed.invariant.gathered bytes g));
    }
