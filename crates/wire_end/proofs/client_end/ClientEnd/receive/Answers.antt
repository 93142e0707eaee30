use Rattle.std.proofs.Common.{◌∙◌, [], ap, refl}
use Rattle.std.specs.Prelude.{Ok}
use Rattle.std.proofs.KnownBytes.{Keeps-refl, Keeps-trans}
use Rattle.wire_stream.proofs.Lemmas.{AddsTurns-nil}
use Rattle.wire_end.proofs.Runs.{hears_on, nothing}
use Rattle.wire_end.proofs.Turns.{grows_none, grows_on, stepped}
use Rattle.wire_end.proofs.client_end.ClientEnd.receive.Goals as goal

pub returns-in_err-step-clause-heard : goal.returns-in_err-step-clause-heard
returns-in_err-step-clause-heard g c =
    let L = g.L.Link in
    hears_on L.sent L.received c.args.self.now c.loop-self.self c.step.new.self c.loop-self.invariant.heard
    c.step.ensures.heard

pub returns-in-End-clause-heard : goal.returns-in-End-clause-heard
returns-in-End-clause-heard g c =
    let L = g.L.Link in
    hears_on L.sent L.received c.args.self.now c.loop-self.self c.step.new.self c.loop-self.invariant.heard
    c.step.ensures.heard

pub returns-in-Later-clause-heard : goal.returns-in-Later-clause-heard
returns-in-Later-clause-heard g c =
    let L = g.L.Link in
    hears_on L.sent L.received c.args.self.now c.loop-self.self c.step.new.self c.loop-self.invariant.heard
    c.step.ensures.heard

pub loop-self-preserved : goal.loop-self-preserved
loop-self-preserved g c =
    let L = g.L.Link in
    let ends = rw c.in-Bytes.is at c.in_ok-step.ensures.ends in
    let later = rw c.in-Bytes.is at c.in_ok-step.ensures.later in
    let i = c.loop-self.invariant in
    let may = c.is_receiving.ensures.takes c.loop-self-test.true in
    record {
      heard = hears_on L.sent L.received c.args.self.now c.loop-self.self c.step.new.self c.loop-self.invariant.heard
          c.step.ensures.heard;
      grows = λ may'. grows_on L.received c.args.self.now c.loop-self.self c.step.new.self (i.grows may)
          (c.in_ok-step.ensures.grows (ap Ok c.in-Bytes.is) may');
      sent = Keeps-trans _ _ _ i.sent c.step.ensures.sent;
      turns = stepped L.sent L.received L.turns c.args.self.now c.loop-self.self c.step.new.self.link (i.grows may) i.sent i.turns
          (c.is_receiving.ensures.open c.loop-self-test.true) c.step.ensures.stays c.step.ensures.turn;
      ends = ends ∙ c.loop-self.invariant.ends;
      later = later ∙ c.loop-self.invariant.later;
      fails = c.in_ok-step.ensures.fails ∙ c.loop-self.invariant.fails;
    }

pub returns-in_err-step-clause-turns : goal.returns-in_err-step-clause-turns
returns-in_err-step-clause-turns g c =
    let L = g.L.Link in
    let i = c.loop-self.invariant in
    let may = c.is_receiving.ensures.takes c.loop-self-test.true in
    stepped L.sent L.received L.turns c.args.self.now c.loop-self.self c.step.new.self.link (i.grows may) i.sent i.turns
    (c.is_receiving.ensures.open c.loop-self-test.true) c.step.ensures.stays c.step.ensures.turn

pub returns-in-End-clause-turns : goal.returns-in-End-clause-turns
returns-in-End-clause-turns g c =
    let L = g.L.Link in
    let i = c.loop-self.invariant in
    let may = c.is_receiving.ensures.takes c.loop-self-test.true in
    stepped L.sent L.received L.turns c.args.self.now c.loop-self.self c.step.new.self.link (i.grows may) i.sent i.turns
    (c.is_receiving.ensures.open c.loop-self-test.true) c.step.ensures.stays c.step.ensures.turn

pub returns-in-Later-clause-turns : goal.returns-in-Later-clause-turns
returns-in-Later-clause-turns g c =
    let L = g.L.Link in
    let i = c.loop-self.invariant in
    let may = c.is_receiving.ensures.takes c.loop-self-test.true in
    stepped L.sent L.received L.turns c.args.self.now c.loop-self.self c.step.new.self.link (i.grows may) i.sent i.turns
    (c.is_receiving.ensures.open c.loop-self-test.true) c.step.ensures.stays c.step.ensures.turn

pub loop-self-init : goal.loop-self-init
loop-self-init g c =
    let L = g.L.Link in
    record {
      heard = nothing L.sent L.received c.args.self.now;
      grows = λ may. grows_none L.received c.args.self.now;
      sent = Keeps-refl _;
      turns = ([], AddsTurns-nil _, tt);
      ends = refl;
      later = refl;
      fails = refl;
    }
