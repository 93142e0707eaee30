use Rattle.std.proofs.Common.{◌≡◌, ◌∙◌, List, ℕ, [], ap, drop, refl, sym}
use Rattle.std.proofs.KnownBytes.{Appends-kept, Appends-nil, Keeps-refl, Keeps-trans}
use Rattle.wire_stream.proofs.KnownBytes.{sent_on}
use Rattle.wire_stream.proofs.Turns.{AddsTurns-nil, AddsTurns-trans}
use Rattle.wire_stream.proofs.outlet.flush.Goals as goal

pub loop-link-init : goal.loop-link-init
loop-link-init g c = record {
  sent = ([], Appends-nil _, refl);
  others = sym (g.met.O.Outlet.unchanged c.args.outlet.now);
  received = Keeps-refl _;
  turns = AddsTurns-nil _;
  end = refl;
  waits = refl;
  works = refl;
}

pub loop-link-preserved : goal.loop-link-preserved
loop-link-preserved g c =
    let O = g.O.Outlet in
    let laws = g.met.O.Outlet in
    let i = c.loop-link.invariant in
    let left : List ℕ = drop c.in-Bytes.n (O.waiting c.loop-link.outlet) in
    let waits : O.waiting c.sent.new.self ≡ left = ap O.waiting c.sent.ensures ∙ laws.waits c.loop-link.outlet left in
    let gone = rw c.in-Bytes.is at c.in_ok-n.ensures.sent in
    record {
      sent = sent_on _ _ _ _ i.sent.0 _ c.output-in-loop-link.result.now _ c.in-Bytes.n i.sent.1 i.sent.2 c.output-in-loop-link.ensures gone waits;
      others =
          c.sent.ensures ∙ ap (λ o. O.with_waiting o left) i.others
          ∙ laws.last c.args.outlet.now (O.waiting c.loop-link.outlet) left
          ∙ ap (O.with_waiting c.args.outlet.now) (sym waits);
      received = Keeps-trans _ _ _ i.received c.in_ok-n.ensures.received;
      turns = AddsTurns-trans _ _ _ [] [] i.turns c.in_ok-n.ensures.turns;
      end = c.in_ok-n.ensures.end ∙ i.end;
      waits = (rw c.in-Bytes.is at c.in_ok-n.ensures.later) ∙ i.waits;
      works = c.in_ok-n.ensures.works ∙ i.works;
    }

-- where the link failed, it moved nothing
pub returns-in_err-n-clause-sent : goal.returns-in_err-n-clause-sent
returns-in_err-n-clause-sent g c =
    let i = c.loop-link.invariant in
    (i.sent.0, Appends-kept _ _ _ _ i.sent.1 c.in_err-n.ensures.none_sent, i.sent.2)

pub returns-in_err-n-clause-others : goal.returns-in_err-n-clause-others
returns-in_err-n-clause-others g c = c.loop-link.invariant.others

pub returns-in_err-n-clause-received : goal.returns-in_err-n-clause-received
returns-in_err-n-clause-received g c = Keeps-trans _ _ _ c.loop-link.invariant.received c.in_err-n.ensures.received

pub returns-in_err-n-clause-turns : goal.returns-in_err-n-clause-turns
returns-in_err-n-clause-turns g c = AddsTurns-trans _ _ _ [] [] c.loop-link.invariant.turns c.in_err-n.ensures.turns

pub returns-in_err-n-clause-end : goal.returns-in_err-n-clause-end
returns-in_err-n-clause-end g c = c.in_err-n.ensures.end ∙ c.loop-link.invariant.end

-- where it takes no more, it moved nothing either
pub returns-in_default-clause-sent : goal.returns-in_default-clause-sent
returns-in_default-clause-sent g c =
    let i = c.loop-link.invariant in
    let none = rw c.in_default.is at c.in_ok-n.ensures.sent in
    sent_on _ _ _ _ i.sent.0 _ c.output-in-loop-link.result.now _ 0 i.sent.1 i.sent.2 c.output-in-loop-link.ensures none refl

pub returns-in_default-clause-others : goal.returns-in_default-clause-others
returns-in_default-clause-others g c = c.loop-link.invariant.others

pub returns-in_default-clause-waits : goal.returns-in_default-clause-waits
returns-in_default-clause-waits g c =
    let rose = rw c.in_default.is at c.in_ok-n.ensures.later in
    rw (← c.loop-link.invariant.waits) rose

pub returns-in_default-clause-received : goal.returns-in_default-clause-received
returns-in_default-clause-received g c = Keeps-trans _ _ _ c.loop-link.invariant.received c.in_ok-n.ensures.received

pub returns-in_default-clause-turns : goal.returns-in_default-clause-turns
returns-in_default-clause-turns g c = AddsTurns-trans _ _ _ [] [] c.loop-link.invariant.turns c.in_ok-n.ensures.turns

pub returns-in_default-clause-end : goal.returns-in_default-clause-end
returns-in_default-clause-end g c = c.in_ok-n.ensures.end ∙ c.loop-link.invariant.end

pub returns-in_default-clause-works : goal.returns-in_default-clause-works
returns-in_default-clause-works g c = c.in_ok-n.ensures.works ∙ c.loop-link.invariant.works
