use Rattle.std.proofs.Common.{List, ℕ, Bor, Bool, map, sym, subst}
use Rattle.std.specs.Prelude.{◌↔◌, IsTrue, is_some}
use Rattle.wire_msg.specs.{Sequence}
use Rattle.replay.specs.Same.{IsSameSequence, OneByOne}
use Rattle.replay.proofs.Comparing.{differ, none_there, others_tell, sequences_end, turned}
use Rattle.replay.proofs.content.are_same_sequences.Goals as goal

pub loop-sequence-init : goal.loop-sequence-init
loop-sequence-init c = (
  tt,
  tt,
  λ a b carried carries. (
    a.sequences,
    b.sequences,
    rw c.into_iter-sequence-iterator.ensures.into_iter_gives (c.sequences-sequence-items.ensures a carried),
    c.sequences-others.ensures b carries,
    ((λ s. s), (λ s. s)),
  ),
)

pub loop-sequence-preserved : goal.loop-sequence-preserved
loop-sequence-preserved c = (
  tt,
  tt,
  λ a b carried carries.
      let names : List (List ℕ) = map (λ (n : Bor (List ℕ)). n.now) c.args.names.now in
      let left = c.loop-sequence.invariant.2 a b carried carries in
      let one = c.in-Some.ensures.steps left.0 left.2 in
      let other = c.in-Some-next.ensures.steps left.1 left.3 in (
        one.others,
        other.others,
        one.left,
        other.left,
        others_tell Sequence (IsSameSequence names) (OneByOne (IsSameSequence names) a.sequences b.sequences) left.0 left.1 one.others other.others one.sequence other.sequence c.in_ok-is_same_sequence.field-0
            left.4 one.is_first other.is_first
            (c.in_ok-is_same_sequence.ensures one.sequence other.sequence one.identifier_is one.documents_are other.identifier_is other.documents_are)
            c.if-not-branch.false,
      ),
)

pub returns-in_default : goal.returns-in_default
returns-in_default c = λ a b carried carries.
    let names : List (List ℕ) = map (λ (n : Bor (List ℕ)). n.now) c.args.names.now in
    let left = c.loop-sequence.invariant.2 a b carried carries in
    let one = c.in-Some.ensures.steps left.0 left.2 in
    none_there Sequence (IsSameSequence names) (OneByOne (IsSameSequence names) a.sequences b.sequences) left.0 left.1 one.others one.sequence
    left.4 one.is_first (c.in_default.ensures.steps left.1 left.3).0

pub returns-then-not-branch : goal.returns-then-not-branch
returns-then-not-branch c = λ a b carried carries.
    let names : List (List ℕ) = map (λ (n : Bor (List ℕ)). n.now) c.args.names.now in
    let left = c.loop-sequence.invariant.2 a b carried carries in
    let one = c.in-Some.ensures.steps left.0 left.2 in
    let other = c.in-Some-next.ensures.steps left.1 left.3 in
    differ Sequence (IsSameSequence names) (OneByOne (IsSameSequence names) a.sequences b.sequences) left.0 left.1 one.others other.others one.sequence other.sequence c.in_ok-is_same_sequence.field-0
    left.4 one.is_first other.is_first
    (c.in_ok-is_same_sequence.ensures one.sequence other.sequence one.identifier_is one.documents_are other.identifier_is other.documents_are)
    c.if-not-branch.true

pub returns : goal.returns
returns c = λ a b carried carries.
    let names : List (List ℕ) = map (λ (n : Bor (List ℕ)). n.now) c.args.names.now in
    let All = OneByOne (IsSameSequence names) a.sequences b.sequences in
    let left = c.loop-sequence.invariant.2 a b carried carries in
    subst (λ (x : Bool). IsTrue x ↔ All) (sym (turned c.is_none.result (is_some c.next-2.result) c.is_none.ensures))
    (sequences_end (IsSameSequence names) All left.0 left.1 c.loop-sequence.others c.next-2.new.self c.next-2.result left.4 (c.in-None.ensures.steps left.0 left.2).0 left.3 c.next-2.ensures.steps)
