use Rattle.std.proofs.Common.{List, ℕ, Bor, Bool, map, sym, subst}
use Rattle.std.specs.Prelude.{◌↔◌, IsTrue, is_some}
use Rattle.bson_elem.specs.{Tree}
use Rattle.replay.specs.Stripped.{AreSame}
use Rattle.replay.specs.Same.{AreSameDocuments}
use Rattle.replay.proofs.Comparing.{differ, documents_end, none_there, others_tell, turned}
use Rattle.replay.proofs.content.are_same_lists.Goals as goal

pub loop-document-init : goal.loop-document-init
loop-document-init c = (
  tt,
  tt,
  λ ts us are they. (
    ts,
    us,
    rw c.into_iter-document-iterator.ensures.into_iter_gives (c.iter-document-items.ensures ts are),
    c.iter-others.ensures us they,
    ((λ s. s), (λ s. s)),
  ),
)

pub loop-document-preserved : goal.loop-document-preserved
loop-document-preserved c = (
  tt,
  tt,
  λ ts us are they.
      let names : List (List ℕ) = map (λ (n : Bor (List ℕ)). n.now) c.args.names.now in
      let left = c.loop-document.invariant.2 ts us are they in
      let one = c.in-Some.ensures.steps left.0 left.2 in
      let other = c.in-Some-next.ensures.steps left.1 left.3 in (
        one.others,
        other.others,
        one.left,
        other.left,
        others_tell Tree (AreSame names) (AreSameDocuments names ts us) left.0 left.1 one.others other.others one.tree other.tree c.in_ok-are_same.field-0
            left.4 one.is_first other.is_first (c.in_ok-are_same.ensures one.tree other.tree one.spelled other.spelled) c.if-not-branch.false,
      ),
)

pub returns-in_default : goal.returns-in_default
returns-in_default c = λ ts us are they.
    let names : List (List ℕ) = map (λ (n : Bor (List ℕ)). n.now) c.args.names.now in
    let left = c.loop-document.invariant.2 ts us are they in
    let one = c.in-Some.ensures.steps left.0 left.2 in
    none_there Tree (AreSame names) (AreSameDocuments names ts us) left.0 left.1 one.others one.tree left.4 one.is_first (c.in_default.ensures.steps left.1 left.3).0

pub returns-then-not-branch : goal.returns-then-not-branch
returns-then-not-branch c = λ ts us are they.
    let names : List (List ℕ) = map (λ (n : Bor (List ℕ)). n.now) c.args.names.now in
    let left = c.loop-document.invariant.2 ts us are they in
    let one = c.in-Some.ensures.steps left.0 left.2 in
    let other = c.in-Some-next.ensures.steps left.1 left.3 in
    differ Tree (AreSame names) (AreSameDocuments names ts us) left.0 left.1 one.others other.others one.tree other.tree c.in_ok-are_same.field-0
    left.4 one.is_first other.is_first (c.in_ok-are_same.ensures one.tree other.tree one.spelled other.spelled) c.if-not-branch.true

pub returns : goal.returns
returns c = λ ts us are they.
    let names : List (List ℕ) = map (λ (n : Bor (List ℕ)). n.now) c.args.names.now in
    let All = AreSameDocuments names ts us in
    let left = c.loop-document.invariant.2 ts us are they in
    subst (λ (x : Bool). IsTrue x ↔ All) (sym (turned c.is_none.result (is_some c.next-2.result) c.is_none.ensures))
    (documents_end (AreSame names) All left.0 left.1 c.loop-document.others c.next-2.new.self c.next-2.result left.4 (c.in-None.ensures.steps left.0 left.2).0 left.3 c.next-2.ensures.steps)
