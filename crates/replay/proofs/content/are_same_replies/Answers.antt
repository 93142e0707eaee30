use Rattle.std.proofs.Common.{List, ℕ, Bor, arith, map}
use Rattle.bson_elem.specs.{Tree}
use Rattle.bson_raw.specs.{document_bytes}
use Rattle.bson_raw.proofs.Lemmas.{document_takes}
use Rattle.replay.specs.Stripped.{AreSame}
use Rattle.replay.specs.Same.{AreSameDocuments}
use Rattle.replay.proofs.Comparing.{differ, none_there, others_tell}
use Rattle.replay.proofs.Replies.{first_of, none_of, not_both, rests_tell}
use Rattle.replay.proofs.content.are_same_replies.Goals as goal

pub loop-a-init : goal.loop-a-init
loop-a-init c = λ ts us rest other split splits. (ts, us, split, splits, ((λ s. s), (λ s. s)))

pub returns-in_default-front : goal.returns-in_default-front
returns-in_default-front c = λ ts us rest other split splits.
    let names : List (List ℕ) = map (λ (n : Bor (List ℕ)). n.now) c.args.names.now in
    let All = AreSameDocuments names ts us in
    let left = c.loop-a.invariant ts us rest other split splits in
    let a = c.in-Ok.ensures in
    let one = first_of c.loop-a.left.now left.0 rest (c.in-Ok.a, c.in-Ok.behind) a.found a.only a.exact left.2 in
    not_both All _ (none_there Tree (AreSame names) All left.0 left.1 one.others one.tree left.4 one.is_first (none_of c.loop-a.other.now left.1 other c.in_default-front.ensures.only left.3))

pub returns-then-not-branch : goal.returns-then-not-branch
returns-then-not-branch c = λ ts us rest other split splits.
    let names : List (List ℕ) = map (λ (n : Bor (List ℕ)). n.now) c.args.names.now in
    let All = AreSameDocuments names ts us in
    let left = c.loop-a.invariant ts us rest other split splits in
    let a = c.in-Ok.ensures in
    let b = c.in-Ok-front.ensures in
    let one = first_of c.loop-a.left.now left.0 rest (c.in-Ok.a, c.in-Ok.behind) a.found a.only a.exact left.2 in
    let two = first_of c.loop-a.other.now left.1 other (c.in-Ok-front.b, c.in-Ok-front.others) b.found b.only b.exact left.3 in
    not_both All _ (differ Tree (AreSame names) All left.0 left.1 one.others two.others one.tree two.tree c.in_ok-are_same.field-0
    left.4 one.is_first two.is_first (c.in_ok-are_same.ensures one.tree two.tree one.spelled two.spelled) c.if-not-branch.true)

pub loop-a-smaller : goal.loop-a-smaller
loop-a-smaller c =
    let found = c.in-Ok.ensures.found in
    let takes = document_takes found.1.0 (document_bytes c.in-Ok.a) c.loop-a.left.now c.in-Ok.behind.now found.1.1 found.0 in
    omega (arith, takes.0, takes.1)

pub loop-a-preserved : goal.loop-a-preserved
loop-a-preserved c = λ ts us rest other split splits.
    let names : List (List ℕ) = map (λ (n : Bor (List ℕ)). n.now) c.args.names.now in
    let left = c.loop-a.invariant ts us rest other split splits in
    let a = c.in-Ok.ensures in
    let b = c.in-Ok-front.ensures in
    let one = first_of c.loop-a.left.now left.0 rest (c.in-Ok.a, c.in-Ok.behind) a.found a.only a.exact left.2 in
    let two = first_of c.loop-a.other.now left.1 other (c.in-Ok-front.b, c.in-Ok-front.others) b.found b.only b.exact left.3 in (
      one.others,
      two.others,
      one.left,
      two.left,
      others_tell Tree (AreSame names) (AreSameDocuments names ts us) left.0 left.1 one.others two.others one.tree two.tree c.in_ok-are_same.field-0
          left.4 one.is_first two.is_first (c.in_ok-are_same.ensures one.tree two.tree one.spelled two.spelled) c.if-not-branch.false,
    )

pub returns : goal.returns
returns c = λ ts us rest other split splits.
    let names : List (List ℕ) = map (λ (n : Bor (List ℕ)). n.now) c.args.names.now in
    let left = c.loop-a.invariant ts us rest other split splits in
    rests_tell (AreSame names) (AreSameDocuments names ts us) left.0 left.1 c.loop-a.left.now c.loop-a.other.now rest other c.eq.result
    left.4 c.in_default.ensures.only left.2 left.3 c.eq.ensures
