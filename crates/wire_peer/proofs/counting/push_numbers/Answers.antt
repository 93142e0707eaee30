use Rattle.std.proofs.Common.{◌≡◌, ◌++◌, ◌∷◌, [], ℕ, ◌+◌}
use Rattle.wire_peer.specs.AnswerLists.{answers_of}
use Rattle.wire_peer.specs.Counting.{numbered, numbers_from}
use Rattle.std.proofs.Common.{arith, ap, sym, ◌∙◌, append_assoc}
use Rattle.std.proofs.lemmas.List.{append-nil}
use Rattle.wire_peer.proofs.CountLaws.{numbers_from-push}
use Rattle.wire_peer.proofs.counting.push_numbers.Goals as goal

-- src/counting.rt:62:5
pub loop-number-init : goal.loop-number-init
loop-number-init c = sym (append-nil (answers_of c.args.answers.now))

-- src/counting.rt:62:5
pub loop-number-preserved : goal.loop-number-preserved
loop-number-preserved c =
    let k : ℕ = c.loop-number.number in
    let same : k + 1 ≡ 1 + k = omega arith in
    c.in_ok-push_number.ensures.added ∙ ap (λ list. list ++ numbered (k + 1) ∷ []) c.loop-number.invariant
    ∙ append_assoc (answers_of c.args.answers.now) (numbers_from 1 k) (numbered (k + 1) ∷ [])
    ∙ ap (λ n. answers_of c.args.answers.now ++ (numbers_from 1 k ++ numbered n ∷ [])) same
    ∙ ap (λ ns. answers_of c.args.answers.now ++ ns) (sym (numbers_from-push 1 k))

-- src/counting.rt:57:1
pub returns-clause-added : goal.returns-clause-added
returns-clause-added c =
    let all : c.loop-number.number ≡ c.args.count = omega (arith, c.loop-number-test.false, c.loop-number.auto.number-end) in
    c.loop-number.invariant ∙ ap (λ n. answers_of c.args.answers.now ++ numbers_from 1 n) all
