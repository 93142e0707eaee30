use Rattle.std.proofs.Common.{◌≡◌, ◌++◌, ◌∷◌, [], OnOk}
use Rattle.wire_peer.specs.AnswerLists.{answers_of}
use Rattle.wire_peer.specs.Contents.{buf_content, content_of}
use Rattle.std.proofs.Common.{subst}
use Rattle.wire_peer.proofs.ContentLaws.{copied_content}
use Rattle.wire_peer.proofs.answer_list.Answers.push.Goals as goal

-- src/answer_list.rt:35:5
pub returns-clause-added : goal.returns-clause-added
returns-clause-added c =
    let same : buf_content c.in_ok-copy.copy ≡ content_of c.args.answer = copied_content c.args.answer c.in_ok-copy.copy c.in_ok-copy.ensures in
    subst (λ x. OnOk c.push_buf.result (answers_of c.push_buf.new.self ≡ answers_of c.args.self.now ++ x ∷ [])) same c.push_buf.ensures.added
