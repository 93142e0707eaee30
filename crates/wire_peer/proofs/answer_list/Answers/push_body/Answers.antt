use Rattle.std.proofs.Common.{◌≡◌, ◌++◌, ◌∷◌, []}
use Rattle.wire_msg.specs.{body_alone}
use Rattle.wire_peer.specs.AnswerLists.{answers_of}
use Rattle.wire_peer.specs.Contents.{buf_content}
use Rattle.std.proofs.Common.{ap, ◌∙◌}
use Rattle.wire_peer.proofs.ContentLaws.{buf_content_is}
use Rattle.wire_peer.proofs.answer_list.Answers.push_body.Goals as goal

-- src/answer_list.rt:51:5
pub returns-clause-added : goal.returns-clause-added
returns-clause-added c t spelled =
    let same : buf_content c.in_ok-answer.answer ≡ body_alone t = buf_content_is c.in_ok-answer.answer (body_alone t) (c.in_ok-answer.ensures.made t spelled) in
    c.in_ok-push_buf.ensures.added ∙ ap (λ x. answers_of c.args.self.now ++ x ∷ []) same
