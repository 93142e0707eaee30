use Rattle.std.proofs.Common.{◌≡◌, ◌∙◌, ◌∷◌, [], ap, map, sym}
use Rattle.wire_msg.specs.{body_alone}
use Rattle.wire_peer.specs.{buf_content}
use Rattle.wire_peer.specs.ContentSets.{content_set}
use Rattle.wire_peer.proofs.Lemmas.{of_buf_content}
use Rattle.wire_play.proofs.Rounds.{only_item}
use Rattle.wire_play.proofs.loop_call.is_answered.Goals as goal

pub returns-in-len1 : goal.returns-in-len1
returns-in-len1 c = λ t own yes.
    let part = c.part-item.result in
    let all = only_item c.as_slice.result.now part c.in-len1.len_at_least c.in-len1.len_below c.part-item.is in
    let content = of_buf_content part {P = λ k. k ≡ body_alone t} (content_set (buf_content part) (body_alone t))
    (λ k carries. (c.is_alone.ensures k t (c.as_payload.ensures k carries) own).0 yes) in
    ap (map buf_content) (sym c.as_slice.ensures.value ∙ all) ∙ ap (λ x. x ∷ []) content
