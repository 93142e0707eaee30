use Rattle.std.proofs.Common.{◌≡◌, ◌++◌, w32, pos, to_z, of_z}
use Rattle.wire_msg.specs.{canonical}
use Rattle.wire_peer.specs.Chains.{reply}
use Rattle.std.proofs.Common.{sym, ◌∙◌}
use mathlib.Core.List.{is_set}
use Rattle.std.proofs.Math.Nat.{ℕ_set}
use Rattle.wire_peer.proofs.ContentLaws.{of_buf_content}
use Rattle.wire_peer.proofs.ChainLaws.{on_ok}
use Rattle.std.proofs.Common.{ap}
use mir.ValLaws.{to_z-of_z, to_z_pos}
use Rattle.wire_peer.proofs.ChainLaws.{reply_with}
use Rattle.wire_peer.proofs.reply_buf.write_reply.Goals as goal

-- src/reply_buf.rt:144:1
pub returns-clause-added : goal.returns-clause-added
returns-clause-added c ok =
    let id : to_z w32 c.args.id ≡ pos c.args.id = to_z_pos w32 c.args.id c.requires.int32 in
    let to : to_z w32 (of_z w32 c.args.to) ≡ c.args.to = to_z-of_z w32 c.args.to c.ranges.to in
    of_buf_content c.args.answer.now {P = λ k. c.push_msg.new.self ≡ c.args.out.now ++ canonical (reply c.args.id c.args.to c.args.more k)} (is_set ℕ_set _ _)
    (λ k held. on_ok c.push_msg.result (sym c.is_ok.ensures.value ∙ ok) (c.push_msg.ensures.written k (c.as_payload.ensures k held))
    ∙ ap (λ n. c.args.out.now ++ canonical (reply_with n (to_z w32 (of_z w32 c.args.to)) c.args.more k)) id
    ∙ ap (λ n. c.args.out.now ++ canonical (reply_with (pos c.args.id) n c.args.more k)) to)
