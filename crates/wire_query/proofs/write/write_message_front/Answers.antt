use Rattle.std.proofs.Common.{◌+◌, ◌++◌, List, ℕ, ap, ◌∙◌}
use Rattle.std.specs.Int.{w32}
use Rattle.std.proofs.lemmas.Int.{to_z-of_z}
use Rattle.wire_msg.proofs.Lemmas.{on_ok, appended}
use Rattle.wire_query.proofs.MessageLaws.{front_added}
use Rattle.wire_query.proofs.ReplyLaws.{same_header}
use Rattle.wire_query.proofs.write.write_message_front.Goals as goal

pub returns-clause-added : goal.returns-clause-added
returns-clause-added c =
    let id = c.args.id in
    let response_to = c.args.response_to in
    let one = c.in_ok-write_header.ensures.added ∙ ap (λ (x : List ℕ). c.args.out.now.items ++ x) (same_header (21 + c.args.len) _ id _ response_to 2013 (to_z-of_z w32 id c.ranges.id) (to_z-of_z w32 response_to c.ranges.response_to)) in
    on_ok c.extend_from_slice.result _ _
    (λ e. front_added id response_to c.args.len c.args.out.now.items c.write_header.new.out.items c.extend_from_slice.new.self.items one e)
    (appended c.extend_from_slice.result c.write_header.new.out.items _ c.extend_from_slice.new.self.items c.extend_from_slice.ensures.items)
