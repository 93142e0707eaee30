use Rattle.std.proofs.Common.{◌≡◌, ◌++◌, List, ℕ, ap, ◌∙◌, rules, w32, to_z, of_z}
use Rattle.wire_msg.proofs.Lemmas.{on_ok, appended}
use Rattle.wire_query.proofs.ReplyLaws.{same_header, reply_added}
use Rattle.wire_query.proofs.reply.write_parts.Goals as goal

pub returns-clause-added : goal.returns-clause-added
returns-clause-added c = λ t s.
    let h = c.args.head in
    let old : List ℕ = c.args.out.now.items in
    let id : to_z w32 (of_z w32 c.args.head.id) ≡ c.args.head.id = search rules depth 2 in
    let to : to_z w32 (of_z w32 c.args.head.response_to) ≡ c.args.head.response_to = search rules depth 2 in
    let one = c.in_ok-write_header.ensures.added ∙ ap (λ (x : List ℕ). old ++ x) (same_header c.args.len _ h.id _ h.response_to 1 id to) in
    on_ok c.extend_from_slice.result _ _
    (λ e. reply_added h t c.args.len c.as_bytes.result.now old c.write_header.new.out.items c.write_numbers.new.out.items c.extend_from_slice.new.self.items (c.as_bytes.ensures.bytes ∙ s.parts) (c.requires t s) one c.in_ok-write_numbers.ensures.added e)
    (appended c.extend_from_slice.result c.write_numbers.new.out.items _ c.extend_from_slice.new.self.items c.extend_from_slice.ensures.items)
