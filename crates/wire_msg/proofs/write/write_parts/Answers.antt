use Rattle.std.proofs.Common.{◌++◌, List, ℕ, ap, ◌∙◌}
use Rattle.std.specs.Int.{w32}
use Rattle.std.proofs.lemmas.Int.{to_z-of_z}
use Rattle.wire_msg.proofs.WriteLaws.{on_ok, on_err, keeps_front, then_more, same_header, message_added}
use Rattle.wire_msg.proofs.write.write_parts.Goals as goal

pub returns-clause-added : goal.returns-clause-added
returns-clause-added c = λ content p.
    let one = c.in_ok-write_header.ensures.added ∙ ap (λ (x : List ℕ). c.args.out.now.items ++ x) (same_header c.args.len _ c.args.id _ c.args.response_to (to_z-of_z w32 c.args.id c.ranges.id) (to_z-of_z w32 c.args.response_to c.ranges.response_to)) in
    on_ok c.write_sections.result _ _ (λ e. message_added (record { id = c.args.id; response_to = c.args.response_to; flags = c.args.flags; content = content }) c.args.len c.word.result c.args.out.now.items c.write_header.new.out.items c.write_u32.new.out.items c.write_sections.new.out.items (c.requires content p) c.word.ensures one c.in_ok-write_u32.ensures.added e) (c.write_sections.ensures.added content p)

pub returns-clause-kept : goal.returns-clause-kept
returns-clause-kept c =
    let two = then_more c.args.out.now.items _ _ c.write_header.new.out.items c.write_u32.new.out.items c.in_ok-write_header.ensures.added c.in_ok-write_u32.ensures.added in
    on_err c.write_sections.result _ _ (keeps_front c.args.out.now.items _ c.write_u32.new.out.items c.write_sections.new.out.items two) c.write_sections.ensures.kept
