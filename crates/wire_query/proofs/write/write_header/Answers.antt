use Rattle.std.proofs.Common.{◌++◌, ℤ, ap, ◌∙◌}
use Rattle.std.specs.Int.{w32}
use Rattle.std.proofs.lemmas.Int.{to_z-of_z}
use Rattle.wire_msg.proofs.Lemmas.{on_ok, on_err, keeps_front, then_more}
use Rattle.wire_query.specs.Spelling.{signed}
use Rattle.wire_query.proofs.ReplyLaws.{header_added}
use Rattle.wire_query.proofs.write.write_header.Goals as goal

pub returns-clause-added : goal.returns-clause-added
returns-clause-added c =
    let two = c.in_ok-write_i32.ensures.added ∙ ap (λ (z : ℤ). c.write_u32.new.out.items ++ signed z) (to_z-of_z w32 c.args.id c.ranges.id) in
    let three = c.in_ok-write_i32-2.ensures.added ∙ ap (λ (z : ℤ). c.write_i32.new.out.items ++ signed z) (to_z-of_z w32 c.args.response_to c.ranges.response_to) in
    on_ok c.write_u32-2.result _ _ (λ e. header_added c.args.len c.args.id c.args.response_to c.args.opcode c.args.out.now.items c.write_u32.new.out.items c.write_i32.new.out.items c.write_i32-2.new.out.items c.write_u32-2.new.out.items c.in_ok-write_u32.ensures.added two three e) c.write_u32-2.ensures.added

pub returns-clause-kept : goal.returns-clause-kept
returns-clause-kept c =
    let two = then_more c.args.out.now.items _ _ c.write_u32.new.out.items c.write_i32.new.out.items c.in_ok-write_u32.ensures.added c.in_ok-write_i32.ensures.added in
    let three = then_more c.args.out.now.items _ _ c.write_i32.new.out.items c.write_i32-2.new.out.items two c.in_ok-write_i32-2.ensures.added in
    on_err c.write_u32-2.result _ _ (keeps_front c.args.out.now.items _ c.write_i32-2.new.out.items c.write_u32-2.new.out.items three) c.write_u32-2.ensures.kept
