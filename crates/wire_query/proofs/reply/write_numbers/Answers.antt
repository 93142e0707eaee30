use Rattle.std.proofs.Common.{◌≡◌, ◌++◌, ℤ, ap, ◌∙◌, rules, w32, w64, to_z, of_z}
use Rattle.wire_msg.proofs.Lemmas.{on_ok, on_err, keeps_front, then_more}
use Rattle.wire_query.specs.Spelling.{signed}
use Rattle.wire_query.specs.Replies.{long}
use Rattle.wire_query.proofs.ReplyLaws.{numbers_added}
use Rattle.wire_query.proofs.reply.write_numbers.Goals as goal

pub returns-clause-added : goal.returns-clause-added
returns-clause-added c =
    let h = c.args.head in
    let cursor : to_z w64 (of_z w64 c.args.head.cursor_id) ≡ c.args.head.cursor_id = search rules depth 2 in
    let start : to_z w32 (of_z w32 c.args.head.starting_from) ≡ c.args.head.starting_from = search rules depth 2 in
    let two = c.in_ok-write_i64.ensures.added ∙ ap (λ (z : ℤ). c.write_u32.new.out.items ++ long z) cursor in
    let three = c.in_ok-write_i32.ensures.added ∙ ap (λ (z : ℤ). c.write_i64.new.out.items ++ signed z) start in
    on_ok c.write_u32-2.result _ _ (λ e. numbers_added h c.args.out.now.items c.write_u32.new.out.items c.write_i64.new.out.items c.write_i32.new.out.items c.write_u32-2.new.out.items c.in_ok-write_u32.ensures.added two three e) c.write_u32-2.ensures.added

pub returns-clause-kept : goal.returns-clause-kept
returns-clause-kept c =
    let two = then_more c.args.out.now.items _ _ c.write_u32.new.out.items c.write_i64.new.out.items c.in_ok-write_u32.ensures.added c.in_ok-write_i64.ensures.added in
    let three = then_more c.args.out.now.items _ _ c.write_i64.new.out.items c.write_i32.new.out.items two c.in_ok-write_i32.ensures.added in
    on_err c.write_u32-2.result _ _ (keeps_front c.args.out.now.items _ c.write_i32.new.out.items c.write_u32-2.new.out.items three) c.write_u32-2.ensures.kept
