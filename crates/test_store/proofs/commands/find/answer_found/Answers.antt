use Rattle.std.proofs.Common.{rules, FitsSigned, map, to_z, of_z, ap, ◌∙◌}
use Rattle.std.specs.Int.{w64}
use Rattle.std.proofs.lemmas.Int.{to_z-of_z}
use Rattle.bson_doc.specs.Bson.{value_of}
use Rattle.test_store.specs.Commands.{left_of}
use Rattle.test_store.specs.Held.{namespace_of, store_of}
use Rattle.test_store.proofs.Replies.{found_answered, left_of-map}
use Rattle.test_store.proofs.commands.find.answer_found.Goals as goal

pub returns-in-Ok-open_cursor-clause-answered : goal.returns-in-Ok-open_cursor-clause-answered
returns-in-Ok-open_cursor-clause-answered c =
    let all = c.args.found.items in
    let fits : FitsSigned w64 c.in-Ok-open_cursor.id = search rules in
    found_answered (store_of c.args.store.now) _ (namespace_of c.args.namespace) (map value_of all) c.args.count c.args.is_single (map value_of c.in-Ok.batch.items) (map value_of c.keep_for_cursor.new.left.items)
    (to_z w64 (of_z w64 c.in-Ok-open_cursor.id)) c.cursor_answer.result
    c.in-Ok.ensures.taken
    (ap (map value_of) c.keep_for_cursor.ensures ∙ left_of-map value_of c.args.is_single _ ∙ ap (left_of c.args.is_single) c.in-Ok.ensures.left)
    (to_z-of_z w64 c.in-Ok-open_cursor.id fits ∙ c.in-Ok-open_cursor.ensures.id)
    c.in-Ok-open_cursor.ensures.opened c.open_cursor.ensures.collections c.cursor_answer.ensures
