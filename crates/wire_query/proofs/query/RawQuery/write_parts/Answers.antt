use Rattle.std.proofs.Common.{◌≡◌, ◌+◌, ◌++◌, List, ℕ, length, refl, sym, ap, ◌∙◌, arith}
use Rattle.bson_elem.specs.Spelling.{document, elements}
use Rattle.bson_elem.specs.Trees.{Tree}
use Rattle.wire_msg.proofs.Lemmas.{on_ok, appended}
use Rattle.wire_query.specs.Database.{with_db_appended}
use Rattle.wire_query.proofs.DatabaseLaws.{length-with_db_appended}
use Rattle.wire_query.proofs.MessageLaws.{parts_short, same_front, message_added, command_spelled, command_alone, command_and_db}
use Rattle.wire_query.proofs.query.RawQuery.write_parts.Goals as goal

pub returns-then-names_database-clause-added : goal.returns-then-names_database-clause-added
returns-then-names_database-clause-added c = λ q s.
    let d : List ℕ = c.as_bytes-body.result.now in
    let old : List ℕ = c.args.out.now.items in
    let spelled = command_spelled q c.args.self.bytes.now c.args.self.database.now _ s c.args.self.parts in
    let alone = command_alone q (sym (c.names_database.ensures q.body spelled) ∙ c.if-names_database.true) in
    let one = c.in_ok-write_message_front.ensures.added ∙ ap (λ (x : List ℕ). old ++ x) (same_front q c.id.result c.response_to.result (length d) s.id s.response_to (c.id.ensures q s) (c.response_to.ensures q s)) in
    on_ok c.extend_from_slice.result _ _
    (λ e. message_added q q.body (length d) d old c.write_message_front.new.out.items c.extend_from_slice.new.self.items alone (c.as_bytes-body.ensures.bytes ∙ spelled.parts) refl one e)
    (appended c.extend_from_slice.result c.write_message_front.new.out.items _ c.extend_from_slice.new.self.items c.extend_from_slice.ensures.items)

pub write_message_front-requires-2 : goal.write_message_front-requires-2
write_message_front-requires-2 c =
    let short = parts_short c.args.self.bytes.now c.args.self.database.now _ c.args.self.spelled c.args.self.parts in
    omega (arith, short, ap length c.as_bytes-body.ensures.bytes)

pub write_with_database-requires : goal.write_with_database-requires
write_with_database-requires c = omega (arith, parts_short c.args.self.bytes.now c.args.self.database.now _ c.args.self.spelled c.args.self.parts)

pub returns-clause-added : goal.returns-clause-added
returns-clause-added c = λ q s.
    let d : List ℕ = c.as_bytes-body.result.now in
    let database : List ℕ = c.args.self.database.now in
    let old : List ℕ = c.args.out.now.items in
    let t : Tree = with_db_appended database q.body in
    let len : ℕ = length d + 10 + length database in
    let spelled = command_spelled q c.args.self.bytes.now database _ s c.args.self.parts in
    let name : database ≡ q.database = sym (c.args.self.parts q s).0 in
    let body = ap (λ (x : List ℕ). with_db_appended x q.body) name ∙ command_and_db q (sym (c.names_database.ensures q.body spelled) ∙ c.if-names_database.false) in
    let size : len ≡ length (document (elements t)) = omega (arith, ap length (c.as_bytes-body.ensures.bytes ∙ spelled.parts), length-with_db_appended database q.body) in
    let one = c.in_ok-write_message_front-2.ensures.added ∙ ap (λ (x : List ℕ). old ++ x) (same_front q c.id-2.result c.response_to-2.result len s.id s.response_to (c.id-2.ensures q s) (c.response_to-2.ensures q s)) in
    on_ok c.write_with_database.result _ _
    (λ e. message_added q t len (document (elements t)) old c.write_message_front-2.new.out.items c.write_with_database.new.out.items body refl size one e)
    (c.write_with_database.ensures.added q.body spelled)
