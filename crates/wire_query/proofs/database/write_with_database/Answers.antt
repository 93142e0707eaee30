use Rattle.std.proofs.Common.{◌≡◌, ◌+◌, List, ℕ, length, refl, ap, ◌∙◌, arith}
use Rattle.std.proofs.lemmas.Result.{MatchResult-from_err}
use Rattle.bson_elem.specs.Spelling.{document, elements}
use Rattle.wire_msg.proofs.Lemmas.{on_ok, appended, keeps_front, then_more}
use Rattle.wire_query.proofs.DatabaseLaws.{db_appended, between, document_least}
use Rattle.wire_query.proofs.database.write_with_database.Goals as goal

pub overflow_cast-bytes : goal.overflow_cast-bytes
overflow_cast-bytes c = record { fits = omega (arith, ap length c.as_bytes-bytes.ensures.bytes, c.requires) }

pub overflow_sub-bytes : goal.overflow_sub-bytes
overflow_sub-bytes c = omega (arith, document_least c.args.command.bytes.now c.as_bytes-bytes.result.now c.args.command.spelled c.as_bytes-bytes.ensures.bytes)

pub slice_bounds-extend_from_slice-count : goal.slice_bounds-extend_from_slice-count
slice_bounds-extend_from_slice-count c = omega (arith, document_least c.args.command.bytes.now c.as_bytes-bytes.result.now c.args.command.spelled c.as_bytes-bytes.ensures.bytes)

pub returns-in_err-write_db-clause-kept : goal.returns-in_err-write_db-clause-kept
returns-in_err-write_db-clause-kept c =
    let kept = keeps_front c.args.out.now.items _ c.extend_from_slice.new.self.items c.write_db.new.out.items
    (then_more c.args.out.now.items _ _ c.write_u32.new.out.items c.extend_from_slice.new.self.items c.in_ok-write_u32.ensures.added c.in_ok-extend_from_slice.ensures.items)
    (c.in_err-write_db.ensures).kept in
    MatchResult-from_err c.from_residual-in_err-write_db.result _ _ c.from_residual-in_err-write_db.ensures.0 (λ e. kept)

pub returns-clause-added : goal.returns-clause-added
returns-clause-added c = λ t s.
    let bytes : List ℕ = c.as_bytes-bytes.result.now in
    let is : bytes ≡ document (elements t) = c.as_bytes-bytes.ensures.bytes ∙ s.parts in
    let len : ℕ = length bytes + 10 + length c.args.database.now in
    on_ok c.extend_from_slice-2.result _ _
    (λ e. db_appended c.args.database.now t len bytes _ c.args.out.now.items c.write_u32.new.out.items c.extend_from_slice.new.self.items c.write_db.new.out.items c.extend_from_slice-2.new.self.items is refl (between t bytes is) c.in_ok-write_u32.ensures.added c.in_ok-extend_from_slice.ensures.items c.in_ok-write_db.ensures.added e)
    (appended c.extend_from_slice-2.result c.write_db.new.out.items _ c.extend_from_slice-2.new.self.items c.extend_from_slice-2.ensures.items)
