use Rattle.std.proofs.Common.{sym, subst, ◌∙◌}
use Rattle.std.proofs.lemmas.List.{take_rest}
use Rattle.std.proofs.lemmas.Result.{err_from_is_err_and}
use Rattle.bson_raw.specs.RawDocument.{document_bytes}
use Rattle.wire_msg.specs.Checks.{HasSequences}
use Rattle.wire_msg.proofs.MsgLaws.{before_are, after_are, before_known, after_known, named}
use Rattle.wire_msg.proofs.msg.check_parts.Goals as goal

pub returns-in_err-at : goal.returns-in_err-at
returns-in_err-at g c =
    let p = err_from_is_err_and c.from_residual.result c.from_residual.ensures.1 in
    rw (p.1, p.2) c.in_err-at.ensures

pub check_names-requires-clause-first : goal.check_names-requires-clause-first
check_names-requires-clause-first g c = ∣ before_known c.args.bytes.now c.in_ok-at.at c.in_ok-at.next (document_bytes c.in_ok-at.body) c.in_ok-at.ensures.sections ∣₁

pub check_names-requires-clause-last : goal.check_names-requires-clause-last
check_names-requires-clause-last g c = ∣ subst HasSequences (sym (take_rest c.args.bytes.now c.in_ok-at.next)) (after_known c.args.bytes.now c.in_ok-at.at c.in_ok-at.next (document_bytes c.in_ok-at.body) c.in_ok-at.ensures.sections) ∣₁

pub returns : goal.returns
returns g c =
    let bytes = c.args.bytes.now in
    let d = document_bytes c.in_ok-at.body in
    let s = c.in_ok-at.ensures.sections in
    named bytes c.in_ok-at.at c.in_ok-at.next d c.check_names.result (λ i. (c.type_inv.bytes i).fits) c.requires c.in_ok-at.ensures
    (c.check_names.ensures s.before s.body s.after s.before_fit (before_are bytes c.in_ok-at.at c.in_ok-at.next d s) s.spelled s.after_fit (take_rest bytes c.in_ok-at.next ∙ after_are bytes c.in_ok-at.at c.in_ok-at.next d s))
