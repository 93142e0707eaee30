use Rattle.std.proofs.Common.{◌∙◌, [], inl, inr, refl}
use Rattle.std.proofs.lemmas.Result.{err_from_is_err_and}
use Rattle.bson_json_read.proofs.HeldLemmas.{fault_fails, fault_is_next, open_text, text_is_next}
use Rattle.bson_json_read.proofs.text_reader.TextReader.next_bytes.Goals as goal

pub returns-in_err-begun-clause-err : goal.returns-in_err-begun-clause-err
returns-in_err-begun-clause-err c =
    let p = err_from_is_err_and c.from_residual.result c.from_residual.ensures.1 in
    rw (p.1, p.2) (inr (λ more may. fault_fails _ _ (c.in_err-begun.ensures.err more may)))

pub returns-in_err-read-in-Ok-clause-err : goal.returns-in_err-read-in-Ok-clause-err
returns-in_err-read-in-Ok-clause-err c =
    let p = err_from_is_err_and c.from_residual-in_err-read-in-Ok.result c.from_residual-in_err-read-in-Ok.ensures.1 in
    rw (p.1, p.2) (elim c.in_err-read-in-Ok.ensures.err [
      | inl memory ↦ inl memory
      | inr f ↦ inr (λ more may. rw c.write_line.ensures.kept at (f c.args.last c.in-Ok.ensures.ends more may))
    ])

pub returns-in_ok-read-in-Ok-clause-ok : goal.returns-in_ok-read-in-Ok-clause-ok
returns-in_ok-read-in-Ok-clause-ok c = λ more may. rw c.write_line.ensures.kept at (c.in_ok-read-in-Ok.ensures.ok c.args.last c.in-Ok.ensures.ends more may)

pub returns-in-Err-clause-open : goal.returns-in-Err-clause-open
returns-in-Err-clause-open c = λ e.
    let open_is = rw c.write_line.ensures.kept at c.in-Err.ensures.open in
    let begun = rw c.in-Some.is at c.in_ok-begun.ensures.begun in
    (open_is.0, c.self.view_is ∙ c.write_line.ensures.kept, open_text c.args.self.now.frame c.args.self.now.bytes c.in-Some.begun c.in-Err.scan begun open_is.1 open_is.2)

pub returns-in_err-begun-clause-at_end : goal.returns-in_err-begun-clause-at_end
returns-in_err-begun-clause-at_end c = λ is_last ends.
    absurd (fault_is_next c.args.self.now.frame c.args.self.now.bytes _ (c.in_err-begun.ensures.err [] (λ e. refl)) ends)

pub returns-in-Some-write_line-clause-at_end : goal.returns-in-Some-write_line-clause-at_end
returns-in-Some-write_line-clause-at_end c = λ is_last ends.
    absurd (text_is_next c.args.self.now.frame c.args.self.now.bytes c.in-Some.begun (rw c.in-Some.is at c.in_ok-begun.ensures.begun) ends)

pub returns-in_err-read-in-Ok-clause-at_end : goal.returns-in_err-read-in-Ok-clause-at_end
returns-in_err-read-in-Ok-clause-at_end c = λ is_last ends.
    absurd (text_is_next c.args.self.now.frame c.args.self.now.bytes c.in-Some.begun (rw c.in-Some.is at c.in_ok-begun.ensures.begun) ends)

pub returns-in_ok-read-in-Ok-clause-at_end : goal.returns-in_ok-read-in-Ok-clause-at_end
returns-in_ok-read-in-Ok-clause-at_end c = λ is_last ends.
    absurd (text_is_next c.args.self.now.frame c.args.self.now.bytes c.in-Some.begun (rw c.in-Some.is at c.in_ok-begun.ensures.begun) ends)
