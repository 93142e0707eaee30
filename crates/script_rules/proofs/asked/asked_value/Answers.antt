use Rattle.std.proofs.Common.{◌≡◌, Bool, None, Some, subst, sym, ap, ◌∙◌}
use Rattle.std.specs.Prelude.{if◌then◌else◌, option_map}
use Rattle.std.specs.Coded.{coded_option}
use base.Stored.{Coded-set}
use Rattle.bson_doc.specs.{coded_value}
use Rattle.doc_query.specs.{IsFailure, body_of}
use Rattle.wire_peer.proofs.Lemmas.{of_content}
use Rattle.script_rules.specs.Asked.{asked_value, document_of}
use Rattle.script_rules.proofs.WholeBody.{no_body, read_body}
use Rattle.script_rules.proofs.asked.asked_value.Goals as goal

pub returns-in-Err-Refused : goal.returns-in-Err-Refused
returns-in-Err-Refused c =
    of_content c.args.payload {P = λ k. None ≡ asked_value k} (Coded-set (coded_option coded_value) _ _)
    (λ k carries. no_body k _ (subst (λ e. IsFailure (body_of k.body) e) c.in-Err-Refused.field-0-is (c.in-Err-Refused.ensures.refused k.body (c.body.ensures k carries))))

pub returns-then-not-branch : goal.returns-then-not-branch
returns-then-not-branch c =
    of_content c.args.payload {P = λ k. None ≡ asked_value k} (Coded-set (coded_option coded_value) _ _)
    (λ k carries. sym (read_body k c.in-Ok.body (c.in-Ok.ensures.ok k.body (c.body.ensures k carries))
    ∙ ap (option_map document_of) (c.in_ok-put_sequences.ensures k carries
    ∙ ap (λ (fits : Bool). if fits then Some c.put_sequences.new.body else None) c.if-not-branch.true)))

pub returns : goal.returns
returns c =
    of_content c.args.payload {P = λ k. Some (document_of c.put_sequences.new.body) ≡ asked_value k} (Coded-set (coded_option coded_value) _ _)
    (λ k carries. sym (read_body k c.in-Ok.body (c.in-Ok.ensures.ok k.body (c.body.ensures k carries))
    ∙ ap (option_map document_of) (c.in_ok-put_sequences.ensures k carries
    ∙ ap (λ (fits : Bool). if fits then Some c.put_sequences.new.body else None) c.if-not-branch.false)))
