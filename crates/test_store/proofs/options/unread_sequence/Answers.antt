use Rattle.std.proofs.Common.{refl, sym, ap, ◌∙◌}
use Rattle.test_store.specs.Options.{first_identifier}
use Rattle.test_store.proofs.Sequences.{first_read, first_unread, identifier_of}
use Rattle.test_store.proofs.options.unread_sequence.Goals as goal

pub returns-in_err-first : goal.returns-in_err-first
returns-in_err-first c = λ k carries.
    let none = (c.in_err-first.ensures.steps k.sequences (c.sequences-sequences.ensures k carries)).0 in
    rw (c.from_residual.ensures, none) refl

pub returns-then-not-reads_sequence : goal.returns-then-not-reads_sequence
returns-then-not-reads_sequence c = λ k carries.
    let step = c.in_ok-first.ensures.steps k.sequences (c.sequences-sequences.ensures k carries) in
    first_unread c.args.command c.in_ok-first.first.now k.sequences step.others step.sequence step.is_first step.identifier_is (sym c.reads_sequence.ensures ∙ c.if-not-reads_sequence.true)

pub returns-in_err-second : goal.returns-in_err-second
returns-in_err-second c = λ k carries.
    let step = c.in_ok-first.ensures.steps k.sequences (c.sequences-sequences.ensures k carries) in
    let none = (c.in_err-second.ensures.steps step.others step.left).0 in
    rw (c.from_residual-in_err-second.ensures)
    (first_read c.args.command c.in_ok-first.first.now k.sequences step.others step.sequence step.is_first step.identifier_is (sym c.reads_sequence.ensures ∙ c.if-not-reads_sequence.false) ∙ ap first_identifier none)

pub returns : goal.returns
returns c = λ k carries.
    let step = c.in_ok-first.ensures.steps k.sequences (c.sequences-sequences.ensures k carries) in
    let next = c.in_ok-second.ensures.steps step.others step.left in
    first_read c.args.command c.in_ok-first.first.now k.sequences step.others step.sequence step.is_first step.identifier_is (sym c.reads_sequence.ensures ∙ c.if-not-reads_sequence.false)
    ∙ identifier_of c.in_ok-second.second.now step.others next.others next.sequence next.is_first next.identifier_is
