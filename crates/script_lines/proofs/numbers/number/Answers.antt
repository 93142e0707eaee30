use Rattle.std.proofs.Common.{sym, ◌∙◌}
use Rattle.std.specs.Str.{IsValidUpTo, valid_up_to}
use Rattle.script_lines.proofs.Numerals.{no_text, numeral_is_text}
use Rattle.script_lines.proofs.numbers.number.Goals as goal

pub returns-in_err-text-clause-only : goal.returns-in_err-text-clause-only
returns-in_err-text-clause-only c = λ n is.
    absurd (no_text c.args.word.now c.from_utf8.result (λ e. IsValidUpTo c.args.word.now (valid_up_to e)) c.from_utf8.ensures.cases (sym c.ok.ensures.value ∙ c.in_err-text.was) (numeral_is_text c.args.word.now is.digits))
