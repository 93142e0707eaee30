use Rattle.std.proofs.Common.{sym, ◌∙◌}
use Rattle.std.proofs.lemmas.Bool.{ne_eqb}
use Rattle.bson_raw.proofs.DigitLaws.{same_digit, other_digit, no_digit}
use Rattle.bson_raw.proofs.name.+is_decimal.Goals as goal

pub returns-in-empty : goal.returns-in-empty
returns-in-empty t c = sym (no_digit c.args.name.now c.args.index c.in-empty.len_below c.if-index-lt10.false c.ranges.index.fits)

pub returns-then-from-index : goal.returns-then-from-index
returns-then-from-index t c =
    same_digit c.args.name.now c.args.index c.is_decimal.result c.in-len1-up.len_at_least c.if-index-lt10.false c.ranges.index.fits (sym c.from.ensures ∙ c.if-from-index.true) c.is_decimal.ensures

pub returns-else-from-index : goal.returns-else-from-index
returns-else-from-index t c =
    ne_eqb _ _ c.if-from-index.false ∙ sym (other_digit c.args.name.now c.args.index c.in-len1-up.len_at_least c.if-index-lt10.false c.ranges.index.fits (λ same. c.if-from-index.false (c.from.ensures ∙ same)))
