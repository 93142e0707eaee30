use Rattle.std.proofs.Common.{sym, ◌∙◌}
use Rattle.bson_json.proofs.Doubles.{finite_text}
use Rattle.bson_json.proofs.double.number_text.Goals as goal

pub returns-then-is_finite : goal.returns-then-is_finite
returns-then-is_finite c =
    finite_text c.args.number _ (sym c.is_finite.ensures.value ∙ c.if-is_finite.true) c.format_finite_with_plus.ensures.parses c.format_finite_with_plus.ensures.layout
