use Rattle.std.proofs.Common.{sym, ◌∙◌}
use Rattle.bson_json.proofs.Doubles.{nan_named, negative_named, positive_named}
use Rattle.bson_json.proofs.double.special_name.Goals as goal

pub returns-then-is_nan : goal.returns-then-is_nan
returns-then-is_nan c = nan_named c.args.number (sym c.is_nan.ensures.value ∙ c.if-is_nan.true)

pub returns-then-is_sign_negative : goal.returns-then-is_sign_negative
returns-then-is_sign_negative c =
    negative_named c.args.number c.requires (sym c.is_nan.ensures.value ∙ c.if-is_nan.false) (sym c.is_sign_negative.ensures ∙ c.if-is_sign_negative.true)

pub returns-else-is_sign_negative : goal.returns-else-is_sign_negative
returns-else-is_sign_negative c =
    positive_named c.args.number c.requires (sym c.is_nan.ensures.value ∙ c.if-is_nan.false) (sym c.is_sign_negative.ensures ∙ c.if-is_sign_negative.false)
