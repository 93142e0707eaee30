use Rattle.std.proofs.Common.{◌≡◌, ◌<◌, ◌^◌, ◌∙◌, decimal, arith}
use Rattle.std.proofs.lemmas.Fmt.{decimal_is_IsNumeral_wide}
use Rattle.bson_json.proofs.decimal128.write_finite.Goals as goal

pub write_digits-requires-clause-some : goal.write_digits-requires-clause-some
write_digits-requires-clause-some g c =
    let text : c.as_bytes-digits.result.now ≡ decimal c.coefficient.result = c.as_bytes-digits.ensures.value ∙ c.format.ensures.text in
    let small : c.coefficient.result < 10 ^ 64 = omega (arith, c.coefficient.ensures.small) in
    rw text (decimal_is_IsNumeral_wide c.coefficient.result small).0.0
