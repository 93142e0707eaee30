use Rattle.std.proofs.Common.{◌≡◌, ◌<◌, ◌∙◌, refl, subst, sym}
use Rattle.std.specs.Char.{digit_value}
use Rattle.file_commands.proofs.HexLemmas.{all_ok, is_absent, takes_digit, takes_on, takes_other}
use Rattle.file_commands.proofs.hex_input.HexText.take.Goals as goal

pub returns-then-is_some-clause-decoded : goal.returns-then-is_some-clause-decoded
returns-then-is_some-clause-decoded c = λ text d. takes_on c.args.self.now _ text c.args.b d (sym c.is_some.ensures ∙ c.if-is_some.true) refl refl refl

pub returns-in_default-clause-decoded : goal.returns-in_default-clause-decoded
returns-in_default-clause-decoded c = λ text d.
    takes_other c.args.self.now _ text c.args.b d (is_absent c.args.self.now.other (sym c.is_some.ensures ∙ c.if-is_some.false))
    (subst (λ x. digit_value x < 16 → ⊥) c.from.ensures c.in_default.ensures.value) refl refl refl

pub returns-clause-decoded : goal.returns-clause-decoded
returns-clause-decoded c = λ text d.
    let none = is_absent c.args.self.now.other (sym c.is_some.ensures ∙ c.if-is_some.false) in
    let value = subst (λ x. (digit_value x < 16) × (c.in-Some.digit ≡ digit_value x)) c.from.ensures c.in-Some.ensures.value in
    all_ok c.take_digit.result c.take_digit.ensures.bytes c.take_digit.ensures.high c.take_digit.ensures.count
    (λ bytes high count. takes_digit c.args.self.now c.take_digit.new.self text c.args.b c.in-Some.digit d none value.0 value.1 c.take_digit.ensures.other count bytes high)
