use Rattle.std.proofs.Common.{refl}
use Rattle.bson_json.proofs.Choices.{word_then_one}
use Rattle.bson_json.proofs.pairs.write_pair.Goals as goal

pub returns : goal.returns
returns g c = λ v shown. word_then_one _ _ _ _ _ _ _ (λ x p. (x, p, refl)) c.in_ok-write_label.ensures (c.write_front.ensures v shown)
