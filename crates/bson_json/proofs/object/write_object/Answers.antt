use Rattle.std.proofs.Common.{◌++◌, codes, refl}
use Rattle.text_writer.proofs.Lemmas.{word_first}
use Rattle.bson_json.proofs.Choices.{exact_one}
use Rattle.bson_json.proofs.object.write_object.Goals as goal

pub returns : goal.returns
returns g c = λ t spelled.
    let inside = c.in_ok-write_pairs.ensures t spelled in
    exact_one c.write_all-2.result _ _ (codes "{" ++ (inside.0 ++ codes "}")) _ (inside.0, inside.1, refl)
    (word_first _ _ _ _ _ _ c.in_ok-write_all.ensures.bytes (word_first _ _ _ _ _ _ inside.2 c.write_all-2.ensures.bytes))
