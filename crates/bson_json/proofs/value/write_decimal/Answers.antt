use Rattle.text_writer.proofs.Lemmas.{word_first}
use Rattle.bson_json.proofs.value.write_decimal.Goals as goal

pub returns : goal.returns
returns g c =
    word_first _ _ _ _ _ _ c.in_ok-write_all.ensures.bytes
    (word_first _ _ _ _ _ _ c.in_ok-write_decimal128.ensures c.write_all-2.ensures.bytes)
