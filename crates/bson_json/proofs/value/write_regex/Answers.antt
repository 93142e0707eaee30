use Rattle.text_writer.proofs.Lemmas.{word_first}
use Rattle.bson_json.proofs.value.write_regex.Goals as goal

pub returns : goal.returns
returns g c =
    word_first _ _ _ _ _ _ c.in_ok-write_all.ensures.bytes
    (word_first _ _ _ _ _ _ c.in_ok-write_quoted.ensures
    (word_first _ _ _ _ _ _ c.in_ok-write_all-2.ensures.bytes
    (word_first _ _ _ _ _ _ c.in_ok-write_options.ensures c.write_all-3.ensures.bytes)))
