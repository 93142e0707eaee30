use Rattle.text_writer.proofs.Lemmas.{word_first}
use Rattle.bson_text.proofs.value_text.write_timestamp.Goals as goal

pub returns : goal.returns
returns g c =
    word_first _ _ _ _ _ _ c.in_ok-write_all.ensures.bytes
    (word_first _ _ _ _ _ _ c.in_ok-write_number.ensures
    (word_first _ _ _ _ _ _ c.in_ok-write_all-2.ensures.bytes c.write_number-2.ensures))
