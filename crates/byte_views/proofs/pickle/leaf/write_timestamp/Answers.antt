use Rattle.text_writer.proofs.Lemmas.{word_first}
use Rattle.byte_views.proofs.pickle.leaf.write_timestamp.Goals as goal

pub returns : goal.returns
returns g c =
    word_first _ _ _ _ _ _ c.in_ok-begin_made.ensures
    (word_first _ _ _ _ _ _ c.in_ok-write_unsigned.ensures
    (word_first _ _ _ _ _ _ c.in_ok-write_unsigned-2.ensures c.end_made.ensures))
