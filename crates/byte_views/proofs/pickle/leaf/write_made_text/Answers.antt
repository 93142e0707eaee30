use Rattle.text_writer.proofs.Lemmas.{word_first}
use Rattle.byte_views.proofs.pickle.leaf.write_made_text.Goals as goal

pub returns : goal.returns
returns g c =
    word_first _ _ _ _ _ _ c.in_ok-begin_one.ensures
    (word_first _ _ _ _ _ _ c.in_ok-write_text.ensures c.end_one.ensures)
