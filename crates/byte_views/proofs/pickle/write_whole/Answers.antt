use Rattle.std.proofs.Common.{◌++◌}
use Rattle.text_writer.proofs.Lemmas.{word_first}
use Rattle.bson_elem.specs.declared.kinds.Kind.TheVariants.{Document}
use Rattle.byte_views.specs.Pickles.{end, front, names_in, pairs_pickle}
use Rattle.byte_views.proofs.pickle.write_whole.Goals as goal

pub returns : goal.returns
returns g c = λ t spelled.
    let pairs = c.in_ok-names.ensures t spelled in
    let last = end (names_in Document t) in
    let rest = word_first c.write_end.result _ _ _ (pairs_pickle Document t) last pairs.1 (rw pairs.0 at c.write_end.ensures) in
    word_first c.write_end.result _ _ _ front (pairs_pickle Document t ++ last) c.in_ok-write_all.ensures.bytes rest
