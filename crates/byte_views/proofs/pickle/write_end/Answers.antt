use Rattle.std.proofs.Common.{◌++◌, ◌∷◌, [], codes}
use Rattle.text_writer.proofs.Lemmas.{word_first}
use Rattle.byte_views.specs.Pickles.{long_pickle}
use Rattle.byte_views.proofs.pickle.write_end.Goals as goal

pub returns : goal.returns
returns g c =
    let last = word_first c.write_all-2.result _ _ _ (long_pickle c.args.names) (135 ∷ codes ".") c.in_ok-write_long.ensures c.write_all-2.ensures.bytes in
    word_first c.write_all-2.result _ _ _ (117 ∷ 104 ∷ 0 ∷ []) (long_pickle c.args.names ++ (135 ∷ codes ".")) c.in_ok-write_all.ensures.bytes last
