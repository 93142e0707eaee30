use Rattle.bson_elem.specs.declared.kinds.Kind.TheVariants.{Binary}
use Rattle.byte_views.specs.Pickles.{bytes_pickle, made_end, made_front, small_pickle}
use Rattle.byte_views.proofs.PickleLaws.{made_of_two}
use Rattle.byte_views.proofs.pickle.leaf.write_made_binary.Goals as goal

pub returns : goal.returns
returns g c =
    made_of_two c.end_made.result _ _ _ _ _ (made_front Binary) (small_pickle c.args.subtype) (bytes_pickle c.args.bytes.now) made_end
    c.in_ok-begin_made.ensures c.in_ok-write_all.ensures.bytes c.in_ok-write_bytes.ensures c.end_made.ensures
