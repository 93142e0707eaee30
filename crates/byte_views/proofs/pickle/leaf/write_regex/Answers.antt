use Rattle.std.proofs.Common.{codes}
use Rattle.bson_elem.specs.declared.kinds.Kind.TheVariants.{Regex}
use Rattle.byte_views.specs.Pickles.{made_end, made_front, text_pickle}
use Rattle.byte_views.proofs.PickleLaws.{made_of_two}
use Rattle.byte_views.proofs.pickle.leaf.write_regex.Goals as goal

pub returns : goal.returns
returns g c =
    made_of_two c.end_made.result _ _ _ _ _ (made_front Regex) (text_pickle c.args.pattern.now) (text_pickle c.args.options.now) made_end
    c.in_ok-begin_made.ensures c.in_ok-write_text.ensures c.in_ok-write_text-2.ensures c.end_made.ensures
