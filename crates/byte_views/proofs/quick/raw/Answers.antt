use Rattle.std.proofs.Common.{◌≡◌, Ok, arith, drop, subst, sym, take}
use Rattle.std.proofs.lemmas.List.{length-drop, length-take}
use Rattle.bson_elem.specs.Checks.{a_leaf, value_at}
use Rattle.bson_elem.specs.Trees.{raw_value}
use Rattle.byte_views.proofs.QuickLaws.{raw_read, with_raw}
use Rattle.byte_views.proofs.quick.raw.Goals as goal

pub returns : goal.returns
returns c = λ depth at k form none.
    let n = c.args.size in
    let rest = c.args.rest.now in
    record {
      value = a_leaf (raw_value (take n rest));
      after = drop n rest;
      read = subst (λ f. value_at depth at c.args.from f rest ≡ Ok (a_leaf (raw_value (take n rest)), drop n rest)) (sym form) (raw_read depth at c.args.from n rest c.if-rest-size.false);
      size = omega (arith, length-drop n rest, c.if-rest-size.false);
      place = with_raw c.args.bare k c.args.from n (take n rest) _ c.requires (none (take n rest)) (omega (arith, length-take n rest, c.if-rest-size.false)) c.new-bytes.ensures;
    }
