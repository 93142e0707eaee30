use Rattle.std.proofs.Common.{◌∙◌, sym, subst}
use Rattle.bson_elem.specs.Spelling.{IsName}
use Rattle.bson_raw.proofs.Lemmas.{decimal_is_name}
use Rattle.byte_views.proofs.build.builder.index_name.Goals as goal

pub returns : goal.returns
returns c =
    let text = c.as_bytes.ensures.value ∙ c.format.ensures.text in
    record { text = text; name = subst IsName (sym text) (decimal_is_name c.args.index c.ranges.index.fits) }
