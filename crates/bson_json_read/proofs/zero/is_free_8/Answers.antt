use Rattle.std.proofs.Common.{◌∙◌, arith, eqb-true, sym}
use Rattle.bson_json_read.proofs.Zeros.{none_free}
use Rattle.bson_json_read.proofs.zero.is_free_8.Goals as goal

pub returns : goal.returns
returns c = λ none.
    none_free c.args.bytes.now 8 c.requires.least (omega (arith, c.requires.most)) (sym c.zeros_8.ensures ∙ c.if-zeros_8-ne0.false) (sym c.zeros_8-2.ensures ∙ eqb-true c.zeros_8-2.result 0 none)
