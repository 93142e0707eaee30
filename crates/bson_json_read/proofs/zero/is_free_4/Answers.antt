use Rattle.std.proofs.Common.{◌∙◌, arith, eqb-true, sym}
use Rattle.bson_json_read.proofs.Zeros.{none_free}
use Rattle.bson_json_read.proofs.zero.is_free_4.Goals as goal

pub returns : goal.returns
returns c = λ none.
    none_free c.args.bytes.now 4 c.requires.least (omega (arith, c.requires.most)) (sym c.zeros_4.ensures ∙ c.if-zeros_4-ne0.false) (sym c.zeros_4-2.ensures ∙ eqb-true c.zeros_4-2.result 0 none)
