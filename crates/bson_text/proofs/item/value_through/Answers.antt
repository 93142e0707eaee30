use Rattle.std.proofs.Common.{rules}
use Rattle.bson_text.proofs.item.value_through.Goals as goal

pub returns : goal.returns
returns g c = λ next. let written = c.write_item-written.ensures next in search (rules, written)
