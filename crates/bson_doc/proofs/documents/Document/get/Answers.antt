use Rattle.std.proofs.Common.{sym, ◌∙◌, ap, Some, get_or}
use Rattle.bson_doc.specs.Bson.{value_of}
use Rattle.bson_doc.proofs.Pairs.{value_there, value_nowhere, index_found, index_absent}
use Rattle.bson_doc.proofs.documents.Document.get.Goals as goal

pub returns : goal.returns
returns c =
    let keys = c.self.inside.names in
    let f = index_found c.args.name.now keys c.in_ok-index.index (sym c.get_index_of.ensures.index ∙ c.in_ok-index.was) in
    let v = value_there c.args.name.now keys c.self.inside.values.items c.index.result.now c.self.invariant f.1 in
    let same = c.index.ensures ∙ ap (λ i. get_or c.self.inside.values.items i c.index.result.now) (sym f.0) in
    rw (← c.self.view_is) (ap (λ b. Some (value_of b)) same ∙ sym v)

pub returns-in_err-index : goal.returns-in_err-index
returns-in_err-index c =
    let keys = c.self.inside.names in
    let f = index_absent c.args.name.now keys (sym c.get_index_of.ensures.index ∙ c.in_err-index.was) in
    rw (c.from_residual.ensures, ← c.self.view_is) (sym (value_nowhere c.args.name.now keys c.self.inside.values.items f))
