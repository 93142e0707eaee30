use Rattle.std.proofs.Common.{sym, ◌∙◌, ap, arith, Some, get_or}
use Rattle.bson_doc.specs.Bson.{value_of}
use Rattle.bson_doc.proofs.Pairs.{value_there, value_nowhere, taken_out, nothing_out, both_removed, index_found, index_absent}
use Rattle.bson_doc.proofs.documents.Document.remove.Goals as goal

pub returns-in_err-index-clause-after : goal.returns-in_err-index-clause-after
returns-in_err-index-clause-after c =
    let keys = c.self.inside.names in
    let f = index_absent c.args.name.now keys (sym c.get_index_of.ensures.index ∙ c.in_err-index.was) in
    rw (← c.self.view_is) (sym (nothing_out c.args.name.now keys c.self.inside.values.items f))

pub returns-in_err-index-clause-value : goal.returns-in_err-index-clause-value
returns-in_err-index-clause-value c =
    let keys = c.self.inside.names in
    let f = index_absent c.args.name.now keys (sym c.get_index_of.ensures.index ∙ c.in_err-index.was) in
    rw (c.from_residual.ensures, ← c.self.view_is) (sym (value_nowhere c.args.name.now keys c.self.inside.values.items f))

pub invariant_of-self : goal.invariant_of-self
invariant_of-self c =
    let keys = c.self.inside.names in
    let f = index_found c.args.name.now keys c.in_ok-index.index (sym c.get_index_of.ensures.index ∙ c.in_ok-index.was) in
    rw (c.remove.ensures, c.remove-2.ensures.items) (both_removed keys c.self.inside.values.items c.in_ok-index.index c.self.invariant (omega arith))

pub returns-clause-after : goal.returns-clause-after
returns-clause-after c =
    let keys = c.self.inside.names in
    let f = index_found c.args.name.now keys c.in_ok-index.index (sym c.get_index_of.ensures.index ∙ c.in_ok-index.was) in
    let t = taken_out c.args.name.now keys c.self.inside.values.items c.self.invariant f.1 in
    rw (← c.self.view_is, c.remove.ensures, c.remove-2.ensures.items) (rw f.0 at t)

pub returns-clause-value : goal.returns-clause-value
returns-clause-value c =
    let keys = c.self.inside.names in
    let f = index_found c.args.name.now keys c.in_ok-index.index (sym c.get_index_of.ensures.index ∙ c.in_ok-index.was) in
    let v = value_there c.args.name.now keys c.self.inside.values.items c.remove-2.result c.self.invariant f.1 in
    let same = c.remove-2.ensures.value ∙ ap (λ i. get_or c.self.inside.values.items i c.remove-2.result) (sym f.0) in
    rw (← c.self.view_is) (ap (λ b. Some (value_of b)) same ∙ sym v)
