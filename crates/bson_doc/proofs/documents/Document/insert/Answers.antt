use Rattle.std.proofs.Common.{◌≡◌, true, false, sym, ◌∙◌, ap, Some, get_or, string_bytes, length-append, ◌∷◌, [], ◌+◌}
use Rattle.bson_doc.specs.Bson.{value_of}
use Rattle.bson_doc.proofs.Pairs.{value_there, value_nowhere, put_there, put_last, index_found, index_absent}
use Rattle.bson_doc.proofs.documents.Document.insert.Goals as goal

pub returns-in-Some-clause-ok : goal.returns-in-Some-clause-ok
returns-in-Some-clause-ok c =
    let keys = c.self.inside.names in
    let f = index_found (string_bytes c.args.name) keys c.in-Some.index (rw c.as_str.ensures.value at (sym c.get_index_of.ensures.index ∙ c.in-Some.is)) in
    let v = put_there (string_bytes c.args.name) keys c.self.inside.values.items c.args.value c.self.invariant f.1 in
    rw (← c.self.view_is, c.replace-before.ensures.after) (rw f.0 at v)

pub returns-in-Some-clause-before : goal.returns-in-Some-clause-before
returns-in-Some-clause-before c =
    let keys = c.self.inside.names in
    let f = index_found (string_bytes c.args.name) keys c.in-Some.index (rw c.as_str.ensures.value at (sym c.get_index_of.ensures.index ∙ c.in-Some.is)) in
    let v = value_there (string_bytes c.args.name) keys c.self.inside.values.items c.index_mut.result.now c.self.invariant f.1 in
    let old = c.replace-before.ensures.value ∙ c.index_mut.ensures.value in
    rw (← c.self.view_is) (ap (λ b. Some (value_of b)) (old ∙ ap (λ i. get_or c.self.inside.values.items i c.index_mut.result.now) (sym f.0)) ∙ sym v)

pub returns-in_ok-push_pair-in-None-clause-before : goal.returns-in_ok-push_pair-in-None-clause-before
returns-in_ok-push_pair-in-None-clause-before c =
    let keys = c.self.inside.names in
    let f = index_absent (string_bytes c.args.name) keys (rw c.as_str.ensures.value at (sym c.get_index_of.ensures.index ∙ c.in-None.is)) in
    rw (← c.self.view_is) (sym (value_nowhere (string_bytes c.args.name) keys c.self.inside.values.items f))

pub returns-in_ok-push_pair-in-None-clause-ok : goal.returns-in_ok-push_pair-in-None-clause-ok
returns-in_ok-push_pair-in-None-clause-ok c =
    let keys = c.self.inside.names in
    let f = index_absent (string_bytes c.args.name) keys (rw c.as_str.ensures.value at (sym c.get_index_of.ensures.index ∙ c.in-None.is)) in
    let v = put_last c.args.name keys c.self.inside.values.items c.args.value c.self.invariant f in
    rw (← c.self.view_is, c.in_ok-push_pair-in-None.ensures.name, c.in_ok-push_pair-in-None.ensures.value) v

pub invariant_of-self-in-None : goal.invariant_of-self-in-None
invariant_of-self-in-None c =
    rw (c.in_ok-push_pair-in-None.ensures.name, c.in_ok-push_pair-in-None.ensures.value) (length-append c.self.inside.names (c.args.name ∷ []) ∙ ap (λ n. n + 1) c.self.invariant ∙ sym (length-append c.self.inside.values.items (c.args.value ∷ [])))

pub returns-in_err-push_pair-in-None-clause-present : goal.returns-in_err-push_pair-in-None-clause-present
returns-in_err-push_pair-in-None-clause-present c = λ h.
    let keys = c.self.inside.names in
    let f = index_absent (string_bytes c.args.name) keys (rw c.as_str.ensures.value at (sym c.get_index_of.ensures.index ∙ c.in-None.is)) in
    let no : false ≡ true = rw (← c.self.view_is, value_nowhere (string_bytes c.args.name) keys c.self.inside.values.items f) at h in
    absurd cc

pub push_pair-requires : goal.push_pair-requires
push_pair-requires c = sym (rw (c.in-None.is, c.as_str.ensures.value) at c.get_index_of.ensures.found)
