use mathlib.Core.Logic.{∥∥₁_map}
use Rattle.std.proofs.Common.{◌≡◌, ◌+◌, ◌-◌, ◌∙◌, sym, subst, arith, length, length-set, List, ℕ, ap, refl}
use Rattle.std.proofs.lemmas.Result.{err_from_is_err_and}
use Rattle.bson_elem.specs.Kinds.{byte_of}
use Rattle.bson_raw.specs.Spelled.{IsSpelled}
use Rattle.bson_elem.specs.declared.number.TheConstants.{MAX_LEN}
use Rattle.bson_doc.specs.Bson.{value_of}
use Rattle.bson_doc.specs.Appended.{with_pair_appended}
use Rattle.bson_doc.specs.Refusals.{IsLengthRefusal}
use Rattle.bson_doc.specs.Values.{element_bytes}
use Rattle.bson_doc.proofs.Appending.{least, cut_is, restored, elements_more, spells_more, name_refused, value_refused, size_refused}
use Rattle.bson_doc.proofs.append.append_pair.Goals as goal

pub overflow_sub-end : goal.overflow_sub-end
overflow_sub-end c = omega (arith, least c.args.bytes.now.items c.requires)

pub index_mut-requires : goal.index_mut-requires
index_mut-requires c = omega (arith, least c.args.bytes.now.items c.requires)

pub write_last-requires : goal.write_last-requires
write_last-requires c = record { begun = omega (arith, least c.args.bytes.now.items c.requires) }

pub returns-in_err-check_cstring-clause-refused : goal.returns-in_err-check_cstring-clause-refused
returns-in_err-check_cstring-clause-refused c = λ t spelled.
    let told = err_from_is_err_and c.from_residual.result c.from_residual.ensures.1 in
    rw (told.1, told.2, c.in_err-check_cstring.ensures.1)
    (name_refused t c.args.bytes.now.items c.args.name.now (value_of c.args.value.now) spelled c.in_err-check_cstring.ensures.0)

pub returns-in_err-check_value-clause-refused : goal.returns-in_err-check_value-clause-refused
returns-in_err-check_value-clause-refused c = λ t spelled.
    let told = err_from_is_err_and c.from_residual-in_err-check_value.result c.from_residual-in_err-check_value.ensures.1 in
    rw (told.1, told.2)
    (value_refused t c.args.bytes.now.items c.args.name.now (value_of c.args.value.now) c.in_err-check_value.field-0.0 spelled c.in_ok-check_cstring.ensures c.in_err-check_value.ensures.reason)

pub index_mut-requires-in-None : goal.index_mut-requires-in-None
index_mut-requires-in-None c =
    let bytes = c.args.bytes.now.items in
    let last : c.len-end.result - 1 + 1 ≡ length bytes = omega (arith, least bytes c.requires) in
    let kept = cut_is bytes c.write_last.new.out.items c.truncate.new.self.items (c.len-end.result - 1) c.byte.result last c.truncate.ensures.items c.in-None.ensures.kept in
    omega (arith, last, ap length kept, length-set bytes (c.len-end.result - 1) c.byte.result)

pub returns-in-None-clause-unchanged : goal.returns-in-None-clause-unchanged
returns-in-None-clause-unchanged c =
    let bytes = c.args.bytes.now.items in
    let last : c.len-end.result - 1 + 1 ≡ length bytes = omega (arith, least bytes c.requires) in
    restored bytes c.write_last.new.out.items c.truncate.new.self.items (c.len-end.result - 1) c.byte.result c.requires last c.truncate.ensures.items c.in-None.ensures.kept

pub returns-in-None-clause-spelled : goal.returns-in-None-clause-spelled
returns-in-None-clause-spelled c = subst (λ (x : List ℕ). ∥ IsSpelled x ∥₁) (sym (returns-in-None-clause-unchanged c)) c.requires

pub returns-in-None-clause-refused : goal.returns-in-None-clause-refused
returns-in-None-clause-refused c = λ t spelled.
    let bytes = c.args.bytes.now.items in
    let last : c.len-end.result - 1 + 1 ≡ length bytes = omega (arith, least bytes c.requires) in
    let v = value_of c.args.value.now in
    size_refused t bytes c.args.name.now v MAX_LEN c.refusal_of_pair.result refl spelled c.in_ok-check_cstring.ensures c.in_ok-check_value.ensures.reason
    (subst (λ (n : ℕ). IsLengthRefusal MAX_LEN (n + length (element_bytes c.args.name.now v)) c.refusal_of_pair.result) last c.refusal_of_pair.ensures)

pub returns-in-Some-clause-added : goal.returns-in-Some-clause-added
returns-in-Some-clause-added c = λ t spelled.
    let bytes = c.args.bytes.now.items in
    let last : c.len-end.result - 1 + 1 ≡ length bytes = omega (arith, least bytes c.requires) in
    let v = value_of c.args.value.now in
    spells_more t bytes c.write_last.new.out.items _ c.args.name.now v spelled c.utf8.name c.in_ok-check_cstring.ensures c.in_ok-check_value.ensures.reason c.in-Some.ensures.formed
    (elements_more t bytes (c.len-end.result - 1) c.byte.result c.args.name.now v spelled.parts last (c.byte.ensures ∙ ap byte_of c.kind.ensures)) c.in-Some.ensures.added (omega (arith, c.in-Some.ensures.within))

pub returns-in-Some-clause-spelled : goal.returns-in-Some-clause-spelled
returns-in-Some-clause-spelled c = ∥∥₁_map c.requires (λ s. (with_pair_appended c.args.name.now (value_of c.args.value.now) s.0, returns-in-Some-clause-added c s.0 s.1))
