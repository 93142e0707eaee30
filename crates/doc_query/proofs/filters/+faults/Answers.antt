use Rattle.std.proofs.Common.{◌≡◌, ◌+◌, Some, None, length, map, drop, ap, sym, ◌∙◌, arith}
use Rattle.std.proofs.lemmas.Bool.Decides.{nat_tests}
use Rattle.std.proofs.lemmas.List.{drop_all}
use Rattle.std.specs.Option.{option_or}
use Rattle.bson_doc.specs.Bson.{value_of}
use Rattle.bson_doc.specs.Depths.{tree_depth}
use Rattle.bson_doc.specs.Document.{tree_of}
use Rattle.doc_query.specs.Filters.{clause_fault, filter_fault, value_fault}
use Rattle.doc_query.proofs.Depths.{depth-with_first, element_depth, some_clause, values_left}
use Rattle.doc_query.proofs.Filtering.{array_fault_is, filter_fault-with_first, first_fault}
use Rattle.doc_query.proofs.filters.+faults.Goals as goal

pub filter_fault-value_fault-requires : goal.filter_fault-value_fault-requires
filter_fault-value_fault-requires t c =
    let first = ap tree_of c.in-Some.ensures.steps in
    let deep = depth-with_first c.in-Some.name.now (value_of c.in-Some.value.now) (tree_of c.next.new.self) in
    (omega (arith, c.loop-name.invariant.deep, ap tree_depth first, deep), tt)

pub array_fault-clause_fault-requires : goal.array_fault-clause_fault-requires
array_fault-clause_fault-requires t c =
    (omega (arith, element_depth 0 c.loop-clause.clause-index c.args.clauses.now c.clause-item.result c.loop-clause-test.true c.clause-item.is), tt)

pub filter_fault-loop-name-preserved : goal.filter_fault-loop-name-preserved
filter_fault-loop-name-preserved t c =
    let rest = tree_of c.next.new.self in
    let name = c.in-Some.name.now in
    let value = value_of c.in-Some.value.now in
    let none : value_fault name value ≡ None = sym c.value_fault.ensures ∙ c.in_default.is in
    let first = ap tree_of c.in-Some.ensures.steps in
    let deep = depth-with_first name value rest in
    record {
      deep = omega (arith, c.loop-name.invariant.deep, ap tree_depth first, deep);
      left = c.loop-name.invariant.left ∙ ap (λ ps. filter_fault (tree_of ps)) c.in-Some.ensures.steps
          ∙ filter_fault-with_first name value rest
          ∙ ap (λ o. option_or o (filter_fault rest)) none;
    }

pub filter_fault-returns-in-Some-value_fault : goal.filter_fault-returns-in-Some-value_fault
filter_fault-returns-in-Some-value_fault t c =
    let rest = tree_of c.next.new.self in
    let name = c.in-Some.name.now in
    let value = value_of c.in-Some.value.now in
    let fault : Some c.in-Some-value_fault.fault ≡ value_fault name value = c.in-Some-value_fault.ensures in
    sym (c.loop-name.invariant.left ∙ ap (λ ps. filter_fault (tree_of ps)) c.in-Some.ensures.steps
    ∙ filter_fault-with_first name value rest
    ∙ ap (λ o. option_or o (filter_fault rest)) (sym fault))

pub array_fault-returns-in-Some : goal.array_fault-returns-in-Some
array_fault-returns-in-Some t c =
    let clauses = c.args.clauses.now in
    let i = c.loop-clause.clause-index in
    let fault : clause_fault (value_of c.clause-item.result) ≡ Some c.in-Some.fault = sym c.clause_fault.ensures ∙ c.in-Some.is in
    sym (array_fault_is clauses (some_clause clauses i c.loop-clause-test.true)
    ∙ c.loop-clause.invariant
    ∙ ap first_fault (values_left clauses i c.clause-item.result c.loop-clause-test.true c.clause-item.is)
    ∙ ap (λ o. option_or o (first_fault (map value_of (drop (i + 1) clauses)))) fault)

pub array_fault-returns : goal.array_fault-returns
array_fault-returns t c =
    let clauses = c.args.clauses.now in
    let some : length clauses ≡ 0 → ⊥ = λ e. grind (arith, nat_tests, c.is_empty.ensures, c.if-is_empty.false) in
    sym (array_fault_is clauses some
    ∙ c.loop-clause.invariant
    ∙ ap (λ l. first_fault (map value_of l)) (drop_all c.loop-clause.clause-index clauses c.loop-clause-test.false))
