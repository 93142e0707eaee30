use mathlib.Core.Bool.{beq}
use Rattle.std.proofs.Common.{◌≡◌, ◌+◌, Bool, true, false, not, ◌&&◌, map, drop, ap, sym, ◌∙◌, arith}
use Rattle.std.proofs.lemmas.List.{drop_all}
use Rattle.bson_doc.specs.Bson.{value_of}
use Rattle.bson_doc.specs.Depths.{tree_depth}
use Rattle.bson_doc.specs.Document.{tree_of}
use Rattle.doc_query.specs.Filters.{has_clause, has_fields, has_pair}
use Rattle.doc_query.proofs.Depths.{depth-with_first, element_depth, values_left}
use Rattle.doc_query.proofs.Filtering.{clauses_hold, has_clauses_is, has_fields-with_first, left_open, settled}
use Rattle.doc_query.proofs.filters.+asking.Goals as goal

pub has_fields-has_pair-requires : goal.has_fields-has_pair-requires
has_fields-has_pair-requires t c =
    let first = ap tree_of c.in-Some.ensures.steps in
    let deep = depth-with_first c.in-Some.name.now (value_of c.in-Some.value.now) (tree_of c.next.new.self) in
    (omega (arith, c.loop-name.invariant.deep, ap tree_depth first, deep), tt)

pub has_clauses-has_clause-requires : goal.has_clauses-has_clause-requires
has_clauses-has_clause-requires t c =
    (omega (arith, element_depth 0 c.loop-clause.clause-index c.args.clauses.now c.clause-item.result c.loop-clause-test.true c.clause-item.is), tt)

pub has_fields-loop-name-preserved : goal.has_fields-loop-name-preserved
has_fields-loop-name-preserved t c =
    let name = c.in-Some.name.now in
    let value = value_of c.in-Some.value.now in
    let rest = tree_of c.next.new.self in
    let p = c.args.purpose in
    let document = tree_of c.args.document.now in
    let test : has_pair name value p document ≡ true = sym c.has_pair.ensures ∙ c.if-not-has_pair.false in
    let first = ap tree_of c.in-Some.ensures.steps in
    let deep = depth-with_first name value rest in
    record {
      deep = omega (arith, c.loop-name.invariant.deep, ap tree_depth first, deep);
      left = c.loop-name.invariant.left ∙ ap (λ ps. has_fields (tree_of ps) p document) c.in-Some.ensures.steps
          ∙ has_fields-with_first name value rest p document
          ∙ ap (λ (b : Bool). b && has_fields rest p document) test;
    }

pub has_fields-returns-then-not-has_pair : goal.has_fields-returns-then-not-has_pair
has_fields-returns-then-not-has_pair t c =
    let name = c.in-Some.name.now in
    let value = value_of c.in-Some.value.now in
    let rest = tree_of c.next.new.self in
    let p = c.args.purpose in
    let document = tree_of c.args.document.now in
    let test : has_pair name value p document ≡ false = sym c.has_pair.ensures ∙ c.if-not-has_pair.true in
    sym (c.loop-name.invariant.left ∙ ap (λ ps. has_fields (tree_of ps) p document) c.in-Some.ensures.steps
    ∙ has_fields-with_first name value rest p document
    ∙ ap (λ (b : Bool). b && has_fields rest p document) test)

pub has_clauses-returns-then-has_clause-otherwise : goal.has_clauses-returns-then-has_clause-otherwise
has_clauses-returns-then-has_clause-otherwise t c =
    let l = c.args.logical in
    let p = c.args.purpose in
    let document = tree_of c.args.document.now in
    let clauses = c.args.clauses.now in
    let i = c.loop-clause.clause-index in
    let otherwise = c.joined_none-otherwise.result in
    let differs = ap (λ (b : Bool). not (beq b otherwise)) (sym c.has_clause.ensures) ∙ c.if-has_clause-otherwise.true in
    sym (has_clauses_is 0 (map value_of clauses) l p document
    ∙ c.loop-clause.invariant
    ∙ ap (clauses_hold l p document) (values_left clauses i c.clause-item.result c.loop-clause-test.true c.clause-item.is)
    ∙ settled l (has_clause (value_of c.clause-item.result) p document) (clauses_hold l p document (map value_of (drop (i + 1) clauses))) otherwise differs c.joined_none-otherwise.ensures)

pub has_clauses-loop-clause-preserved : goal.has_clauses-loop-clause-preserved
has_clauses-loop-clause-preserved t c =
    let l = c.args.logical in
    let p = c.args.purpose in
    let document = tree_of c.args.document.now in
    let clauses = c.args.clauses.now in
    let i = c.loop-clause.clause-index in
    let otherwise = c.joined_none-otherwise.result in
    let same = ap (λ (b : Bool). not (beq b otherwise)) (sym c.has_clause.ensures) ∙ c.if-has_clause-otherwise.false in
    c.loop-clause.invariant
    ∙ ap (clauses_hold l p document) (values_left clauses i c.clause-item.result c.loop-clause-test.true c.clause-item.is)
    ∙ left_open l (has_clause (value_of c.clause-item.result) p document) (clauses_hold l p document (map value_of (drop (i + 1) clauses))) otherwise same c.joined_none-otherwise.ensures

pub has_clauses-returns : goal.has_clauses-returns
has_clauses-returns t c =
    let l = c.args.logical in
    let p = c.args.purpose in
    let document = tree_of c.args.document.now in
    let clauses = c.args.clauses.now in
    c.joined_none-otherwise.ensures
    ∙ sym (has_clauses_is 0 (map value_of clauses) l p document
    ∙ c.loop-clause.invariant
    ∙ ap (λ rest. clauses_hold l p document (map value_of rest)) (drop_all c.loop-clause.clause-index clauses c.loop-clause-test.false))
