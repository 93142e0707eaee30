use Rattle.std.proofs.Common.{◌≡◌, ◌≢◌, ℕ, List, ◌∷◌, ◌++◌, Some, None, Bool, true, false, not, length, sym, ap, subst, ◌∙◌, arith, rules}
use Rattle.std.specs.Prelude.{codes}
use Rattle.std.specs.Str.{bytes_eq}
use Rattle.std.proofs.lemmas.Bool.{eqb-true}
use Rattle.std.proofs.lemmas.Bool.Decides.{nat_tests}
use Rattle.std.proofs.lemmas.Str.Pattern.{split_after, split_parts}
use Rattle.bson_elem.specs.Spelling.{IsName}
use Rattle.wire_query.specs.Queries.{command_name}
use Rattle.wire_query.proofs.check.database_of.Goals as goal
use Rattle.wire_query.proofs.check.database_of.Goals.{then-is_empty-via-then-is_empty, then-is_empty-via-else-is_empty+then-ne}

-- the collection's own name was compared
no_other : (name : List ℕ) (differs : Bool) → name ≡ codes "$cmd" → differs ≡ not (bytes_eq name (codes "$cmd")) → differs ≡ true → ⊥
no_other name differs is told true_is = let same : false ≡ true = sym (ap (λ (x : List ℕ). not (bytes_eq x (codes "$cmd"))) is) ∙ sym told ∙ true_is in absurd cc

pub returns-in_err-database : goal.returns-in_err-database
returns-in_err-database c = rw c.from_residual.ensures (λ k. split_after 46 c.args.name.now k.0 (codes "$cmd") None c.in_err-database.ensures.cases (omega arith) k.2 k.1.no_dot)

pub returns-then-is_empty : goal.returns-then-is_empty
returns-then-is_empty c = λ k.
    let database : List ℕ = c.in_ok-database.database.now in
    let collection : List ℕ = c.in_ok-database.collection.now in
    let same = split_after 46 c.args.name.now k.0 (codes "$cmd") (Some (c.in_ok-database.database, c.in_ok-database.collection)) c.in_ok-database.ensures.cases (omega arith) k.2 k.1.no_dot in
    elim c.then-is_empty.branch [
      | then-is_empty-via-then-is_empty w ↦ omega (arith, k.1.some, ap length same.0, eqb-true (length database) 0 (sym c.is_empty.ensures ∙ w.if-is_empty.true))
      | then-is_empty-via-else-is_empty+then-ne w ↦ no_other collection w.ne.result same.1 w.ne.ensures w.if-ne.true
    ]

pub returns : goal.returns
returns c =
    let database : List ℕ = c.in_ok-database.database.now in
    let collection : List ℕ = c.in_ok-database.collection.now in
    let p = split_parts 46 c.args.name.now (Some (c.in_ok-database.database, c.in_ok-database.collection)) c.in_ok-database.ensures.cases (omega arith) in
    let some : length database ≢ 0 = λ e. grind (arith, nat_tests) in
    let command : collection ≡ codes "$cmd" = search rules in
    let is : c.args.name.now ≡ command_name database = p.0 ∙ ap (λ (x : List ℕ). database ++ 46 ∷ x) command in
    (record { some = omega (arith, some); no_dot = p.1; full_name = subst IsName is c.requires }, is)
