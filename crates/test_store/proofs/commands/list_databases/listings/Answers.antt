use Rattle.std.proofs.Common.{rules, ◌≡◌, ◌++◌, ◌+◌, ◌∷◌, [], List, true, false, map, take, ap, ◌∙◌, string_bytes}
use Rattle.std.proofs.lemmas.List.{append_assoc, map_push}
use Rattle.bson_doc.specs.declared.bson_values.Bson.{Bson}
use Rattle.bson_doc.specs.Bson.{value_of}
use Rattle.test_store.specs.Answers.{database_listing}
use Rattle.test_store.specs.Held.{collection_of, database_names, has_database}
use Rattle.test_store.proofs.Databases.{all_others, left_names, left_step, others}
use Rattle.test_store.proofs.commands.list_databases.listings.Goals as goal
use Rattle.test_store.proofs.commands.list_databases.listings.Goals.{then-not-has_database+in_ok-push_listing, else-not-has_database}

pub loop-i-init : goal.loop-i-init
loop-i-init c =
    let names = database_names (map collection_of c.args.collections.now) in
    ap (λ (l : List Bson). map value_of l ++ map (database_listing c.args.name_only) (others [] names)) c.new-found.ensures.items
    ∙ ap (map (database_listing c.args.name_only)) (all_others names)

pub loop-i-preserved : goal.loop-i-preserved
loop-i-preserved c =
    let cs = c.args.collections.now in
    let i = c.loop-i.i in
    let x = c.index-collections-i.result in
    let f = database_listing c.args.name_only in
    let name = string_bytes x.namespace.database in
    elim c.if-not-has_database.branch [
      | then-not-has_database+in_ok-push_listing w ↦
          let none : has_database name (map collection_of (take i cs)) ≡ false = search rules in
          let step : left_names cs i ≡ name ∷ left_names cs (i + 1) = left_step cs i x false c.loop-i-test.true c.index-collections-i.is none in
          search (rules, step, map_push, append_assoc)
      | else-not-has_database w ↦
          let one : has_database name (map collection_of (take i cs)) ≡ true = search rules in
          let step : left_names cs i ≡ left_names cs (i + 1) = left_step cs i x true c.loop-i-test.true c.index-collections-i.is one in
          search (rules, step)
    ]
