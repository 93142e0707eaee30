use Rattle.std.proofs.Common.{rules, ◌≡◌, None}
use Rattle.test_store.specs.Held.{held_indexes, namespace_of, store_of, without_collection}
use Rattle.test_store.proofs.Places.{none_held}
use Rattle.test_store.proofs.commands.drop_collection.drop_collection.Goals as goal

pub returns-in_default-clause-carried : goal.returns-in_default-clause-carried
returns-in_default-clause-carried c =
    let n = namespace_of c.in_ok-namespace.namespace in
    let cs = (store_of c.args.store.now).collections in
    let held : held_indexes n cs ≡ None = search rules in
    let gone : without_collection n cs ≡ None = none_held n cs held in
    search (rules, gone)
