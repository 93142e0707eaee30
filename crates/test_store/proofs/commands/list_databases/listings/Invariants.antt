use Rattle.std.proofs.Common.{◌≡◌, ◌++◌, map}
use Rattle.bson_doc.specs.Bson.{value_of}
use Rattle.test_store.specs.Answers.{database_listing}
use Rattle.test_store.specs.Commands.{database_listings}
use Rattle.test_store.specs.Held.{collection_of}
use Rattle.test_store.proofs.Databases.{left_names}
use Rattle.test_store.proofs.commands.list_databases.listings.Given as goal

abbrev pub invariant-loop-i : goal.invariant-loop-i
invariant-loop-i l = map value_of l.found.items ++ map (database_listing l.name_only) (left_names l.collections l.i) ≡ database_listings l.name_only (map collection_of l.fn.collections)
