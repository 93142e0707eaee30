use Rattle.std.proofs.Common.{◌≡◌, ◌++◌, drop, map}
use Rattle.bson_doc.specs.Bson.{value_of}
use Rattle.test_store.specs.Commands.{listings}
use Rattle.test_store.specs.Held.{collection_of}
use Rattle.test_store.proofs.commands.list_collections.push_listings.Given as goal

abbrev pub invariant-loop-collection : goal.invariant-loop-collection
invariant-loop-collection l = map value_of l.found.items ++ listings l.name_only l.database (map collection_of (drop l.collection-index l.collections)) ≡ map value_of l.fn.found.items ++ listings l.name_only l.database (map collection_of l.collections)
