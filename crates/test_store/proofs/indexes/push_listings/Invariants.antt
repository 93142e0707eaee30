use Rattle.std.proofs.Common.{◌≡◌, ◌++◌, drop, map}
use Rattle.bson_doc.specs.Bson.{value_of}
use Rattle.test_store.specs.Indexes.{index_listing, index_view}
use Rattle.test_store.proofs.indexes.push_listings.Given as goal

abbrev pub invariant-loop-index : goal.invariant-loop-index
invariant-loop-index l = map value_of l.listings.items ++ map index_listing (map index_view (drop l.index-index l.indexes)) ≡ map value_of l.fn.listings.items ++ map index_listing (map index_view l.indexes)
