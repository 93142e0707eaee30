use Rattle.std.proofs.Common.{◌≡◌, drop, map}
use Rattle.bson_doc.specs.Bson.{value_of}
use Rattle.test_store.specs.Adding.{add_each, adding_of}
use Rattle.test_store.specs.Held.{namespace_of}
use Rattle.test_store.proofs.adding.add_each.Given as goal

abbrev pub invariant-loop-index : goal.invariant-loop-index
invariant-loop-index l =
    add_each l.is_ordered (namespace_of l.namespace) (map value_of l.held) l.index (map value_of (drop l.index l.documents)) (adding_of l.adding)
    ≡ add_each l.is_ordered (namespace_of l.namespace) (map value_of l.held) 0 (map value_of l.documents) (adding_of l.fn.adding)
