use Rattle.std.proofs.Common.{◌≡◌, map, take}
use Rattle.bson_doc.specs.Bson.{value_of}
use Rattle.bson_doc.proofs.+copy.Given as goal

abbrev pub invariant-arrays::Array::try_clone-loop-value :
    goal.invariant-arrays::Array::try_clone-loop-value
invariant-arrays::Array::try_clone-loop-value l = map value_of l.values.items ≡ map value_of (take l.value-index l.value-items)

abbrev pub invariant-documents::Document::try_clone-loop-value :
    goal.invariant-documents::Document::try_clone-loop-value
invariant-documents::Document::try_clone-loop-value l = map value_of l.values.items ≡ map value_of (take l.value-index l.value-items)
