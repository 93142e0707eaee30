use Rattle.std.proofs.Common.{◌≡◌, drop, map}
use Rattle.std.specs.Prelude.{option_map}
use Rattle.bson_doc.specs.Bson.{value_of}
use Rattle.doc_update.specs.Identity.{is_taken}
use Rattle.doc_update.proofs.identity.is_taken.Given as goal

abbrev pub invariant-loop-document : goal.invariant-loop-document
invariant-loop-document l =
    is_taken (option_map (λ v. value_of v.now) l.id) (map value_of (drop l.document-index l.documents))
    ≡ is_taken (option_map (λ v. value_of v.now) l.id) (map value_of l.documents)
