use Rattle.std.proofs.Common.{rules, ◌∙◌, ap, sym, arith}
use Rattle.bson_doc.specs.Bson.{value_of}
use Rattle.test_store.specs.Indexes.{is_key_document}
use Rattle.test_store.proofs.Indexing.{key_document}
use Rattle.test_store.proofs.indexes.is_key_document.Goals as goal

pub returns-then-not-is_empty : goal.returns-then-not-is_empty
returns-then-not-is_empty c =
    c.are_keys.ensures ∙ sym (key_document c.in-Document.key (search (rules, arith)))
    ∙ sym (ap (λ v. is_key_document (value_of v)) c.in-Document.is)
