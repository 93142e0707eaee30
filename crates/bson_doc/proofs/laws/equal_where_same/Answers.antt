use Rattle.bson_doc.specs.Codes.{coded_pairs, coded_values}
use Rattle.bson_doc.specs.Same.{same_is, is_same}
use Rattle.bson_doc.proofs.laws.equal_where_same.Goals as goal

pub returns-clause-documents : goal.returns-clause-documents
returns-clause-documents c = λ a b. (same_is coded_pairs a b, is_same coded_pairs a b)

pub returns-clause-arrays : goal.returns-clause-arrays
returns-clause-arrays c = λ a b. (same_is coded_values a b, is_same coded_values a b)
