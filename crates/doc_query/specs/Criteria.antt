-- What may be asked of one value that a path reaches; None is one that is missing.
use Rattle.std.specs.Prelude.{Bool, false, Option, Some, None, is_some, unwrap_or}
use Rattle.bson_raw.specs.{TreeValue}
use Rattle.bson_doc.specs.{value_of}
use Rattle.doc_query.specs.declared.criteria.Criterion.{Criterion}
use Rattle.doc_query.specs.declared.criteria.Criterion.TheVariants as criteria
use Rattle.doc_query.specs.Conditions.{null, passes}
use Rattle.doc_query.specs.Decimals.{holds_decimal}

-- the value is there, and isn't compared
abbrev pub has_decimal : Option TreeValue → Bool
has_decimal None = false
has_decimal (Some v) = holds_decimal v

-- what may be asked of one value that a path reaches; None is one that is missing
abbrev pub fits : Criterion → Option TreeValue → Bool
fits (criteria.Passes op v) own = passes op (unwrap_or own null) (value_of v.now)
fits criteria.IsThere own = is_some own
fits criteria.HasDecimal own = has_decimal own
