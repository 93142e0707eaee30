-- The document that a text is.
use Rattle.std.specs.Prelude.{ℕ, List, Option, Some, None, option_and_then}
use Rattle.json.specs.Find.{as_object}
use Rattle.json.specs.Json as json
use Rattle.json.specs.Lex.{tokens}
use Rattle.bson_json_read.specs.declared.fault.Cause.TheVariants as causes
use Rattle.bson_json_read.specs.Reads.{Read, refused}
use Rattle.bson_json_read.specs.Values.{Pair, document_read}

-- The most arrays and objects one in another: 199 scopes, which are two objects each, in the
-- outermost document, and three more of a DBPointer.
abbrev pub json_depth : ℕ
json_depth = 402

-- the one JSON value that the text is, nested no deeper (RFC 8259)
abbrev pub json_in : List ℕ → Option json.Json
json_in text =
    option_and_then (λ p. json.if_last p.0 p.1) (json.value json_depth (tokens text))

-- documents and arrays may stand 200 deep
abbrev pub outermost : Option json.Members → Read (List Pair)
outermost (Some ms) = document_read 200 ms
outermost None = refused causes.NotAnObject

abbrev pub document_as : Option json.Json → Read (List Pair)
document_as (Some j) = outermost (as_object j)
document_as None = refused causes.NotJson

-- the pairs of the document, or the first fault
abbrev pub document_in : List ℕ → Read (List Pair)
document_in text = document_as (json_in text)
