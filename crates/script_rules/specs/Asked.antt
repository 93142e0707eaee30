-- What a request asks for, as filters see it: its body, and each document sequence as an array
-- (OP_MSG, Kind 1: Document Sequence).
use Rattle.std.specs.Prelude.{List, [], ◌∷◌, Option, Some, None, option_map}
use Rattle.bson_elem.specs.declared.kinds.Kind.TheVariants as kinds
use Rattle.bson_elem.specs.{no_code}
use Rattle.bson_raw.specs.{TreeValue, document_value}
use Rattle.bson_doc.specs.{Pairs, pairs_of, put, tree_of}
use Rattle.doc_query.specs.{array, owned}
use Rattle.wire_msg.specs.{Content, Sequence}
use Rattle.command_parts.specs.{in_sequence}

-- the documents of a sequence in an array at its identifier, if no name is repeated in them
abbrev pub with_sequence : Sequence → Option Pairs → Option Pairs
with_sequence q None = None
with_sequence q (Some ps) =
    option_map (λ vs. put q.identifier (array vs) ps) (in_sequence q.documents)

abbrev pub with_sequences : List Sequence → Option Pairs → Option Pairs
with_sequences [] ps = ps
with_sequences (q ∷ qs) ps = with_sequences qs (with_sequence q ps)

-- the document of these fields
abbrev pub document_of : Pairs → TreeValue
document_of ps = document_value kinds.Document no_code (tree_of ps)

-- the fields of the body and the sequences, if no name is repeated in one of their documents
abbrev pub asked_pairs : Content → Option Pairs
asked_pairs c = with_sequences c.sequences (option_map pairs_of (owned c.body))

abbrev pub asked_value : Content → Option TreeValue
asked_value c = option_map document_of (asked_pairs c)
