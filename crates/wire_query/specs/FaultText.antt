-- The text that displays a fault.
use Rattle.std.specs.Prelude.{ℕ, List, ◌++◌, codes, Option, Some}
use Rattle.std.specs.Fmt.{decimal, signed_decimal}
use Rattle.bson_elem.specs.Causes as documents
use Rattle.wire_query.specs.declared.fault.QueryCause.{QueryCause}
use Rattle.wire_query.specs.declared.fault.QueryCause.TheVariants.{Opcode, Document}
use Rattle.wire_query.specs.declared.fault.QueryFault.{QueryFault}
use Rattle.wire_query.specs.Causes.{cause_number, cause_name}

-- The number of the cause, its name and the offset. An opcode follows its name. The document's own
-- fault comes last, with its offset counted from the document's first byte.
abbrev pub query_fault_text : ℕ → QueryCause → List ℕ
query_fault_text at (Opcode opcode) =
    codes "fault 2 Opcode " ++ (signed_decimal opcode ++ (codes " at " ++ decimal at))
query_fault_text at (Document f) =
    codes "fault 9 Document at "
    ++ (decimal at ++ (codes ": "
    ++ (decimal (documents.cause_number f.cause)
    ++ (codes " " ++ (documents.cause_name f.cause ++ (codes " at " ++ decimal f.at))))))
query_fault_text at c =
    codes "fault " ++ (decimal (cause_number c)
    ++ (codes " " ++ (cause_name c ++ (codes " at " ++ decimal at))))

abbrev pub shown_query_fault : QueryFault → Option (List ℕ)
shown_query_fault f = Some (query_fault_text f.at f.cause)
