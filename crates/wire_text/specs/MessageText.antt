-- The text of a message, and the line of a fault.
use Rattle.std.specs.Prelude.{ℕ, List, ◌++◌, length, codes, flat_map, Bool, true, false}
use Rattle.std.specs.Fmt.{decimal, signed_decimal}
use Rattle.bson_elem.specs.{Tree}
use Rattle.bson_text.specs.{document_size, element_lines, quoted}
use Rattle.wire_msg.specs.declared.fault.MsgCause.{MsgCause}
use Rattle.wire_msg.specs.declared.flags.MsgFlags.{MsgFlags}
use Rattle.wire_msg.specs.{Message, Sequence, fault_text, message_len}
use Rattle.wire_text.specs.declared.messages.Detail.{Detail}
use Rattle.wire_text.specs.declared.messages.Detail.TheVariants.{Line, Documents}

-- moreToCome and exhaustAllowed in one word
abbrev pub flag_names : Bool → Bool → List ℕ
flag_names false false = codes "-"
flag_names true false = codes "more"
flag_names false true = codes "exhaust"
flag_names true true = codes "more+exhaust"

-- the flags in one word
abbrev pub flags_text : MsgFlags → List ℕ
flags_text flags = flag_names flags.more_to_come flags.exhaust_allowed

-- the first line of a message
abbrev pub message_line : Message → List ℕ
message_line m =
    codes "message " ++ (decimal (message_len m.content)
    ++ (codes " id " ++ (signed_decimal m.id
    ++ (codes " to " ++ (signed_decimal m.response_to
    ++ (codes " flags " ++ (flags_text m.flags ++ codes "\n")))))))

-- the body: the line of its size, and those of its elements
abbrev pub body_text : Tree → List ℕ
body_text t = codes "body " ++ (decimal (document_size t) ++ (codes "\n" ++ element_lines 1 t))

-- a document of a sequence, indented one level deeper than the body
abbrev pub member_text : Tree → List ℕ
member_text t =
    codes "  document " ++ (decimal (document_size t) ++ (codes "\n" ++ element_lines 2 t))

-- the line of a document sequence: its identifier, and the number of its documents
abbrev pub sequence_line : Sequence → List ℕ
sequence_line q =
    codes "sequence " ++ (quoted q.identifier
    ++ (codes " " ++ (decimal (length q.documents) ++ codes "\n")))

-- what is written of a document sequence: its line, and its documents if they are asked for
abbrev pub text_of_sequence : Detail → Sequence → List ℕ
text_of_sequence Line q = sequence_line q
text_of_sequence Documents q = sequence_line q ++ flat_map member_text q.documents

-- the text of a message: its first line, the body, and the document sequences in order
abbrev pub message_text : Message → List ℕ
message_text m =
    message_line m ++ (body_text m.content.body
    ++ flat_map (text_of_sequence Documents) m.content.sequences)

-- the line of a message's fault at this offset
abbrev pub msg_fault_line : ℕ → MsgCause → List ℕ
msg_fault_line offset c = fault_text offset c ++ codes "\n"
