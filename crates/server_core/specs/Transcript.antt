-- The transcript: connections that are new, requests with their answers, and how each connection
-- ended.
use Rattle.std.specs.Prelude.{ℕ, List, ◌++◌, codes, flat_map, Option, None, Some}
use Rattle.std.specs.Fmt.{decimal}
use Rattle.bson_text.specs.{document_text, quoted}
use Rattle.wire_msg.specs.{Content, fault_text}
use Rattle.wire_text.specs.{text_of_sequence}
use Rattle.wire_text.specs.declared.messages.Detail.TheVariants.{Line}
use Rattle.wire_serve.specs.declared.cause.CloseCause.{CloseCause}
use Rattle.wire_serve.specs.declared.cause.CloseCause.TheVariants as close_causes
use Rattle.wire_serve.specs.declared.turned.Leave.{Leave}
use Rattle.wire_serve.specs.declared.turned.Leave.TheVariants as leaves
use Rattle.wire_peer.specs.declared.server_state.ServerCause.{ServerCause}
use Rattle.wire_peer.specs.declared.server_state.ServerCause.TheVariants as causes
use Rattle.wire_query.specs.{query_fault_text}
use Rattle.wire_peer.specs.{LogEntry}
use Rattle.command_parts.specs.{first_name}

-- the text of a body, and the lines of the sequences
abbrev pub payload_text : Content → List ℕ
payload_text c = document_text c.body ++ flat_map (text_of_sequence Line) c.sequences

-- the line of the command's name, and the payload
abbrev pub request_text : Content → List ℕ
request_text c = codes "request " ++ (quoted (first_name c.body) ++ (codes "\n" ++ payload_text c))

abbrev pub answer_text : Content → List ℕ
answer_text c = codes "answer\n" ++ payload_text c

-- the answers, or that the server stopped
abbrev pub outcome_text : Option (List Content) → List ℕ
outcome_text (Some answers) = flat_map answer_text answers
outcome_text None = codes "no answer\n"

abbrev pub entry_text : LogEntry → List ℕ
entry_text e = request_text e.payload ++ outcome_text e.answers

-- an entry under the number of its connection
abbrev pub connection_line : ℕ → List ℕ
connection_line number = codes "connection " ++ (decimal number ++ codes "\n")

abbrev pub told_text : LogEntry → List ℕ
told_text e = connection_line e.connection ++ entry_text e

-- the line of a connection that is new
abbrev pub new_text : ℕ → List ℕ
new_text number = codes "connection " ++ (decimal number ++ codes " new\n")

-- ---- how a connection ended

abbrev pub server_cause_text : ServerCause → List ℕ
server_cause_text (causes.Message f) = fault_text f.at f.cause ++ codes "\n"
server_cause_text causes.Ended = codes "Ended\n"
server_cause_text causes.EndedInside = codes "EndedInside\n"
server_cause_text causes.ReplyTooLarge = codes "ReplyTooLarge\n"
server_cause_text causes.NoMemory = codes "OutOfMemory\n"
server_cause_text causes.HandlerFailed = codes "HandlerFailed\n"

abbrev pub cause_text : CloseCause → List ℕ
cause_text (close_causes.Server cause) = server_cause_text cause
cause_text (close_causes.Query f) = query_fault_text f.at f.cause ++ codes "\n"
cause_text close_causes.EndedInside = codes "EndedInside\n"
cause_text close_causes.NotAlone = codes "NotAlone\n"
cause_text close_causes.ReplyTooLarge = codes "ReplyTooLarge\n"
cause_text close_causes.NoMemory = codes "OutOfMemory\n"

abbrev pub leave_text : Leave → List ℕ
leave_text (leaves.Closed cause) = cause_text cause
leave_text (leaves.Link fault) = codes "Link\n"
leave_text leaves.OutOfMemory = codes "OutOfMemory\n"

-- the line of a connection that ended
abbrev pub end_text : ℕ → Leave → List ℕ
end_text number leave =
    (codes "connection " ++ (decimal number ++ codes " end ")) ++ leave_text leave
