-- What the program writes: a line for each call, and a last one.
use Rattle.std.specs.Prelude.{ℕ, ◌+◌, List, [], ◌∷◌, ◌++◌, codes, length}
use Rattle.std.specs.Fmt.{decimal}
use Rattle.wire_peer.specs.declared.calls.CallKind.{CallKind}
use Rattle.wire_peer.specs.declared.calls.CallKind.TheVariants.{Plain, Exhaust, Unacknowledged}
use Rattle.wire_end.specs.declared.call_record.CallRecord.{CallRecord}
use Rattle.wire_end.specs.declared.call_record.CallState.{CallState}
use Rattle.wire_end.specs.declared.call_record.CallState.TheVariants.{Pending, Done, Sent, Lost}
use Rattle.client_examples.specs.declared.pair.ends.Ends.{Ends}

abbrev pub kind_word : CallKind → List ℕ
kind_word Plain = codes "plain"
kind_word Exhaust = codes "exhaust"
kind_word Unacknowledged = codes "unacknowledged"

abbrev pub state_word : CallState → List ℕ
state_word Pending = codes "pending"
state_word Done = codes "done"
state_word Sent = codes "sent"
state_word Lost = codes "lost"

-- the line of a call: its number, its kind, its state, and the number of its parts
abbrev pub call_line : ℕ → CallRecord → List ℕ
call_line k call =
    codes "call " ++ (decimal k ++ (codes " " ++ (kind_word call.kind ++ (codes " "
    ++ (state_word call.state ++ (codes " "
    ++ (decimal (length call.parts.items) ++ codes "\n")))))))

-- the lines of calls that are numbered from k on
abbrev pub call_lines : ℕ → List CallRecord → List ℕ
call_lines k [] = []
call_lines k (call ∷ calls) = call_line k call ++ call_lines (k + 1) calls

-- the last line: how many calls were made, and how many entries the log has
abbrev pub last_line : (calls entries : ℕ) → List ℕ
last_line calls entries =
    codes "calls " ++ (decimal calls ++ (codes " entries " ++ (decimal entries ++ codes "\n")))

abbrev pub run_text : {H : Type 0} → Ends H → List ℕ
run_text ends =
    call_lines 0 ends.calls.items
    ++ last_line (length ends.calls.items) (length ends.logged.entries.items)
