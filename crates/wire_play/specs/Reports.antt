-- What a script's run writes for an event: a line for what it has done, or for why it is refused.
use Rattle.std.specs.Prelude.{ℕ, true, false, List, [], ◌∷◌, ◌++◌, codes, None, Some, Result, Ok}
use Rattle.std.specs.Prelude.{Err}
use Rattle.std.specs.Fmt.{decimal, signed_decimal}
use Rattle.hex.specs.Hex.{encode_lower}
use Rattle.wire_peer.specs.declared.calls.CallRefusal.TheVariants as calls
use Rattle.wire_peer.specs.declared.server_state.AnswerRefusal.TheVariants as answers
use Rattle.wire_peer.specs.declared.server_state.ServerCause.{ServerCause}
use Rattle.wire_peer.specs.declared.server_state.ServerCause.TheVariants as causes
use Rattle.wire_model.specs.declared.refusals.WorldRefusal.{WorldRefusal}
use Rattle.wire_model.specs.declared.refusals.WorldRefusal.TheVariants.{NoConnection, Cut, NotLent}
use Rattle.wire_model.specs.declared.refusals.WorldRefusal.TheVariants.{Full, Call, Answer}
use Rattle.wire_model.specs.declared.refusals.WorldRefusal.TheVariants.{OutOfMemory, Raw, NotRaw}
use Rattle.wire_model.specs.declared.reports.Report.{Report}
use Rattle.wire_model.specs.declared.reports.Report.TheVariants as reports

-- why a server closed
abbrev pub cause_text : ServerCause → List ℕ
cause_text (causes.Message fault) = codes "1 Message"
cause_text causes.Ended = codes "2 Ended"
cause_text causes.EndedInside = codes "3 EndedInside"
cause_text causes.ReplyTooLarge = codes "4 ReplyTooLarge"
cause_text causes.NoMemory = codes "5 NoMemory"
cause_text causes.HandlerFailed = codes "6 HandlerFailed"

-- ---- refusals

-- The text of a refusal. A world never gives three of these: out of memory in a call or an answer,
-- which it reports as its own `OutOfMemory`, and a server that closes in an answer, which is no
-- refusal there.
abbrev pub refusal_text : WorldRefusal → List ℕ
refusal_text NoConnection = codes "1 NoConnection"
refusal_text Cut = codes "2 Cut"
refusal_text NotLent = codes "3 NotLent"
refusal_text Full = codes "4 Full"
refusal_text (Call calls.Closed) = codes "5 Call 1 Closed"
refusal_text (Call calls.WindowFull) = codes "5 Call 2 WindowFull"
refusal_text (Call calls.TooLarge) = codes "5 Call 3 TooLarge"
refusal_text (Call calls.NumbersSpent) = codes "5 Call 6 NumbersSpent"
refusal_text (Call calls.OutOfMemory) = codes "5 Call OutOfMemory"
refusal_text (Answer answers.NoSuchRequest) = codes "6 Answer 1 NoSuchRequest"
refusal_text (Answer answers.Closed) = codes "6 Answer 2 Closed"
refusal_text (Answer (answers.NowClosed cause)) = codes "6 Answer 3 NowClosed"
refusal_text (Answer answers.OutOfMemory) = codes "6 Answer OutOfMemory"
refusal_text OutOfMemory = codes "7 OutOfMemory"
refusal_text Raw = codes "8 Raw"
refusal_text NotRaw = codes "9 NotRaw"

-- the line of a refused event
abbrev pub refusal_line : WorldRefusal → List ℕ
refusal_line refusal = codes "refused " ++ (refusal_text refusal ++ codes "\n")

-- ---- reports

-- bytes in hexadecimal, or `-` if there are none
abbrev pub hex_or_dash : List ℕ → List ℕ
hex_or_dash [] = codes "-"
hex_or_dash (b ∷ bs) = encode_lower (b ∷ bs)

-- the line of what an event has done
abbrev pub report_line : Report → List ℕ
report_line (reports.Opened c true) = codes "connection " ++ (decimal c ++ codes " new\n")
report_line (reports.Opened c false) = codes "connection " ++ (decimal c ++ codes " used\n")
report_line reports.Kept = codes "kept\n"
report_line reports.Dropped = codes "dropped\n"
report_line (reports.Called k id) =
    codes "call " ++ (decimal k ++ (codes " id " ++ (signed_decimal id ++ codes "\n")))
report_line (reports.Moved n) = codes "moved " ++ (decimal n ++ codes "\n")
report_line (reports.Entry e) = codes "entry " ++ (decimal e ++ codes "\n")
report_line (reports.ClosedBy cause) = codes "closed " ++ (cause_text cause ++ codes "\n")
report_line reports.Done = codes "ok\n"
report_line (reports.RawOpened c) = codes "connection " ++ (decimal c ++ codes " raw\n")
report_line (reports.RawMoved n None) = codes "moved " ++ (decimal n ++ codes "\n")
report_line (reports.RawMoved n (Some cause)) =
    codes "moved " ++ (decimal n ++ (codes " closed " ++ (cause_text cause ++ codes "\n")))
report_line (reports.Bytes v) = codes "bytes " ++ (hex_or_dash v.items ++ codes "\n")

-- the line of an event's result
abbrev pub result_line : Result Report WorldRefusal → List ℕ
result_line (Ok report) = report_line report
result_line (Err refusal) = refusal_line refusal
