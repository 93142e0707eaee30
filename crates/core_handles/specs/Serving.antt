-- How a request that waits in a server is answered by a handle.
use Rattle.std.specs.Prelude.{◌≡◌, ◌≢◌, ◌≤◌, ◌<◌, ◌^◌, ℕ, List, [], ◌∷◌, ◌++◌, length, map, true}
use Rattle.std.specs.Prelude.{false, None, Result, Ok, Err}
use Rattle.bson_elem.specs.{FrontFault, Tree, document, elements}
use Rattle.bson_raw.specs.{IsDocument, documents_bytes, first_repeated}
use Rattle.wire_msg.specs.{Content, Message, body_alone, message_len}
use Rattle.wire_msg.specs.declared.fault.MsgCause.{MsgCause}
use Rattle.wire_msg.specs.declared.fault.MsgCause.TheVariants as faults
use Rattle.wire_peer.specs.{IsCount, ServerView, WaitsAt, answered, answers_of, asked_by, closed_at}
use Rattle.wire_peer.specs.{is_longer, next_id, put, replies, replies_of}
use Rattle.wire_peer.specs.declared.answer_list.Answers.{Answers}
use Rattle.wire_peer.specs.declared.server_state.ServerCause.TheVariants.{NoMemory, ReplyTooLarge}
use Rattle.wire_peer.specs.declared.server_state.ServerState.TheVariants.{Open}
use Rattle.byte_views.specs.Fault.{document_fault, first_fault, message_fault}
use Rattle.core_handles.specs.declared.server_answers.AnswerGiven.{AnswerGiven}
use Rattle.core_handles.specs.declared.server_answers.NoAnswers.{NoAnswers}
use Rattle.core_handles.specs.declared.server_answers.NoAnswers.TheVariants.{Fault, OutOfMemory}

-- ---- the documents of the answers

-- a document that can be the body of a message
abbrev pub IsFit : Tree → Type 0
IsFit t = IsDocument t × (first_repeated [] t ≡ None) × (message_len (body_alone t) < 2 ^ 31)

-- documents each of which can be the body of a message
abbrev pub AreFit : List Tree → Type 0
AreFit [] = Unit {0}
AreFit (t ∷ ts) = IsFit t × AreFit ts

-- no message has this document as its body, for this cause
abbrev pub IsUnfit : Tree → MsgCause → Type 0
IsUnfit t faults.RepeatedField = first_repeated [] t ≢ None
IsUnfit t faults.Length = (first_repeated [] t ≡ None) × (2 ^ 31 ≤ message_len (body_alone t))
IsUnfit t _ = ⊥

-- the document at this offset is no answer, for this reason
abbrev pub IsRefusedAt : ℕ → Tree → NoAnswers → Type 0
IsRefusedAt at t (Fault f) = (f.at ≡ at) × IsUnfit t f.cause
IsRefusedAt at t OutOfMemory = Unit {0}

-- no document that can be the body of a message begins these bytes, for this cause
abbrev pub BeginsUnfit : List ℕ → MsgCause → Type 0
BeginsUnfit bytes (faults.Document f) = FrontFault bytes f
BeginsUnfit bytes cause =
    (t : Tree) × (rest : List ℕ) × IsDocument t × (bytes ≡ document (elements t) ++ rest)
    × IsUnfit t cause

-- the answers are the documents; or the first of them that can't be one is told, by its offset
abbrev pub AreGiven : List ℕ → Result Answers NoAnswers → Type 0
AreGiven bytes (Ok a) =
    (ts : List Tree) × AreFit ts × (bytes ≡ documents_bytes ts)
    × (answers_of a ≡ map body_alone ts)
AreGiven bytes (Err (Fault f)) =
    (ts : List Tree) × (rest : List ℕ) × AreFit ts × (bytes ≡ documents_bytes ts ++ rest)
    × (rest ≢ []) × (f.at ≡ length (documents_bytes ts)) × BeginsUnfit rest f.cause
AreGiven bytes (Err OutOfMemory) = Unit {0}

-- ---- answers

-- the result of answering a request, where its number says all: 0 that it was answered, or why not
abbrev pub answer_told : ℕ → AnswerGiven
answer_told n = record { refusal = n; fault = first_fault None; document_fault = first_fault None }

-- what is told of documents that are no answers
abbrev pub no_answers_told : NoAnswers → AnswerGiven
no_answers_told (Fault f) = record {
  refusal = 4;
  fault = message_fault f;
  document_fault = document_fault f.cause;
}
no_answers_told OutOfMemory = answer_told 254

-- the replies of the server with these answers to this message
abbrev pub replies_to : ServerView → Message → List Content → List Message
replies_to s m answers = replies s.next_id m.id (asked_by m) answers

-- The server is open, and the k-th request that waits, which is this message, is answered so: there
-- are more or fewer answers than it may get, or no memory to ask, and nothing changes; or its
-- replies are put out; or one of them is too large or there is no memory for them, which closes the
-- server.
pub data IsAnswered (s : ServerView) (k : ℕ) (m : Message) (answers : List Content)
    (after : ServerView) : ℕ → Type 0 where
  bad_count : {w : ℕ} → (IsCount (asked_by m) (length answers) → ⊥) → after ≡ s → w ≡ 10
      → IsAnswered s k m answers after w
  not_asked : {w : ℕ} → IsCount (asked_by m) (length answers) → after ≡ s → w ≡ 254
      → IsAnswered s k m answers after w
  is_put : {w : ℕ} → IsCount (asked_by m) (length answers)
      → is_longer s.limit (replies_to s m answers) ≡ false
      → after ≡ answered s k
      (put (replies_of s) (replies_to s m answers) (next_id s.next_id (asked_by m) answers))
      → w ≡ 0 → IsAnswered s k m answers after w
  too_large : {w : ℕ} → IsCount (asked_by m) (length answers)
      → is_longer s.limit (replies_to s m answers) ≡ true → after ≡ closed_at s k ReplyTooLarge
      → w ≡ 3 → IsAnswered s k m answers after w
  no_memory : {w : ℕ} → IsCount (asked_by m) (length answers) → m.flags.more_to_come ≡ false
      → is_longer s.limit (replies_to s m answers) ≡ false → after ≡ closed_at s k NoMemory
      → w ≡ 254 → IsAnswered s k m answers after w

-- The k-th request that waits is answered with the documents, one answer each; or there is the
-- first reason why not: the server is closed, no such request waits, the documents are no answers,
-- or those of `IsAnswered`. Nothing changes then, unless that closes the server.
pub data IsAnswerGiven (s : ServerView) (k : ℕ) (documents : List ℕ) (after : ServerView)
    : AnswerGiven → Type 0 where
  is_closed : {w : AnswerGiven} → s.state ≢ Open → after ≡ s → w ≡ answer_told 1
      → IsAnswerGiven s k documents after w
  no_request : {w : AnswerGiven} → s.state ≡ Open → length s.waiting ≤ k → after ≡ s
      → w ≡ answer_told 7 → IsAnswerGiven s k documents after w
  no_answers : {w : AnswerGiven} (why : NoAnswers) → s.state ≡ Open → k < length s.waiting
      → AreGiven documents (Err why) → after ≡ s → w ≡ no_answers_told why
      → IsAnswerGiven s k documents after w
  is_given : {w : AnswerGiven} (m : Message) (ts : List Tree) → s.state ≡ Open → WaitsAt s k m
      → AreFit ts → documents ≡ documents_bytes ts
      → IsAnswered s k m (map body_alone ts) after w.refusal → w ≡ answer_told w.refusal
      → IsAnswerGiven s k documents after w
