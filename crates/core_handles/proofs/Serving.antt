-- What a call does with the server of a handle, from what its code found.
use Rattle.std.proofs.Common.{◌≡◌, ◌⊎◌, ℕ, ◌+◌, ◌<◌, ◌≤◌, ◌^◌, ltb, pos, Bool, true, false, List, [], ◌∷◌, ◌++◌, length, map, subst, sym, ap, ◌∙◌, refl, inl, inr, arith, length-append, get_or, All}
use Rattle.std.specs.Prelude.{None, Some, Result, Ok, Err, IsTrue, ◌↔◌}
use Rattle.std.specs.Coded.{coded_option}
use base.Stored.{Coded-set}
use Rattle.std.proofs.Math.Bool.{Bool-set}
use Rattle.std.proofs.lemmas.Bool.{lt-ltb, ltb-true}
use Rattle.std.proofs.lemmas.List.Elements.{All-get_or}
use Rattle.std.proofs.lemmas.Option.{slice_get-get_or}
use Rattle.bson_elem.specs.{Spells, Tree, coded_text, document, elements}
use Rattle.bson_raw.specs.{AreDocuments, IsDocument, documents_bytes, first_repeated}
use Rattle.bson_raw.proofs.Lemmas.{Walked, document_takes, is_document}
use Rattle.wire_msg.specs.{Carries, Content, IsMessage, Message, SpellsMsg, body_alone, canonical, message_len}
use Rattle.wire_msg.specs.declared.fault.MsgCause.{MsgCause}
use Rattle.wire_msg.specs.declared.fault.MsgCause.TheVariants as faults
use Rattle.wire_msg.specs.declared.payload_buf.PayloadBuf.{PayloadBuf}
use Rattle.wire_msg.proofs.Lemmas.{msg_are_bytes, one_message}
use Rattle.wire_peer.specs.{AnswerStep, Asked, Does, IsCount, LogEntry, ReplyStep, ServerView, Stops, WaitsAt, answered, answers_of, asked, asked_by, buf_content, closed_at, is_longer, next_id, put, replies_of, takes_more}
use Rattle.wire_peer.specs.Chains.{ReplyState}
use Rattle.wire_peer.specs.ServerAnswers.{cause_of}
use Rattle.wire_peer.specs.declared.answer_list.Answers.{Answers}
use Rattle.wire_peer.specs.declared.handlers.HandlerStop.{HandlerStop}
use Rattle.wire_peer.specs.declared.handlers.HandlerStop.TheVariants as stops
use Rattle.wire_peer.specs.declared.log.NoReplies.{NoReplies}
use Rattle.wire_peer.specs.declared.log.NoReplies.TheVariants as reasons
use Rattle.wire_peer.specs.declared.requests.Request.{Request}
use Rattle.wire_peer.specs.declared.server_state.AnswerRefusal.{AnswerRefusal}
use Rattle.wire_peer.specs.declared.server_state.AnswerRefusal.TheVariants as refusals
use Rattle.wire_peer.specs.declared.server_state.ServerCause.{ServerCause}
use Rattle.wire_peer.specs.declared.server_state.ServerCause.TheVariants as causes
use Rattle.wire_peer.specs.declared.server_state.ServerState.TheVariants.{Open}
use Rattle.wire_peer.proofs.Lemmas.{of_buf_content, of_content}
use Rattle.core_handles.specs.declared.given.Given.{Given}
use Rattle.core_handles.specs.declared.server_answers.AnswerGiven.{AnswerGiven}
use Rattle.core_handles.specs.declared.server_answers.NoAnswers.{NoAnswers}
use Rattle.core_handles.specs.declared.server_answers.NoAnswers.TheVariants.{Fault, OutOfMemory}
use Rattle.core_handles.specs.declared.server_requests.RequestCopied.{RequestCopied}
use Rattle.core_handles.specs.Numbers.{answer_number}
use Rattle.core_handles.specs.Requesting.{IsRequestCopied, IsRequestPut, no_memory, no_request, none_waits, request_bytes, waits}
use Rattle.core_handles.specs.Serving as serving
use Rattle.core_handles.specs.Serving.{AreFit, AreGiven, BeginsUnfit, IsAnswerGiven, IsAnswered, IsRefusedAt, IsUnfit, answer_told, replies_to}

-- ---- requests that wait

-- a request that waits is a message
pub a_message : (limit k : ℕ) (s : ServerView) → All (IsMessage limit) s.waiting → k < length s.waiting → (m : Message) × WaitsAt s k m
a_message limit k s each within =
    let spelled : IsMessage limit (get_or s.waiting k []) = All-get_or (IsMessage limit) s.waiting k [] within each in
    (spelled.1.0, record { bytes = get_or s.waiting k []; at = slice_get-get_or s.waiting k [] within; spelled = spelled.1.1 })

-- and no other one
pub same_request : (s : ServerView) (k : ℕ) (m n : Message) → WaitsAt s k m → WaitsAt s k n → m ≡ n
same_request s k m n a b =
    let bytes : b.bytes ≡ a.bytes = cc (a.at, b.at) in
    one_message m n a.bytes (msg_are_bytes m a.bytes a.spelled) a.spelled (subst (SpellsMsg n) bytes b.spelled)

-- the bytes of a request that is asked
abbrev asked_bytes : Asked → List ℕ
asked_bytes a =
    canonical (record { id = pos 0; response_to = pos 0; flags = record { more_to_come = a.more_to_come; exhaust_allowed = a.exhaust_allowed }; content = a.payload })

-- bytes that were put behind none
pub behind_none : (bytes old added : List ℕ) → bytes ≡ old ++ added → old ≡ [] → bytes ≡ added
behind_none bytes old added is none = is ∙ ap (λ (x : List ℕ). x ++ added) none

-- the bytes of a request that was written with its flags
pub request_written : (r : Request) (m : Message) (bytes : List ℕ)
    → ((c : Content) → Carries r.payload c
    → bytes ≡ canonical (record { id = pos 0; response_to = pos 0; flags = record { more_to_come = r.more_to_come; exhaust_allowed = r.exhaust_allowed }; content = c }))
    → asked r ≡ asked_by m → bytes ≡ request_bytes m
request_written r m bytes all same =
    of_content r.payload {P = λ (c : Content). bytes ≡ asked_bytes (record { payload = c; exhaust_allowed = r.exhaust_allowed; more_to_come = r.more_to_come })} (Coded-set coded_text bytes _) all
    ∙ ap asked_bytes same

-- a request is copied, by what its spelling gave
pub request_copied : (s : ServerView) (k : ℕ) (m : Message) (more : Bool) (bytes old new : List ℕ) (w : RequestCopied) → WaitsAt s k m → more ≡ takes_more (asked_by m) → bytes ≡ request_bytes m
    → IsRequestPut more bytes old new w → IsRequestCopied s k old new w
request_copied s k m more bytes old new w at takes is copied =
    waits m at (subst (λ (x : List ℕ). IsRequestPut (takes_more (asked_by m)) x old new w) is (subst (λ (x : Bool). IsRequestPut x bytes old new w) takes copied))

-- no request is copied, by the number that its spelling gave
pub request_refused : (s : ServerView) (k : ℕ) (room : List ℕ) (n : ℕ) (w : RequestCopied) → w ≡ no_request n → ((n ≡ 7) × (length s.waiting ≤ k)) ⊎ ((n ≡ 254) × (k < length s.waiting))
    → IsRequestCopied s k room room w
request_refused s k room n w told (inl x) = none_waits x.1 (told ∙ ap no_request x.0) refl
request_refused s k room n w told (inr x) = no_memory x.1 (told ∙ ap no_request x.0) refl

-- ---- the documents of the answers

-- a document that is unfit begins the bytes
begins_unfit : (t : Tree) (bytes rest : List ℕ) (cause : MsgCause) → IsDocument t → bytes ≡ document (elements t) ++ rest → IsUnfit t cause → BeginsUnfit bytes cause
begins_unfit t bytes rest faults.RepeatedField is parts unfit = (t, rest, is, parts, unfit)
begins_unfit t bytes rest faults.Length is parts unfit = (t, rest, is, parts, unfit)
begins_unfit t bytes rest (faults.Opcode n) is parts unfit = absurd unfit
begins_unfit t bytes rest faults.Flags is parts unfit = absurd unfit
begins_unfit t bytes rest faults.Checksum is parts unfit = absurd unfit
begins_unfit t bytes rest faults.SectionKind is parts unfit = absurd unfit
begins_unfit t bytes rest faults.SectionSize is parts unfit = absurd unfit
begins_unfit t bytes rest (faults.Document f) is parts unfit = absurd unfit
begins_unfit t bytes rest faults.NoBody is parts unfit = absurd unfit
begins_unfit t bytes rest faults.TwoBodies is parts unfit = absurd unfit
begins_unfit t bytes rest faults.SequenceName is parts unfit = absurd unfit
begins_unfit t bytes rest faults.SequenceInBody is parts unfit = absurd unfit
begins_unfit t bytes rest faults.Truncated is parts unfit = absurd unfit

-- the offset of the rest behind documents
pub offset_is : (bytes rest : List ℕ) (ts : List Tree) → Walked bytes ts rest → length bytes ≡ length (documents_bytes ts) + length rest
offset_is bytes rest ts w = ap length w.parts ∙ length-append (documents_bytes ts) rest

-- the body of an answer can be that of a message
answer_fits : (b : PayloadBuf) → (first_repeated [] (buf_content b).body ≡ None) × (message_len (buf_content b) < 2 ^ 31)
answer_fits b = (
  of_buf_content b {P = λ (c : Content). first_repeated [] c.body ≡ None} (Coded-set (coded_option coded_text) _ _) (λ c k. k.content.unique),
  ltb-true _ _ (of_buf_content b {P = λ (c : Content). ltb (message_len c) (2 ^ 31) ≡ true} (Bool-set _ _) (λ c k. lt-ltb _ _ k.short)),
)

-- what is answered can be the body of a message
all_fit : (bs : List PayloadBuf) (ts : List Tree) → AreDocuments ts → map buf_content bs ≡ map body_alone ts → AreFit ts
all_fit bs [] are same = tt
all_fit [] (t ∷ ts) are same = absurd cc
all_fit (b ∷ bs) (t ∷ ts) are same =
    let first : buf_content b ≡ body_alone t = cc in
    let fits = answer_fits b in (
      (are.0, subst (λ (c : Content). first_repeated [] c.body ≡ None) first fits.0, subst (λ (c : Content). message_len c < 2 ^ 31) first fits.1),
      all_fit bs ts are.1 (cc),
    )

pub are_fit : (a : Answers) (bytes rest : List ℕ) (ts : List Tree) → Walked bytes ts rest → answers_of a ≡ map body_alone ts → AreFit ts
are_fit a bytes rest ts w same = all_fit a.list.items ts w.documents_fit same

-- the document after these is no answer
pub refused_here : (bytes rest : List ℕ) (ts : List Tree) (at : ℕ) (t : Tree) (b after : List ℕ) (why : NoAnswers) → Walked bytes ts rest → AreFit ts → at ≡ length (documents_bytes ts) → Spells t b → rest ≡ b ++ after
    → IsRefusedAt at t why → AreGiven bytes (Err why)
refused_here bytes rest ts at t b after OutOfMemory w fit here s is refused = tt
refused_here bytes rest ts at t b after (Fault f) w fit here s is refused =
    (ts, rest, fit, w.parts, (λ e. omega (arith, ap length e, document_takes t b rest after s is)), refused.0 ∙ here, begins_unfit t rest after f.cause (is_document t b s) (is ∙ ap (λ (x : List ℕ). x ++ after) s.parts) refused.1)

-- ---- how many answers

-- the request may get as many answers
pub is_counted : (found : Bool) (a b : Asked) (n l : ℕ) → (IsTrue found ↔ IsCount a n) → found ≡ true → a ≡ b → n ≡ l → IsCount b l
is_counted found a b n l tells is same count = subst (λ (x : Asked). IsCount x l) same (subst (λ (x : ℕ). IsCount a x) count (tells.0 is))

-- or it may not
pub is_not_counted : (found : Bool) (a b : Asked) (n l : ℕ) → (IsTrue found ↔ IsCount a n) → found ≡ false → a ≡ b → n ≡ l → IsCount b l → ⊥
is_not_counted found a b n l tells isnt same count counted =
    let is : found ≡ true = tells.1 (subst (λ (x : ℕ). IsCount a x) (sym count) (subst (λ (x : Asked). IsCount x l) (sym same) counted)) in absurd cc

-- ---- answers

-- the replies of a server with these answers to this message, put behind what waits
abbrev replies_put : ServerView → Message → List Content → ReplyState
replies_put s m answers = put (replies_of s) (replies_to s m answers) (next_id s.next_id (asked_by m) answers)

-- what is told of an answer
abbrev pub told_of : Result ℕ AnswerRefusal → ℕ
told_of (Ok n) = 0
told_of (Err e) = answer_number e

module _ {H : Type 0} (does : Does H) (stop : Stops H) (h : H) (given : List Content) where
  -- the handler gives these answers
  abbrev pub Gives : Type 0
  Gives = (a : Asked) (answers : List Content) (h' : H) → does h a answers h' → answers ≡ given

  -- and fails alone where they are more or fewer than a request may get
  abbrev pub FailsAlone : Type 0
  FailsAlone = (a : Asked) (e : HandlerStop) (h' : H) → stop h a e h' → (e ≡ stops.Failed) × (IsCount a (length given) → ⊥)

  -- there were no replies, for this reason
  closed : (s : ServerView) (k : ℕ) (m : Message) (log : List LogEntry) (h' : H) (log' : List LogEntry) (why : NoReplies) (cause : ServerCause) → Gives → FailsAlone → IsCount (asked_by m) (length given)
      → cause_of why ≡ Some cause → ReplyStep does stop s.connection m.id (asked_by m) (Err why) h log (replies_of s) h' log' (replies_of s)
      → IsAnswered s k m given (closed_at s k cause) (answer_number (refusals.NowClosed cause))
  closed s k m log h' log' reasons.NotAsked cause gives fails count is step = absurd cc
  closed s k m log h' log' (reasons.Stopped stops.Failed) cause gives fails count is step = absurd ((fails (asked_by m) stops.Failed h' step.0).1 count)
  closed s k m log h' log' (reasons.Stopped stops.OutOfMemory) cause gives fails count is step =
      let other : stops.OutOfMemory ≡ stops.Failed = (fails (asked_by m) stops.OutOfMemory h' step.0).0 in absurd cc
  closed s k m log h' log' reasons.TooLarge cause gives fails count is step =
      let same : causes.ReplyTooLarge ≡ cause = cc in
      let answers : step.0 ≡ given = gives (asked_by m) step.0 h' step.1.answered in
      subst (λ (c : ServerCause). IsAnswered s k m given (closed_at s k c) (answer_number (refusals.NowClosed c))) same
      (serving.too_large count (subst (λ (x : List Content). is_longer s.limit (replies_to s m x) ≡ true) answers step.2) refl refl)
  closed s k m log h' log' reasons.NoMemory cause gives fails count is step =
      let same : causes.NoMemory ≡ cause = cc in
      let answers : step.0 ≡ given = gives (asked_by m) step.0 h' step.1.answered in
      subst (λ (c : ServerCause). IsAnswered s k m given (closed_at s k c) (answer_number (refusals.NowClosed c))) same
      (serving.no_memory count step.2 (subst (λ (x : List Content). is_longer s.limit (replies_to s m x) ≡ false) answers step.3) refl refl)

  -- A request is answered by that handler.
  pub answered_so : (k : ℕ) (r : Result ℕ AnswerRefusal) (s : ServerView) (m : Message) (log : List LogEntry) (s' : ServerView) (h' : H) (log' : List LogEntry) → Gives → FailsAlone
      → s.state ≡ Open → k < length s.waiting → WaitsAt s k m → IsCount (asked_by m) (length given) → AnswerStep does stop k r s h log s' h' log' → IsAnswered s k m given s' (told_of r)
  answered_so k (Ok n) s m log s' h' log' gives fails opened within at count step =
      let r = step.2.2 in
      let same : step.2.0 ≡ m = same_request s k step.2.0 m step.2.1 at in
      let answers : r.1.0 ≡ given = gives (asked_by step.2.0) r.1.0 h' r.1.1.answered in
      let short = subst (λ (x : List Content). is_longer s.limit (replies_to s m x) ≡ false) answers
      (subst (λ (x : Message). is_longer s.limit (replies_to s x r.1.0) ≡ false) same r.1.2) in
      serving.is_put count short
      (r.2 ∙ ap (answered s k) (r.1.3 ∙ ap (λ (x : Message). replies_put s x r.1.0) same ∙ ap (replies_put s m) answers)) refl
  answered_so k (Err (refusals.NowClosed cause)) s m log s' h' log' gives fails opened within at count step =
      let r = step.2.2 in
      let same : step.2.0 ≡ m = same_request s k step.2.0 m step.2.1 at in
      let n : ℕ = answer_number (refusals.NowClosed cause) in
      let counts : IsCount (asked_by step.2.0) (length given) = subst (λ (x : Message). IsCount (asked_by x) (length given)) (sym same) count in
      subst (λ (x : ServerView). IsAnswered s k m given x n) (sym step.1)
      (subst (λ (x : Message). IsAnswered s k x given (closed_at s k cause) n) same (closed s k step.2.0 log h' log' r.0 cause gives fails counts r.1 r.2))
  answered_so k (Err refusals.Closed) s m log s' h' log' gives fails opened within at count step = absurd (step.0 opened)
  answered_so k (Err refusals.NoSuchRequest) s m log s' h' log' gives fails opened within at count step = absurd (omega (arith, step.1))
  answered_so k (Err refusals.OutOfMemory) s m log s' h' log' gives fails opened within at count step = serving.not_asked count step.2 refl

-- the handler whose answers were given beforehand
abbrev pub gives_them : Does Given
gives_them h a answers h' = answers ≡ answers_of h.answers

abbrev pub fails_then : Stops Given
fails_then h a stop h' = (stop ≡ stops.Failed) × (IsCount a (length (answers_of h.answers)) → ⊥)

-- a request is answered by that one
pub answered_by : (answers : Answers) (h : Given) (k : ℕ) (r : Result ℕ AnswerRefusal) (s : ServerView) (m : Message) (log : List LogEntry) (s' : ServerView) (h' : Given) (log' : List LogEntry)
    → h ≡ record { answers = answers } → s.state ≡ Open → k < length s.waiting → WaitsAt s k m → IsCount (asked_by m) (length (answers_of answers)) → AnswerStep gives_them fails_then k r s h log s' h' log'
    → IsAnswered s k m (answers_of answers) s' (told_of r)
answered_by answers h k r s m log s' h' log' is opened within at count step =
    let same : answers_of h.answers ≡ answers_of answers = ap (λ (x : Given). answers_of x.answers) is in
    answered_so gives_them fails_then h (answers_of answers) k r s m log s' h' log' (λ a x y gives. gives ∙ same)
    (λ a e y fails. (fails.0, λ counts. fails.1 (subst (λ (x : List Content). IsCount a (length x)) (sym same) counts))) opened within at count step

-- what is told of an answer with documents
pub given_told : (s : ServerView) (k : ℕ) (documents : List ℕ) (after : ServerView) (m : Message) (a : Answers) (n : ℕ) (w : AnswerGiven) → s.state ≡ Open → WaitsAt s k m → AreGiven documents (Ok a)
    → IsAnswered s k m (answers_of a) after n → w ≡ answer_told n → IsAnswerGiven s k documents after w
given_told s k documents after m a n w opened at given done told =
    let same : w.refusal ≡ n = ap (λ (x : AnswerGiven). x.refusal) told in
    serving.is_given m given.0 opened at given.1 given.2
    (subst (λ (i : ℕ). IsAnswered s k m (map body_alone given.0) after i) (sym same) (subst (λ (x : List Content). IsAnswered s k m x after n) given.3 done)) (told ∙ ap answer_told (sym same))
