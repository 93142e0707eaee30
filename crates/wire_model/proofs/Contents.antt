-- Payloads carry contents of messages, and the answers of a log are such contents.
use Rattle.std.proofs.Common.{◌≡◌, Some, List, [], ◌∷◌, ◌++◌, map, subst}
use Rattle.std.specs.Prelude.{All}
use Rattle.std.specs.Option.{ForSome}
use Rattle.std.proofs.lemmas.List.Elements.{All-cons, All-head, All-nil, All-tail}
use Rattle.std.proofs.lemmas.Option.{none-some, same_Some}
use mathlib.Core.Logic.{∥∥₁_prop}
use Rattle.wire_msg.specs.{Content, IsContent}
use Rattle.wire_msg.specs.declared.payloads.Payload.{Payload}
use Rattle.wire_msg.specs.declared.payload_buf.PayloadBuf.{PayloadBuf}
use Rattle.wire_peer.specs.{LogEntry, answers_of, buf_content, content_of, entry_of, log_of}
use Rattle.wire_peer.specs.declared.answer_list.Answers.{Answers}
use Rattle.wire_peer.specs.declared.log.Entry.{Entry}
use Rattle.wire_peer.specs.declared.log.Outcome.{Outcome}
use Rattle.wire_peer.specs.declared.log.Outcome.TheVariants.{Answered, Failed}
use Rattle.wire_peer.specs.Logs.{outcome_of}
use Rattle.wire_peer.proofs.Lemmas.{of_buf_content, of_content}
use Rattle.wire_model.specs.Happening.{AreContents}

abbrev HasSpelling : Content → Type 0
HasSpelling c = ∥ IsContent c ∥₁

-- the content of a payload is that of a message
pub payload_content : (p : Payload) → ∥ IsContent (content_of p) ∥₁
payload_content p = of_content p {P = HasSpelling} ∥∥₁_prop (λ c k. ∣ k.content ∣₁)

pub buf_is_content : (b : PayloadBuf) → ∥ IsContent (buf_content b) ∥₁
buf_is_content b = of_buf_content b {P = HasSpelling} ∥∥₁_prop (λ c k. ∣ k.content ∣₁)

-- so are those of owned payloads
pub buf_contents : (bs : List PayloadBuf) → All (λ (c : Content). ∥ IsContent c ∥₁) (map buf_content bs)
buf_contents [] = All-nil HasSpelling
buf_contents (b ∷ bs) = All-cons HasSpelling (buf_content b) (map buf_content bs) (buf_is_content b) (buf_contents bs)

pub answer_contents : (a : Answers) → All (λ (c : Content). ∥ IsContent c ∥₁) (answers_of a)
answer_contents a = buf_contents a.list.items

outcome_contents : (o : Outcome) → ForSome (outcome_of o) (All (λ (c : Content). ∥ IsContent c ∥₁))
outcome_contents (Answered a) cs e = subst (All HasSpelling) (same_Some (answers_of a) cs e) (answer_contents a)
outcome_contents Failed cs e = absurd (none-some cs e)

-- and all the answers of a log
pub log_contents : (entries : List Entry) → AreContents (log_of entries)
log_contents [] = All-nil (λ (e : LogEntry). ForSome e.answers (All HasSpelling))
log_contents (e ∷ entries) = All-cons (λ (e : LogEntry). ForSome e.answers (All HasSpelling)) (entry_of e) (log_of entries) (outcome_contents e.outcome) (log_contents entries)

-- the answers of the last entry
pub last_contents : (log : List LogEntry) (e : LogEntry) (answers : List Content) → AreContents (log ++ e ∷ []) → e.answers ≡ Some answers → All (λ (c : Content). ∥ IsContent c ∥₁) answers
last_contents [] e answers are is = All-head (λ (x : LogEntry). ForSome x.answers (All HasSpelling)) e [] are answers is
last_contents (x ∷ log) e answers are is = last_contents log e answers (All-tail (λ (y : LogEntry). ForSome y.answers (All HasSpelling)) x (log ++ e ∷ []) are) is
