-- An answer behind entries that were forgotten is one behind all of them.
use Rattle.std.proofs.Common.{◌≡◌, ℕ, ◌+◌, List, [], ◌∷◌, ◌++◌, length, Result, Ok, Err, ap, arith, sym, ◌∙◌, append_assoc, length-append}
use Rattle.std.specs.Prelude.{All, ℤ}
use Rattle.std.specs.Option.{ForSome}
use Rattle.std.proofs.lemmas.List.Elements.{All-append, All-cons, All-head, All-nil, All-tail}
use Rattle.wire_msg.specs.{Content, IsContent}
use Rattle.wire_peer.specs.{AnswerStep, Asked, Does, LogEntry, ServerView, Stops}
use Rattle.wire_peer.specs.Chains.{ReplyState}
use Rattle.wire_peer.specs.Replying.{IsAnswered, ReplyStep}
use Rattle.wire_peer.specs.declared.log.NoReplies.{NoReplies}
use Rattle.wire_peer.specs.declared.log.NoReplies.TheVariants.{NoMemory, NotAsked, Stopped, TooLarge}
use Rattle.wire_peer.specs.declared.server_state.AnswerRefusal.{AnswerRefusal}
use Rattle.wire_peer.specs.declared.server_state.AnswerRefusal.TheVariants as refusals
use Rattle.wire_model.specs.{AreContents}

-- the result, with the number of the entry among all
abbrev pub among_all : ℕ → Result ℕ AnswerRefusal → Result ℕ AnswerRefusal
among_all told (Ok n) = Ok (told + n)
among_all told (Err refusal) = Err refusal

one_behind : (told log log' : List LogEntry) (e : LogEntry) → log' ≡ log ++ e ∷ [] → told ++ log' ≡ (told ++ log) ++ e ∷ []
one_behind told log log' e is = ap (λ (es : List LogEntry). told ++ es) is ∙ sym (append_assoc told log (e ∷ []))

abbrev Fine : LogEntry → Type 0
Fine e = ForSome e.answers (All (λ (c : Content). ∥ IsContent c ∥₁))

pub contents_behind : (told log : List LogEntry) → AreContents told → AreContents log → AreContents (told ++ log)
contents_behind told log p q = All-append Fine told log p q

pub contents_front : (told log : List LogEntry) → AreContents (told ++ log) → AreContents told
contents_front [] log all = All-nil Fine
contents_front (e ∷ told) log all = All-cons Fine e told (All-head Fine e (told ++ log) all) (contents_front told log (All-tail Fine e (told ++ log) all))

module _ {H : Type 0} (does : Does H) (stops : Stops H) (told : List LogEntry) where
  answered_behind : (c : ℕ) (a : Asked) (answers : List Content) (h h' : H) (log log' : List LogEntry) → IsAnswered does c a answers h log h' log'
      → IsAnswered does c a answers h (told ++ log) h' (told ++ log')
  answered_behind c a answers h h' log log' was =
      record { answered = was.answered; count = was.count; entry = one_behind told log log' _ was.entry }

  reply_behind : (why : NoReplies) (c : ℕ) (id : ℤ) (a : Asked) (h h' : H) (log log' : List LogEntry) (r r' : ReplyState)
      → ReplyStep does stops c id a (Err why) h log r h' log' r' → ReplyStep does stops c id a (Err why) h (told ++ log) r h' (told ++ log') r'
  reply_behind NotAsked c id a h h' log log' r r' (h_is, log_is, r_is) = (h_is, ap (λ (es : List LogEntry). told ++ es) log_is, r_is)
  reply_behind (Stopped stop) c id a h h' log log' r r' (stopped, log_is, r_is) = (stopped, one_behind told log log' _ log_is, r_is)
  reply_behind TooLarge c id a h h' log log' r r' (answers, was, long, r_is) =
      (answers, answered_behind c a answers h h' log log' was, long, r_is)
  reply_behind NoMemory c id a h h' log log' r r' (answers, was, acked, short, r_is) =
      (answers, answered_behind c a answers h h' log log' was, acked, short, r_is)

  pub answer_behind : (result : Result ℕ AnswerRefusal) (s s' : ServerView) (h h' : H) (log log' : List LogEntry)
      → AnswerStep does stops 0 result s h log s' h' log'
      → AnswerStep does stops 0 (among_all (length told) result) s h (told ++ log) s' h' (told ++ log')
  answer_behind (Ok n) s s' h h' log log' (opens, count, (m, waits, (r, (answers, was, short, r_is), s_is))) = (
    opens,
    omega (arith, count, length-append told log),
    (m, waits, (r, (answers, answered_behind s.connection _ answers h h' log log' was, short, r_is), s_is)),
  )
  answer_behind (Err (refusals.NowClosed cause)) s s' h h' log log' (opens, s_is, (m, waits, (why, closes, step))) =
      (opens, s_is, (m, waits, (why, closes, reply_behind why s.connection m.id _ h h' log log' _ _ step)))
  answer_behind (Err refusals.Closed) s s' h h' log log' (opens, s_is, h_is, log_is) =
      (opens, s_is, h_is, ap (λ (es : List LogEntry). told ++ es) log_is)
  answer_behind (Err refusals.NoSuchRequest) s s' h h' log log' (opens, few, s_is, h_is, log_is) =
      (opens, few, s_is, h_is, ap (λ (es : List LogEntry). told ++ es) log_is)
  answer_behind (Err refusals.OutOfMemory) s s' h h' log log' (opens, few, s_is, h_is, log_is) =
      (opens, few, s_is, h_is, ap (λ (es : List LogEntry). told ++ es) log_is)
