-- There is at most one answer for given bytes as messages.
use Rattle.std.proofs.Common.{◌≡◌, ◌+◌, [], ℕ, List, length, sym, ap, subst, ◌∙◌, arith, length-append}
use Rattle.bson_elem.specs.Spelling.{IsBytes}
use Rattle.bson_elem.proofs.Lemmas.{IsBytes-after}
use Rattle.wire_msg.specs.declared.fault.MsgFault.{MsgFault}
use Rattle.wire_msg.specs.Causes.{msg_fault}
use Rattle.wire_msg.specs.Messages.{Message}
use Rattle.wire_msg.specs.Standing.{IsOpen, in_header}
use Rattle.wire_msg.proofs.Lemmas.{bad_once, no_msg_fault, one_msg_fault, one_split, open_not_bad}
use Rattle.byte_views.specs.declared.messages.MessageCheck.{MessageCheck}
use Rattle.byte_views.specs.declared.messages.MessagesCheck.{MessagesCheck}
use Rattle.byte_views.specs.Messages.{IsMessageCheck, is_message, has_fault, Ending, at_fault, EndsAs, is_nothing, is_open, is_bad, messages_check, IsMessagesCheck}
use Rattle.byte_views.specs.Fault.{document_fault, message_fault}

-- ---- exactly one message

pub one_message_check : (limit : ℕ) (bytes : List ℕ) (a b : MessageCheck) → IsBytes bytes → IsMessageCheck limit bytes a → IsMessageCheck limit bytes b → a ≡ b
one_message_check limit bytes a b fits (is_message m s within is) (is_message n s' within' is') = is ∙ sym is'
one_message_check limit bytes a b fits (is_message m s within is) (has_fault f bad is') = absurd (no_msg_fault limit m bytes f fits s within bad)
one_message_check limit bytes a b fits (has_fault f bad is) (is_message m s within is') = absurd (no_msg_fault limit m bytes f fits s within bad)
one_message_check limit bytes a b fits (has_fault f bad is) (has_fault g bad' is') =
    is ∙ ap (λ (x : MsgFault). let check : MessageCheck = record { fault = message_fault x; document_fault = document_fault x.cause } in check) (one_msg_fault limit bytes f g fits bad bad') ∙ sym is'

-- ---- messages one after another

nothing_open : (limit : ℕ) (rest : List ℕ) → rest ≡ [] → IsOpen limit rest
nothing_open limit rest none = in_header (omega (arith, ap length none))

one_end : (limit offset : ℕ) (rest : List ℕ) (x y : Ending) → IsBytes rest → EndsAs limit offset rest x → EndsAs limit offset rest y → x ≡ y
one_end limit offset rest x y fits (is_nothing none is) (is_nothing none' is') = is ∙ sym is'
one_end limit offset rest x y fits (is_nothing none is) (is_open some cut is') = absurd (some none)
one_end limit offset rest x y fits (is_nothing none is) (is_bad f bad is') = absurd (open_not_bad limit rest f (nothing_open limit rest none) bad)
one_end limit offset rest x y fits (is_open some cut is) (is_nothing none is') = absurd (some none)
one_end limit offset rest x y fits (is_open some cut is) (is_open some' cut' is') = is ∙ sym is'
one_end limit offset rest x y fits (is_open some cut is) (is_bad f bad is') = absurd (open_not_bad limit rest f cut bad)
one_end limit offset rest x y fits (is_bad f bad is) (is_nothing none is') = absurd (open_not_bad limit rest f (nothing_open limit rest none) bad)
one_end limit offset rest x y fits (is_bad f bad is) (is_open some cut is') = absurd (open_not_bad limit rest f cut bad)
one_end limit offset rest x y fits (is_bad f bad is) (is_bad g bad' is') =
    is ∙ ap (λ (z : MsgFault). at_fault (msg_fault (offset + z.at) z.cause)) (bad_once limit rest f g fits bad bad') ∙ sym is'

pub one_messages_check : (limit : ℕ) (bytes : List ℕ) (a b : MessagesCheck) → IsBytes bytes → IsMessagesCheck limit bytes a → IsMessagesCheck limit bytes b → a ≡ b
one_messages_check limit bytes a b fits r s =
    let same = one_split limit bytes r.0 s.0 r.1 s.1 fits r.2 s.2 in
    let size : length r.2.joined ≡ length s.2.joined =
    omega (arith, ap length r.2.parts, length-append r.2.joined r.1, ap length s.2.parts, length-append s.2.joined s.1, ap length same.1) in
    let other = subst (λ (z : List ℕ). EndsAs limit (length r.2.joined) z s.3) (sym same.1) (subst (λ (n : ℕ). EndsAs limit n s.1 s.3) (sym size) s.4) in
    let last = one_end limit (length r.2.joined) r.1 r.3 s.3 (IsBytes-after r.2.joined r.1 (subst IsBytes r.2.parts fits)) r.4 other in
    r.5 ∙ ap (λ (x : List Message). messages_check x (length r.2.joined) r.3) same.0 ∙ ap (λ (n : ℕ). messages_check s.0 n r.3) size ∙ ap (messages_check s.0 (length s.2.joined)) last ∙ sym s.5
