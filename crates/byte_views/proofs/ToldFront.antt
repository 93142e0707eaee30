-- What is told of bytes that more may follow.
use Rattle.std.proofs.Common.{◌≡◌, ◌+◌, ◌++◌, ℕ, List, length, refl, sym, ap, ◌∙◌, arith}
use Rattle.std.specs.Prelude.{None}
use Rattle.bson_elem.specs.Spelling.{IsBytes}
use Rattle.wire_msg.specs.declared.fault.MsgFault.{MsgFault}
use Rattle.wire_msg.specs.Causes.{msg_fault}
use Rattle.wire_msg.specs.Spelling.{IsMessage}
use Rattle.wire_msg.specs.Standing.{IsBad}
use Rattle.wire_msg.proofs.Lemmas.{bad_not_whole, bad_once, one_front, open_not_bad, open_not_whole, IsBytes-front}
use Rattle.byte_views.specs.declared.fault.FirstFault.{FirstFault}
use Rattle.byte_views.specs.declared.front.MessageFront.{MessageFront}
use Rattle.byte_views.specs.Fault.{document_fault, first_fault, message_fault}
use Rattle.byte_views.specs.Front.{IsMessageFront, is_open, is_whole, is_bad, bad_front, good_front}

same_bad : (f : MsgFault) (a b : FirstFault) → a ≡ message_fault f → b ≡ document_fault f.cause
    → (let front : MessageFront = record { state = 2; length = 0; fault = a; document_fault = b } in front) ≡ bad_front f
same_bad f a b is inside = rw (is, inside) refl

pub told_bad : (limit : ℕ) (bytes : List ℕ) (f : MsgFault) (a b : FirstFault) → IsBad limit bytes f → a ≡ message_fault (msg_fault (0 + f.at) f.cause) → b ≡ document_fault f.cause
    → IsMessageFront limit bytes (record { state = 2; length = 0; fault = a; document_fault = b })
told_bad limit bytes f a b bad is inside =
    let e : 0 + f.at ≡ f.at = omega arith in
    is_bad f bad (same_bad f a b (is ∙ ap (λ (n : ℕ). message_fault (msg_fault n f.cause)) e) inside)

same_whole : (m n : ℕ) (a b : FirstFault) → m ≡ n → a ≡ first_fault None → b ≡ first_fault None
    → (let front : MessageFront = record { state = 1; length = m; fault = a; document_fault = b } in front) ≡ good_front 1 n
same_whole m n a b size is inside = rw (size, is, inside) refl

pub told_whole : (limit : ℕ) (bytes front rest : List ℕ) (n : ℕ) (a b : FirstFault) → bytes ≡ front ++ rest → IsMessage limit front → n ≡ length front → a ≡ first_fault None → b ≡ first_fault None
    → IsMessageFront limit bytes (record { state = 1; length = n; fault = a; document_fault = b })
told_whole limit bytes front rest n a b parts is size none inside =
    is_whole is.1.0 rest (record { front = front; parts = parts; spelled = is.1.1; within = is.0 }) (same_whole n (length front) a b size none inside)

-- ---- there is at most one answer

pub one_message_front : (limit : ℕ) (bytes : List ℕ) (a b : MessageFront) → IsBytes bytes → IsMessageFront limit bytes a → IsMessageFront limit bytes b → a ≡ b
one_message_front limit bytes a b fits (is_open cut is) (is_open cut' is') = is ∙ sym is'
one_message_front limit bytes a b fits (is_open cut is) (is_whole m rest w is') = absurd (open_not_whole limit bytes rest m cut w)
one_message_front limit bytes a b fits (is_open cut is) (is_bad f bad is') = absurd (open_not_bad limit bytes f cut bad)
one_message_front limit bytes a b fits (is_whole m rest w is) (is_open cut' is') = absurd (open_not_whole limit bytes rest m cut' w)
one_message_front limit bytes a b fits (is_whole m rest w is) (is_whole n after v is') =
    let same = one_front m n w.front v.front rest after (IsBytes-front bytes w.front rest fits w.parts) w.spelled v.spelled (sym w.parts ∙ v.parts) in
    is ∙ ap (λ (x : List ℕ). good_front 1 (length x)) same.1 ∙ sym is'
one_message_front limit bytes a b fits (is_whole m rest w is) (is_bad f bad is') = absurd (bad_not_whole limit bytes rest m f fits bad w)
one_message_front limit bytes a b fits (is_bad f bad is) (is_open cut' is') = absurd (open_not_bad limit bytes f cut' bad)
one_message_front limit bytes a b fits (is_bad f bad is) (is_whole n after v is') = absurd (bad_not_whole limit bytes after n f fits bad v)
one_message_front limit bytes a b fits (is_bad f bad is) (is_bad g bad' is') = is ∙ ap bad_front (bad_once limit bytes f g fits bad bad') ∙ sym is'
