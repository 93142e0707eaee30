-- What is told of the messages that begin some bytes.
use Rattle.std.proofs.Common.{◌≡◌, ◌+◌, ◌≤◌, ◌++◌, [], ◌∷◌, ℕ, List, length, refl, sym, ap, subst, ◌∙◌, append_assoc, arith, length-append}
use Rattle.std.specs.Prelude.{None}
use Rattle.bson_elem.specs.Spelling.{IsBytes}
use Rattle.bson_elem.proofs.Lemmas.{IsBytes-after}
use Rattle.wire_msg.specs.declared.fault.MsgFault.{MsgFault}
use Rattle.wire_msg.specs.Causes.{msg_fault}
use Rattle.wire_msg.specs.Messages.{Message}
use Rattle.wire_msg.specs.Spelling.{IsMessage}
use Rattle.wire_msg.specs.Splits.{AreSpelled}
use Rattle.wire_msg.specs.Standing.{IsBad, IsOpen, IsWhole, in_header}
use Rattle.wire_msg.proofs.Lemmas.{bad_not_whole, msg_read, open_not_whole, spelled-append, spelled_alone}
use Rattle.byte_views.specs.declared.fault.FirstFault.{FirstFault}
use Rattle.byte_views.specs.declared.messages.MessageCheck.{MessageCheck}
use Rattle.byte_views.specs.declared.messages.MessagesCheck.{MessagesCheck}
use Rattle.byte_views.specs.Fault.{document_fault, ended_inside_fault, first_fault, message_fault}
use Rattle.byte_views.specs.Messages.{IsMessageCheck, has_fault, Ending, all_read, ended_inside, at_fault, EndsAs, is_nothing, is_open, is_bad, messages_check, IsMessagesCheck}
use Rattle.wire_msg.specs.Faults.{FaultMsg}

-- ---- exactly one message

same_message : (f : MsgFault) (a b : FirstFault) → a ≡ message_fault f → b ≡ document_fault f.cause
    → (let check : MessageCheck = record { fault = a; document_fault = b } in check) ≡ record { fault = message_fault f; document_fault = document_fault f.cause }
same_message f a b is inside = rw (is, inside) refl

pub told_fault : (limit : ℕ) (bytes : List ℕ) (f : MsgFault) (a b : FirstFault) → FaultMsg bytes limit f → a ≡ message_fault (msg_fault (0 + f.at) f.cause) → b ≡ document_fault f.cause
    → IsMessageCheck limit bytes (record { fault = a; document_fault = b })
told_fault limit bytes f a b bad is inside =
    let e : 0 + f.at ≡ f.at = omega arith in
    has_fault f bad (same_message f a b (is ∙ ap (λ (n : ℕ). message_fault (msg_fault n f.cause)) e) inside)

-- ---- messages one after another

-- the bytes begin with these messages, and this is the rest
pub record Seen (limit : ℕ) (bytes : List ℕ) (messages : List Message) (rest : List ℕ) : Type 0 where
  pub joined : List ℕ
  pub spelled : AreSpelled limit messages joined
  pub parts : bytes ≡ joined ++ rest

pub nothing_seen : (limit : ℕ) (bytes : List ℕ) → Seen limit bytes [] bytes
nothing_seen limit bytes = record { joined = []; spelled = refl; parts = refl }

-- a message takes at least twenty bytes
pub message_takes : (limit : ℕ) (rest after : List ℕ) (m : Message) → IsWhole limit rest m after → length after + 20 ≤ length rest
message_takes limit rest after m w = omega (arith, (msg_read m w.front w.spelled).long, ap length w.parts, length-append w.front after)

-- one more message
pub one_more : (limit : ℕ) (bytes rest after : List ℕ) (ms : List Message) (m : Message) → IsWhole limit rest m after → Seen limit bytes ms rest → Seen limit bytes (ms ++ m ∷ []) after
one_more limit bytes rest after ms m w i = record {
  joined = i.joined ++ w.front;
  spelled = spelled-append limit ms (m ∷ []) i.joined w.front i.spelled (spelled_alone limit m w.front w.spelled w.within);
  parts = i.parts ∙ ap (λ (x : List ℕ). i.joined ++ x) w.parts ∙ sym (append_assoc i.joined w.front after);
}

-- a message in front, and what follows it
pub whole_of : (limit : ℕ) (bytes front rest : List ℕ) → bytes ≡ front ++ rest → (is : IsMessage limit front) → IsWhole limit bytes is.1.0 rest
whole_of limit bytes front rest parts is = record { front = front; parts = parts; spelled = is.1.1; within = is.0 }

-- no message begins a rest that ends in this way
none_begins : (limit offset : ℕ) (rest : List ℕ) (ending : Ending) → IsBytes rest → EndsAs limit offset rest ending → (m : Message) (after : List ℕ) → IsWhole limit rest m after → ⊥
none_begins limit offset rest ending fits (is_nothing none is) m after w = open_not_whole limit rest after m (in_header (omega (arith, ap length none))) w
none_begins limit offset rest ending fits (is_open some cut is) m after w = open_not_whole limit rest after m cut w
none_begins limit offset rest ending fits (is_bad f bad is) m after w = bad_not_whole limit rest after m f fits bad w

abbrev check : ℕ → ℕ → FirstFault → FirstFault → MessagesCheck
check d n f g = record { messages = d; bytes_read = n; fault = f; document_fault = g }

same_check : (d d' n n' : ℕ) (f f' g g' : FirstFault) → d ≡ d' → n ≡ n' → f ≡ f' → g ≡ g' → check d n f g ≡ check d' n' f' g'
same_check d d' n n' f f' g g' a b e h = rw (a, b, e, h) refl

abbrev Told : List ℕ → List ℕ → List Message → ℕ → ℕ → Type 0
Told bytes rest ms d n = IsBytes bytes × (d ≡ length ms) × (n + length rest ≡ length bytes)

told : (limit : ℕ) (bytes rest : List ℕ) (ms : List Message) (d n : ℕ) (ending : Ending) (c : MessagesCheck) → Told bytes rest ms d n → Seen limit bytes ms rest
    → EndsAs limit n rest ending → c ≡ messages_check ms n ending → IsMessagesCheck limit bytes c
told limit bytes rest ms d n ending c t i ends is =
    let size : n ≡ length i.joined = omega (arith, t.2, ap length i.parts, length-append i.joined rest) in (
      ms,
      rest,
      record {
        joined = i.joined;
        spelled = i.spelled;
        parts = i.parts;
        ends = none_begins limit n rest ending (IsBytes-after i.joined rest (subst IsBytes i.parts t.0)) ends;
      },
      ending,
      subst (λ (x : ℕ). EndsAs limit x rest ending) size ends,
      is ∙ ap (λ (x : ℕ). messages_check ms x ending) size,
    )

pub told_all : (limit : ℕ) (bytes rest : List ℕ) (ms : List Message) (d n : ℕ) (f g : FirstFault) → Told bytes rest ms d n → Seen limit bytes ms rest
    → rest ≡ [] → f ≡ first_fault None → g ≡ first_fault None → IsMessagesCheck limit bytes (check d n f g)
told_all limit bytes rest ms d n f g t i none is inside =
    told limit bytes rest ms d n all_read _ t i (is_nothing none refl) (same_check d (length ms) n n f _ g _ t.1 refl is inside)

pub told_inside : (limit : ℕ) (bytes rest : List ℕ) (ms : List Message) (d n : ℕ) (f g : FirstFault) → Told bytes rest ms d n → Seen limit bytes ms rest
    → (rest ≡ [] → ⊥) → IsOpen limit rest → f ≡ ended_inside_fault n → g ≡ first_fault None → IsMessagesCheck limit bytes (check d n f g)
told_inside limit bytes rest ms d n f g t i some cut is inside =
    told limit bytes rest ms d n (ended_inside n) _ t i (is_open some cut refl) (same_check d (length ms) n n f _ g _ t.1 refl is inside)

pub told_bad : (limit : ℕ) (bytes rest : List ℕ) (ms : List Message) (d n : ℕ) (bad : MsgFault) (f g : FirstFault) → Told bytes rest ms d n → Seen limit bytes ms rest
    → IsBad limit rest bad → f ≡ message_fault (msg_fault (n + bad.at) bad.cause) → g ≡ document_fault bad.cause → IsMessagesCheck limit bytes (check d n f g)
told_bad limit bytes rest ms d n bad f g t i is_so is inside =
    told limit bytes rest ms d n (at_fault (msg_fault (n + bad.at) bad.cause)) _ t i (is_bad bad is_so refl) (same_check d (length ms) n n f _ g _ t.1 refl is inside)
