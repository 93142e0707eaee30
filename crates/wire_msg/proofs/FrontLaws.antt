-- What stands in front of bytes is told in one way.
use Rattle.std.proofs.Common.{◌≡◌, ◌⊎◌, inl, inr, ℕ, ◌≤◌, List, ◌++◌, length, take, drop, refl, sym, ap, subst, ◌∙◌, ◌+◌, arith, length-append, length-take}
use Rattle.std.proofs.lemmas.List.{take_at, take-append-drop}
use Rattle.std.specs.Borrow.{Bor}
use Rattle.bson_elem.specs.Spelling.{IsBytes}
use Rattle.bson_elem.proofs.Lemmas.{IsBytes-take}
use Rattle.wire_msg.specs.declared.header.MsgHeader.{MsgHeader}
use Rattle.wire_msg.specs.declared.fault.MsgFault.{MsgFault}
use Rattle.wire_msg.specs.declared.front.MsgFront.{MsgFront}
use Rattle.wire_msg.specs.declared.front.MsgFront.TheVariants.{Whole, Open, Bad}
use Rattle.wire_msg.specs.declared.msg.RawMsg.{RawMsg}
use Rattle.wire_msg.specs.RawMsg.{msg_bytes}
use Rattle.wire_msg.specs.Header.{number_at, header_of, IsGoodHeader, HeaderFault}
use Rattle.wire_msg.specs.Messages.{Message}
use Rattle.wire_msg.specs.Spelling.{IsMessage}
use Rattle.wire_msg.specs.Faults.{IsFramedMsg, PartsFault, FaultMsg, of_parts}
use Rattle.wire_msg.specs.Standing.{IsOpen, IsWhole, IsBad, bad_header, bad_message, Stands, is_open, is_whole, is_bad}
use Rattle.wire_msg.specs.Front.{IsFront, HasWhole}
use Rattle.wire_msg.proofs.FaultOffsets.{header_offset, fault_offset}
use Rattle.wire_msg.proofs.StandingLaws.{header_front, one_front, open_not_whole, open_not_bad, bad_not_whole, bad_once}

pub IsBytes-front : (bytes front rest : List ℕ) → IsBytes bytes → bytes ≡ front ++ rest → IsBytes front
IsBytes-front bytes front rest fits parts =
    subst IsBytes (ap (take (length front)) parts ∙ take_at front rest (length front) refl) (IsBytes-take (length front) bytes fits)

-- ---- from the header on

-- the bytes that a good header announces
pub framed_front : (limit : ℕ) (bytes front rest : List ℕ) (len : ℕ) → IsGoodHeader limit (header_of bytes) → len ≡ number_at bytes 0 → len ≤ length bytes → front ≡ take len bytes → rest ≡ drop len bytes → (bytes ≡ front ++ rest) × IsFramedMsg limit front
framed_front limit bytes front rest len good size room is behind =
    let parts : bytes ≡ front ++ rest = sym (take-append-drop len bytes) ∙ ap (λ (x : List ℕ). x ++ drop len bytes) (sym is) ∙ ap (λ (x : List ℕ). front ++ x) (sym behind) in
    let long : length front ≡ len = omega (arith, ap length is, length-take len bytes, room) in
    let enough : 16 ≤ length front = omega (arith, long, size, good.least) in
    let same : header_of front ≡ header_of bytes = sym (ap header_of parts ∙ header_front front rest enough) in
    (parts, record { header = enough; good = subst (IsGoodHeader limit) (sym same) good; whole = ap (λ (h : MsgHeader). h.length) same ∙ sym size ∙ sym long })

-- the parts of the announced bytes have a fault
pub framed_bad : (limit : ℕ) (bytes message rest : List ℕ) (f : MsgFault) → IsBytes bytes → bytes ≡ message ++ rest → IsFramedMsg limit message → PartsFault message f → IsBad limit bytes f × (f.at ≤ length bytes)
framed_bad limit bytes message rest f fits parts framed fault =
    let same : header_of bytes ≡ header_of message = ap header_of parts ∙ header_front message rest framed.header in
    let size : number_at bytes 0 ≡ length message = ap (λ (h : MsgHeader). h.length) same ∙ framed.whole in
    let sum : length bytes ≡ length message + length rest = ap length parts ∙ length-append message rest in
    let cut : take (number_at bytes 0) bytes ≡ message = ap (λ (n : ℕ). take n bytes) size ∙ ap (take (length message)) parts ∙ take_at message rest (length message) refl in
    let wrong : FaultMsg message limit f = of_parts framed fault in (
      bad_message (omega (arith, framed.header, sum)) (subst (IsGoodHeader limit) (sym same) framed.good) (omega (arith, size, sum)) (subst (λ (x : List ℕ). FaultMsg x limit f) (sym cut) wrong),
      omega (arith, fault_offset message limit f (IsBytes-front bytes message rest fits parts) wrong, sum),
    )

pub header_bad : (limit : ℕ) (bytes : List ℕ) (f : MsgFault) → 16 ≤ length bytes → HeaderFault limit (header_of bytes) f → IsBad limit bytes f × (f.at ≤ length bytes)
header_bad limit bytes f room fault = (bad_header room fault, omega (arith, room, header_offset limit (header_of bytes) f fault))

-- ---- one way

whole_of : (limit : ℕ) (bytes front rest : List ℕ) → bytes ≡ front ++ rest → (m : IsMessage limit front) → IsWhole limit bytes m.1.0 rest
whole_of limit bytes front rest parts m = record { front = front; parts = parts; spelled = m.1.1; within = m.0 }

told_whole : (limit : ℕ) (bytes : List ℕ) (told : MsgFront) → IsBytes bytes → IsFront limit bytes told → (m : Message) (rest : List ℕ) (w : IsWhole limit bytes m rest) → HasWhole w.front rest told
told_whole limit bytes (Whole message after) fits is m rest w =
    let same = one_front is.1.1.0 m (msg_bytes message) w.front after.now rest (IsBytes-front bytes (msg_bytes message) after.now fits is.0) is.1.1.1 w.spelled (sym is.0 ∙ w.parts) in
    (same.1, same.2)
told_whole limit bytes Open fits is m rest w = open_not_whole limit bytes rest m is w
told_whole limit bytes (Bad f) fits is m rest w = bad_not_whole limit bytes rest m f fits is.0 w

told_open : (limit : ℕ) (bytes : List ℕ) (told : MsgFront) → IsFront limit bytes told → IsOpen limit bytes → told ≡ Open
told_open limit bytes (Whole message after) is o = absurd (open_not_whole limit bytes after.now is.1.1.0 o (whole_of limit bytes (msg_bytes message) after.now is.0 is.1))
told_open limit bytes Open is o = refl
told_open limit bytes (Bad f) is o = absurd (open_not_bad limit bytes f o is.0)

told_bad : (limit : ℕ) (bytes : List ℕ) (told : MsgFront) → IsBytes bytes → IsFront limit bytes told → (f : MsgFault) → IsBad limit bytes f → told ≡ Bad f
told_bad limit bytes (Whole message after) fits is f bad = absurd (bad_not_whole limit bytes after.now is.1.1.0 f fits bad (whole_of limit bytes (msg_bytes message) after.now is.0 is.1))
told_bad limit bytes Open fits is f bad = absurd (open_not_bad limit bytes f is bad)
told_bad limit bytes (Bad g) fits is f bad = ap Bad (bad_once limit bytes g f fits is.0 bad)

pub record Told (limit : ℕ) (bytes : List ℕ) (told : MsgFront) : Type 0 where
  pub front : IsFront limit bytes told
  pub whole : (m : Message) (rest : List ℕ) (w : IsWhole limit bytes m rest) → HasWhole w.front rest told
  pub too_few : IsOpen limit bytes → told ≡ Open
  pub bad : (f : MsgFault) → IsBad limit bytes f → told ≡ Bad f

-- what is told is all that holds
pub told_all : (limit : ℕ) (bytes : List ℕ) (told : MsgFront) → IsBytes bytes → IsFront limit bytes told → Told limit bytes told
told_all limit bytes told fits is = record { front = is; whole = told_whole limit bytes told fits is; too_few = told_open limit bytes told is; bad = told_bad limit bytes told fits is }

-- what is told holds
pub stands : (limit : ℕ) (bytes : List ℕ) (told : MsgFront) → IsFront limit bytes told → Stands limit bytes
stands limit bytes (Whole message after) is = is_whole is.1.1.0 after.now (whole_of limit bytes (msg_bytes message) after.now is.0 is.1)
stands limit bytes Open is = is_open is
stands limit bytes (Bad f) is = is_bad f is.0

-- where no message is told, the bytes are open or bad
pub open_or_bad : (limit : ℕ) (bytes : List ℕ) (told : MsgFront) → IsFront limit bytes told → ((message : RawMsg) (rest : Bor (List ℕ)) → told ≡ Whole message rest → ⊥) → IsOpen limit bytes ⊎ ((f : MsgFault) × IsBad limit bytes f)
open_or_bad limit bytes (Whole message after) is none = absurd (none message after refl)
open_or_bad limit bytes Open is none = inl is
open_or_bad limit bytes (Bad f) is none = inr (f, is.0)
