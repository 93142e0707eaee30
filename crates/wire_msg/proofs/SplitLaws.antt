-- Bytes are messages and a rest in one way.
use Rattle.std.proofs.Common.{◌≡◌, ◌⊎◌, inl, inr, ℕ, ◌<◌, ◌≤◌, List, [], ◌∷◌, ◌++◌, length, refl, sym, ap, subst, ◌∙◌, append_assoc, arith, length-append}
use Rattle.bson_elem.specs.Spelling.{IsBytes}
use Rattle.bson_elem.proofs.Lemmas.{IsBytes-after}
use Rattle.wire_msg.specs.declared.fault.MsgFault.{MsgFault}
use Rattle.wire_msg.specs.Messages.{Message}
use Rattle.wire_msg.specs.Spelling.{SpellsMsg, IsMessage}
use Rattle.wire_msg.specs.Standing.{IsOpen, IsWhole, IsBad}
use Rattle.framing.specs.{BeginsOnce}
use Rattle.framing.proofs.Lemmas.{back_to_back-append, back_to_back_alone, split_once}
use Rattle.wire_msg.specs.Splits.{AreSpelled, BeginsNone, SpellsWithin, Split}
use Rattle.wire_msg.proofs.StandingLaws.{bad_longer, least_length, one_front, open_not_whole, bad_not_whole}
use Rattle.wire_msg.proofs.ByteLaws.{msg_are_bytes}

-- bytes begin with one message at most
begin_once : (limit : ℕ) → BeginsOnce (SpellsWithin limit)
begin_once limit = λ m n a b rest after s t is. let same = one_front m n a b rest after (msg_are_bytes m a s.0) s.0 t.0 is in (same.0, same.2)

none_in_front : (limit : ℕ) (bytes : List ℕ) → BeginsNone limit bytes → (m : Message) (front rest : List ℕ) → SpellsWithin limit m front → bytes ≡ front ++ rest → ⊥
none_in_front limit bytes none = λ m front rest s is. none m rest (record { front = front; parts = is; spelled = s.0; within = s.1 })

-- Bytes are split in one way at most. Only the bytes of the messages have to be below 256, not those
-- of the rests.
pub only_split : (limit : ℕ) (bytes : List ℕ) (messages others : List Message) (rest after : List ℕ) → Split limit bytes messages rest → Split limit bytes others after → (messages ≡ others) × (rest ≡ after)
only_split limit bytes messages others rest after s t =
    split_once (SpellsWithin limit) (begin_once limit) messages others s.joined t.joined rest after s.spelled t.spelled (sym s.parts ∙ t.parts)
    (none_in_front limit rest s.ends) (none_in_front limit after t.ends)

pub one_split : (limit : ℕ) (bytes : List ℕ) (messages others : List Message) (rest after : List ℕ) → IsBytes bytes → Split limit bytes messages rest → Split limit bytes others after → (messages ≡ others) × (rest ≡ after)
one_split limit bytes messages others rest after fits = only_split limit bytes messages others rest after

-- ---- messages joined

pub spelled-append : (limit : ℕ) (ms ns : List Message) (j k : List ℕ) → AreSpelled limit ms j → AreSpelled limit ns k → AreSpelled limit (ms ++ ns) (j ++ k)
spelled-append limit = back_to_back-append (SpellsWithin limit)

pub spelled_alone : (limit : ℕ) (m : Message) (front : List ℕ) → SpellsMsg m front → length front ≤ limit → AreSpelled limit (m ∷ []) front
spelled_alone limit m front s le = back_to_back_alone (SpellsWithin limit) m front (s, le)

-- ---- how a split is found

-- messages, and then open bytes
pub open_ends : (limit : ℕ) (messages : List Message) (joined rest : List ℕ) → AreSpelled limit messages joined → IsOpen limit rest → Split limit (joined ++ rest) messages rest
open_ends limit messages joined rest spelled o = record { joined = joined; spelled = spelled; parts = refl; ends = λ m after w. open_not_whole limit rest after m o w }

-- messages, and then bad bytes
pub bad_ends : (limit : ℕ) (messages : List Message) (joined rest : List ℕ) (f : MsgFault) → IsBytes rest → AreSpelled limit messages joined → IsBad limit rest f → Split limit (joined ++ rest) messages rest
bad_ends limit messages joined rest f fits spelled bad = record { joined = joined; spelled = spelled; parts = refl; ends = λ m after w. bad_not_whole limit rest after m f fits bad w }

-- a message, and then what is split
pub whole_first : (limit : ℕ) (bytes after rest : List ℕ) (m : Message) (messages : List Message) → IsWhole limit bytes m after → Split limit after messages rest → Split limit bytes (m ∷ messages) rest
whole_first limit bytes after rest m messages w s = record {
  joined = w.front ++ s.joined;
  spelled = (w.front, s.joined, (w.spelled, w.within), s.spelled, refl);
  parts = w.parts ∙ ap (λ (x : List ℕ). w.front ++ x) s.parts ∙ sym (append_assoc w.front s.joined rest);
  ends = s.ends;
}

-- messages behind which bytes are split
pub messages_first : (limit : ℕ) (front after rest : List ℕ) (messages others : List Message) → AreSpelled limit messages front → Split limit after others rest → Split limit (front ++ after) (messages ++ others) rest
messages_first limit front after rest messages others a s = record {
  joined = front ++ s.joined;
  spelled = spelled-append limit messages others front s.joined a s.spelled;
  parts = ap (λ (x : List ℕ). front ++ x) s.parts ∙ sym (append_assoc front s.joined rest);
  ends = s.ends;
}

-- bytes that come after a split are split behind its messages
pub goes_on : (limit : ℕ) (bytes more rest after : List ℕ) (messages others : List Message) → Split limit bytes messages rest → Split limit (rest ++ more) others after → Split limit (bytes ++ more) (messages ++ others) after
goes_on limit bytes more rest after messages others s t = record {
  joined = s.joined ++ t.joined;
  spelled = spelled-append limit messages others s.joined t.joined s.spelled t.spelled;
  parts = ap (λ (x : List ℕ). x ++ more) s.parts ∙ append_assoc s.joined rest more ∙ ap (λ (x : List ℕ). s.joined ++ x) t.parts ∙ sym (append_assoc s.joined t.joined after);
  ends = t.ends;
}

-- bytes that come after a bad rest belong to it
pub bad_goes_on : (limit : ℕ) (bytes more rest : List ℕ) (messages : List Message) (f : MsgFault) → IsBytes (rest ++ more) → Split limit bytes messages rest → IsBad limit rest f → Split limit (bytes ++ more) messages (rest ++ more)
bad_goes_on limit bytes more rest messages f fits s bad = record {
  joined = s.joined;
  spelled = s.spelled;
  parts = ap (λ (x : List ℕ). x ++ more) s.parts ∙ append_assoc s.joined rest more;
  ends = λ m after w. bad_not_whole limit (rest ++ more) after m f fits (bad_longer limit rest more f bad) w;
}

-- ---- the walk that finds it

-- messages joined, and what is left
pub record Cut (limit : ℕ) (bytes rest : List ℕ) : Type 0 where
  pub messages : List Message
  pub joined : List ℕ
  pub spelled : AreSpelled limit messages joined
  pub parts : bytes ≡ joined ++ rest

pub no_cut : (limit : ℕ) (bytes : List ℕ) → Cut limit bytes bytes
no_cut limit bytes = record { messages = []; joined = []; spelled = refl; parts = refl }

pub cut_more : (limit : ℕ) (bytes rest after front : List ℕ) → Cut limit bytes rest → rest ≡ front ++ after → IsMessage limit front → Cut limit bytes after
cut_more limit bytes rest after front cut is m = record {
  messages = cut.messages ++ m.1.0 ∷ [];
  joined = cut.joined ++ front;
  spelled = spelled-append limit cut.messages (m.1.0 ∷ []) cut.joined front cut.spelled (spelled_alone limit m.1.0 front m.1.1 m.0);
  parts = cut.parts ∙ ap (λ (x : List ℕ). cut.joined ++ x) is ∙ sym (append_assoc cut.joined front after);
}

pub cut_smaller : (limit : ℕ) (rest after front : List ℕ) → rest ≡ front ++ after → IsMessage limit front → length after < length rest
cut_smaller limit rest after front is m = omega (arith, ap length is, length-append front after, least_length m.1.0 front m.1.1)

-- what is left begins with no message
pub cut_ends : (limit : ℕ) (bytes rest : List ℕ) → IsBytes bytes → Cut limit bytes rest → IsOpen limit rest ⊎ ((f : MsgFault) × IsBad limit rest f) → (messages : List Message) × Split limit bytes messages rest
cut_ends limit bytes rest fits cut (inl o) = (cut.messages, subst (λ (x : List ℕ). Split limit x cut.messages rest) (sym cut.parts) (open_ends limit cut.messages cut.joined rest cut.spelled o))
cut_ends limit bytes rest fits cut (inr bad) =
    let behind = IsBytes-after cut.joined rest (subst IsBytes cut.parts fits) in
    (cut.messages, subst (λ (x : List ℕ). Split limit x cut.messages rest) (sym cut.parts) (bad_ends limit cut.messages cut.joined rest bad.0 behind cut.spelled bad.1))
