-- The facts about bytes and messages that worlds need.
use Rattle.std.proofs.Common.{◌≡◌, inl, inr, ℕ, ℤ, ◌<◌, ◌≤◌, ◌^◌, FitsSigned, List, [], ◌∷◌, ◌++◌, length, take, refl, sym, ap, subst, ◌∙◌, arith}
use Rattle.std.specs.Coded.{Coded, code_by, coded_ℕ, coded_ℤ, coded_bool, coded_list, coded×}
use Rattle.std.specs.Int.{w32}
use Rattle.std.specs.Prelude.{Bool, slice_index}
use Rattle.std.proofs.lemmas.Bool.{cases_lt}
use Rattle.std.proofs.lemmas.List.{append-nil, take-append-le}
use base.Stored.{Coded-set}
use mathlib.Core.Logic.{∥∥₁_elim, ∥∥₁_prop}
use Rattle.bson_elem.specs.{IsBytes}
use Rattle.wire_msg.specs.{Content, FaultMsg, HeaderFault, IsBad, IsContent, IsGoodHeader, IsOpen, IsWhole, Message, SpellsMsg, canonical, header_of, message_len, number_at}
use Rattle.wire_msg.specs.Standing.{bad_header, bad_message, in_header}
use Rattle.wire_msg.specs.declared.fault.MsgFault.{MsgFault}
use Rattle.wire_msg.specs.declared.flags.MsgFlags.{MsgFlags}
use Rattle.wire_msg.specs.declared.header.MsgHeader.{MsgHeader}
use Rattle.wire_msg.proofs.Lemmas.{bad_not_whole, canonical_spelled, header_front, least_length, length-canonical, msg_are_bytes, msg_read, no_message, one_front, one_message, open_not_bad, open_not_whole}
use Rattle.wire_peer.specs.{coded_content}

-- the message has a spelling within the limit
pub record Fit (limit : ℕ) (m : Message) : Type 0 where
  pub within : message_len m.content ≤ limit
  pub id : FitsSigned w32 m.id
  pub response_to : FitsSigned w32 m.response_to
  pub content : ∥ IsContent m.content ∥₁

-- ---- equalities of bytes and of messages have one proof each

abbrev coded_bytes : Coded (List ℕ)
coded_bytes = coded_list coded_ℕ

abbrev Parts : Type 0
Parts = (ℤ × ℤ) × ((Bool × Bool) × Content)

abbrev flags_of : Bool → Bool → MsgFlags
flags_of more exhaust_allowed = record { more_to_come = more; exhaust_allowed = exhaust_allowed }

coded_message : Coded Message
coded_message = code_by Parts (coded× (coded× coded_ℤ coded_ℤ) (coded× (coded× coded_bool coded_bool) coded_content))
    (λ m. ((m.id, m.response_to), ((m.flags.more_to_come, m.flags.exhaust_allowed), m.content)))
    (λ p. record { id = p.0.0; response_to = p.0.1; flags = flags_of p.1.0.0 p.1.0.1; content = p.1.1 }) (λ _. refl)

message_set : (m n : Message) → IsProp (m ≡ n)
message_set m n = Coded-set coded_message m n

bytes_set : (a b : List ℕ) → IsProp (a ≡ b)
bytes_set a b = Coded-set coded_bytes a b

absurd_prop : IsProp ⊥
absurd_prop x y = absurd x

-- ---- the canonical spelling

fit_spells : (limit : ℕ) (m : Message) → limit < 2 ^ 31 → Fit limit m → ∥ SpellsMsg m (canonical m) ∥₁
fit_spells limit m lt f = ∥∥₁_elim f.content ∥∥₁_prop (λ c. ∣ canonical_spelled m f.id f.response_to c (omega (arith, lt, f.within)) ∣₁)

pub fit_length : (limit : ℕ) (m : Message) → Fit limit m → length (canonical m) ≤ limit
fit_length limit m f = omega (arith, f.within, length-canonical m)

-- the canonical spelling is bytes
pub fit_bytes : (limit : ℕ) (m : Message) → limit < 2 ^ 31 → Fit limit m → IsBytes (canonical m)
fit_bytes limit m lt f i = elim (cases_lt (slice_index (canonical m) i) 256) [
  | inl low ↦ low
  | inr high ↦ absurd (∥∥₁_elim (fit_spells limit m lt f) absurd_prop (λ s. omega (arith, high, msg_are_bytes m (canonical m) s i)))
]

whole_first : (limit : ℕ) (n : Message) (b d : List ℕ) → Fit limit n → b ≡ canonical n ++ d → SpellsMsg n (canonical n) → IsWhole limit b n d
whole_first limit n b d f e s = record { front = canonical n; parts = e; spelled = s; within = fit_length limit n f }

-- ---- at the front of a canonical spelling

-- bytes that spell a message and begin a canonical spelling are that spelling
pub spells_first : (limit : ℕ) (m n : Message) (b c d : List ℕ) → limit < 2 ^ 31 → Fit limit n → SpellsMsg m b → b ++ c ≡ canonical n ++ d → (m ≡ n) × (b ≡ canonical n)
spells_first limit m n b c d lt f s e =
    (∥∥₁_elim (fit_spells limit n lt f) (message_set m n) (λ t. (same t).0), ∥∥₁_elim (fit_spells limit n lt f) (bytes_set b (canonical n)) (λ t. (same t).1))
  where
    same : SpellsMsg n (canonical n) → (m ≡ n) × (b ≡ canonical n) × (c ≡ d)
    same t = one_front m n b (canonical n) c d (msg_are_bytes m b s) s t e

-- open bytes hold no whole spelling
pub open_first : (limit : ℕ) (n : Message) (b d : List ℕ) → limit < 2 ^ 31 → Fit limit n → IsOpen limit b → b ≡ canonical n ++ d → ⊥
open_first limit n b d lt f o e = ∥∥₁_elim (fit_spells limit n lt f) absurd_prop (λ s. open_not_whole limit b d n o (whole_first limit n b d f e s))

-- if bad bytes are at the front of a spelling within the limit, or that is at theirs, the spelling
-- is bad
bad_spelling : (limit : ℕ) (n : Message) (b c d : List ℕ) (fault : MsgFault) → SpellsMsg n (canonical n) → IsBad limit b fault → b ++ c ≡ canonical n ++ d → IsBad limit (canonical n) fault
bad_spelling limit n b c d fault s (bad_header room h) e =
    let long : 16 ≤ length (canonical n) = omega (arith, least_length n (canonical n) s) in
    bad_header long (subst (λ (x : MsgHeader). HeaderFault limit x fault) (sym (header_front b c room) ∙ ap header_of e ∙ header_front (canonical n) d long) h)
bad_spelling limit n b c d fault s (bad_message room good le wrong) e =
    let long : 16 ≤ length (canonical n) = omega (arith, least_length n (canonical n) s) in
    let same : header_of b ≡ header_of (canonical n) = sym (header_front b c room) ∙ ap header_of e ∙ header_front (canonical n) d long in
    let size : number_at (canonical n) 0 ≡ number_at b 0 = sym (ap (λ (h : MsgHeader). h.length) same) in
    let whole : number_at (canonical n) 0 ≡ length (canonical n) = (msg_read n (canonical n) s).len in
    let cut : take (number_at b 0) b ≡ take (number_at (canonical n) 0) (canonical n) =
    sym (take-append-le (number_at b 0) b c le) ∙ ap (take (number_at b 0)) e ∙ take-append-le (number_at b 0) (canonical n) d (omega (arith, size, whole)) ∙ ap (λ (k : ℕ). take k (canonical n)) (sym size) in
    bad_message long (subst (IsGoodHeader limit) same good) (omega (arith, whole)) (subst (λ (x : List ℕ). FaultMsg x limit fault) cut wrong)

-- no spelling within the limit begins badly
pub bad_begins : (limit : ℕ) (n : Message) (b c d : List ℕ) (fault : MsgFault) → limit < 2 ^ 31 → Fit limit n → IsBad limit b fault → b ++ c ≡ canonical n ++ d → ⊥
bad_begins limit n b c d fault lt f bad e = ∥∥₁_elim (fit_spells limit n lt f) absurd_prop (λ s.
    bad_not_whole limit (canonical n) [] n fault (fit_bytes limit n lt f) (bad_spelling limit n b c d fault s bad e) (whole_first limit n (canonical n) [] f (sym (append-nil (canonical n))) s))

-- ---- no bytes

pub open_nil : (limit : ℕ) → IsOpen limit []
open_nil limit = in_header (omega arith)

-- no bytes are no message
pub spells_some : (m : Message) (b c : List ℕ) → SpellsMsg m b → b ++ c ≡ [] → ⊥
spells_some m [] c s e = no_message m s
spells_some m (x ∷ b) c s e = cc

-- no bytes aren't bad
pub bad_some : (limit : ℕ) (b c : List ℕ) (f : MsgFault) → IsBad limit b f → b ++ c ≡ [] → ⊥
bad_some limit [] c f bad e = open_not_bad limit [] f (open_nil limit) bad
bad_some limit (x ∷ b) c f bad e = cc

-- ---- any spelling

-- bytes spell at most one message
pub same_request : (m n : Message) (b : List ℕ) → SpellsMsg m b → SpellsMsg n b → m ≡ n
same_request m n b s t = one_message m n b (msg_are_bytes m b s) s t
