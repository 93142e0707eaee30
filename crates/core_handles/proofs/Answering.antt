-- What a call does with the core of a handle, from what its code found.
use Rattle.std.proofs.Common.{◌≡◌, ◌≢◌, ◌⊎◌, ℕ, ℤ, List, true, false, subst, ap, ◌∙◌, refl, inl, inr, [], ◌∷◌, ◌≤◌, length, length-append, arith}
use Rattle.std.specs.Prelude.{Option, None, Some}
use Rattle.std.specs.Option.{is_some}
use Rattle.bson_elem.specs.{Spells, Tree}
use Rattle.wire_msg.specs.{Content, body_alone, message_len}
use Rattle.wire_msg.specs.Spelling.{body_section}
use Rattle.wire_peer.specs.{ClientSeen, IsCallRefusal, IsCalled, IsSetupRefusal, called, new_client}
use Rattle.wire_peer.specs.declared.calls.CallKind.{CallKind}
use Rattle.wire_peer.specs.declared.calls.CallNo.{CallNo}
use Rattle.wire_peer.specs.declared.calls.CallRefusal.{CallRefusal}
use Rattle.wire_peer.specs.declared.client_state.ClientRefusal.{ClientRefusal}
use Rattle.byte_views.specs.Fault.{first_fault}
use Rattle.core_handles.specs.declared.client_calls.CallMade.{CallMade}
use Rattle.core_handles.specs.declared.client_replies.ReplyCopied.{ReplyCopied}
use Rattle.core_handles.specs.declared.cores.Core.{Core}
use Rattle.core_handles.specs.declared.cores.Core.TheVariants.{Client}
use Rattle.core_handles.specs.Calling.{CallsWith, call_made, call_refused, is_made, is_refused}
use Rattle.core_handles.specs.Making as making
use Rattle.core_handles.specs.Making.{IsMade, IsPut}
use Rattle.core_handles.specs.Numbers.{call_number, setup_number}
use Rattle.core_handles.specs.Replying.{IsReplyCopied, no_memory, no_reply, none_ready}
use Rattle.wire_msg.specs.declared.header.TheConstants.{MAX_MESSAGE_LEN}

-- ---- the core of a handle

pub there_is_one : (o : Option Core) → is_some o ≡ true → o ≢ None
there_is_one (Some core) some is = absurd cc
there_is_one None some is = absurd cc

pub there_is_none : (o : Option Core) → is_some o ≡ false → o ≡ None
there_is_none (Some core) some = absurd cc
there_is_none None some = refl

-- a client of this number is put into the handle, or there is no memory for it
pub client_is_put : (given first_id : ℤ) (window limit : ℕ) (old new : Option Core) (k : ClientSeen) (w : ℕ) → given ≡ first_id → old ≡ None
    → ((e : ClientRefusal) → IsSetupRefusal given window limit e → ⊥) → k ≡ new_client given window limit → IsPut (Client k) new w → IsMade first_id window limit old new w
client_is_put given first_id window limit old new k w same none good is put =
    subst (λ (z : ℤ). IsMade z window limit old new w) same (making.is_put none good (subst (λ (x : ClientSeen). IsPut (Client x) new w) is put))

-- a client of this number is refused
pub client_is_refused : (given first_id : ℤ) (window limit : ℕ) (old : Option Core) (e : ClientRefusal) (w : ℕ) → given ≡ first_id → old ≡ None
    → IsSetupRefusal given window limit e → w ≡ setup_number e → IsMade first_id window limit old old w
client_is_refused given first_id window limit old e w same none refused told =
    subst (λ (z : ℤ). IsMade z window limit old old w) same (making.is_refused e none refused none told)

-- ---- calls

-- no bytes are as long
pub nothing_in : (bytes : List ℕ) → length bytes ≤ 0 → bytes ≡ []
nothing_in [] none = refl
nothing_in (byte ∷ bytes) none = absurd (omega arith)

-- a call with a content that is this one is made
pub call_is_made : (k : ClientSeen) (kind : CallKind) (after : ClientSeen) (found c : Content) (call : CallNo) (w : CallMade) → found ≡ c → IsCalled k kind found call → after ≡ called k kind found call
    → w ≡ call_made call → CallsWith k kind c after w
call_is_made k kind after found c call w same made then told = subst (λ (x : Content). CallsWith k kind x after w) same (is_made call made then told)

-- a call with a content that is this one is refused
pub call_is_refused : (k : ClientSeen) (kind : CallKind) (after : ClientSeen) (found c : Content) (e : CallRefusal) (n : ℕ) (w : CallMade) → found ≡ c → IsCallRefusal k kind found e → after ≡ k
    → n ≡ call_number e → w ≡ call_refused n (first_fault None) (first_fault None) → CallsWith k kind c after w
call_is_refused k kind after found c e n w same refused then number told =
    subst (λ (x : Content). CallsWith k kind x after w) same (is_refused e refused then (told ∙ ap (λ (i : ℕ). call_refused i (first_fault None) (first_fault None)) number))

-- ---- replies

-- no reply is copied, by the number that its spelling gave
pub reply_refused : (k : ClientSeen) (room : List ℕ) (n : ℕ) (w : ReplyCopied) → w ≡ no_reply n → ((n ≡ 7) × (k.reply ≡ None)) ⊎ ((n ≡ 254) × (k.reply ≢ None)) → IsReplyCopied k room room w
reply_refused k room n w told (inl x) = none_ready x.1 (told ∙ ap no_reply x.0) refl
reply_refused k room n w told (inr x) = no_memory x.1 (told ∙ ap no_reply x.0) refl

-- a message has room for 21 bytes and its body
pub alone_fits : (t : Tree) (d : List ℕ) → Spells t d → length d ≤ 47_999_979 → message_len (body_alone t) ≤ MAX_MESSAGE_LEN
unfolding body_section
alone_fits t d s short = omega (arith, short, ap length s.parts, length-append (body_section t) [])
