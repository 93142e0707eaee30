-- A call of a client, by the bytes of its body and of its document sequences.
use Rattle.std.specs.Prelude.{◌≡◌, ◌≤◌, ℕ, pos, List, [], None, Some}
use Rattle.wire_msg.specs.{Content, message_len, msg_fault}
use Rattle.wire_msg.specs.Payload.{AreParts}
use Rattle.wire_msg.specs.declared.fault.MsgCause.TheVariants as causes
use Rattle.wire_peer.specs.declared.calls.CallKind.{CallKind}
use Rattle.wire_peer.specs.declared.calls.CallNo.{CallNo}
use Rattle.wire_peer.specs.declared.calls.CallRefusal.{CallRefusal}
use Rattle.wire_peer.specs.{ClientSeen, IsCallRefusal, IsCalled, called}
use Rattle.byte_views.specs.declared.content.ContentRefusal.{ContentRefusal}
use Rattle.byte_views.specs.declared.content.ContentRefusal.TheVariants as refusals
use Rattle.byte_views.specs.declared.fault.FirstFault.{FirstFault}
use Rattle.byte_views.specs.Contents.{IsContentRefusal}
use Rattle.byte_views.specs.Fault.{document_fault, first_fault, message_fault}
use Rattle.core_handles.specs.declared.client_calls.CallMade.{CallMade}
use Rattle.core_handles.specs.Numbers.{call_number}
use Rattle.wire_msg.specs.declared.header.TheConstants.{MAX_MESSAGE_LEN}

-- the call has this number and this id
abbrev pub call_made : CallNo → CallMade
call_made call = record {
  refusal = 0;
  id = call.id;
  number = call.number;
  fault = first_fault None;
  document_fault = first_fault None;
}

-- the call is refused, by this number and these faults
abbrev pub call_refused : ℕ → FirstFault → FirstFault → CallMade
call_refused n f inner =
    record { refusal = n; id = pos 0; number = 0; fault = f; document_fault = inner }

-- there is no such content, whose body would stand at offset 21 of a message
abbrev pub content_refused : ContentRefusal → CallMade
content_refused (refusals.Body f) =
    call_refused 4 (message_fault (msg_fault 21 (causes.Document f))) (first_fault (Some f))
content_refused refusals.TooLarge = call_refused 3 (first_fault None) (first_fault None)
content_refused refusals.OutOfMemory = call_refused 254 (first_fault None) (first_fault None)
content_refused (refusals.Message f) =
    call_refused 4 (message_fault f) (document_fault f.cause)

-- a call with this content is made; or it is refused, and nothing changes
pub data CallsWith (k : ClientSeen) (kind : CallKind) (c : Content) (after : ClientSeen)
    : CallMade → Type 0 where
  is_made : {w : CallMade} (no : CallNo) → IsCalled k kind c no → after ≡ called k kind c no
      → w ≡ call_made no → CallsWith k kind c after w
  is_refused : {w : CallMade} (e : CallRefusal) → IsCallRefusal k kind c e → after ≡ k
      → w ≡ call_refused (call_number e) (first_fault None) (first_fault None)
      → CallsWith k kind c after w

-- A call is made with the content that the body and the sequences give, or it is refused; or they
-- give none that goes into a message, and nothing changes.
pub data IsCallMade (k : ClientSeen) (kind : CallKind) (body sequences : List ℕ)
    (after : ClientSeen) : CallMade → Type 0 where
  has_content : {w : CallMade} (c : Content) → AreParts [] body sequences c
      → message_len c ≤ MAX_MESSAGE_LEN → CallsWith k kind c after w
      → IsCallMade k kind body sequences after w
  no_content : {w : CallMade} (e : ContentRefusal)
      → IsContentRefusal MAX_MESSAGE_LEN body sequences e → after ≡ k → w ≡ content_refused e
      → IsCallMade k kind body sequences after w
