-- A reply is copied into the record of its call.
use Rattle.std.proofs.Common.{◌≡◌, ℕ, zero, suc, ◌<◌, ◌≤◌, List, [], ◌∷◌, length, get_or, Option, None, Some, ap, refl, sym, subst, ◌∙◌}
use Rattle.std.specs.Prelude.{Result, Ok, Err, OnErr, OnOk, option_map, slice_get, slice_set}
use Rattle.std.proofs.lemmas.List.{length-map, map-set}
use Rattle.std.proofs.lemmas.Option.{same_Some, slice_get-map, slice_get_past, slice_get_read}
use Rattle.wire_msg.specs.{Carries, Content, IsMessage, Message, SpellsMsg}
use Rattle.wire_peer.specs.{content_of, ready_of}
use Rattle.wire_peer.specs.declared.reply.Reply.{Reply}
use Rattle.wire_peer.specs.declared.call_table.ReadyReply.{ReadyReply}
use Rattle.wire_peer.proofs.Lemmas.{content_is}
use Rattle.wire_model.specs.{Record, given_record}
use Rattle.wire_model.specs.Moves.{CopiesReply, put_at, put_part}
use Rattle.wire_world.specs.declared.records.CallRecord.{CallRecord}
use Rattle.wire_world.specs.Records.{record_of, records_of}

set_own : {A : Type 0} (xs : List A) (i : ℕ) (x : A) → slice_get xs i ≡ Some x → slice_set xs i x ≡ xs
set_own [] i x e = refl
set_own (y ∷ ys) zero x e = ap (λ z. z ∷ ys) (sym (same_Some y x e))
set_own (y ∷ ys) (suc i) x e = ap (λ zs. y ∷ zs) (set_own ys i x e)

record_at : (calls : List CallRecord) (index : ℕ) (old : CallRecord) → index < length calls → old ≡ get_or calls index old → slice_get (records_of calls) index ≡ Some (record_of old)
record_at calls index old lt at = slice_get-map record_of calls index ∙ ap (option_map record_of) (slice_get_read calls (length calls) index old refl lt at)

-- the record has one more part
pub copied : {T E : Type 0} (r : Result T E) (limit : ℕ) (indexes held : List ℕ) (ready : Option ReadyReply) (reply : Reply) (calls : List CallRecord) (index : ℕ) (old x : CallRecord) → Some (ready_of reply) ≡ ready → IsMessage limit held
    → ((m : Message) → SpellsMsg m held → Carries reply.payload m.content) → slice_get indexes reply.call ≡ Some index → index < length calls → old ≡ get_or calls index old
    → OnOk r (record_of x ≡ given_record (record_of (get_or calls index old)) (content_of reply.payload) reply.last) → OnOk r (CopiesReply indexes held ready (records_of calls) (records_of (slice_set calls index x)))
copied (Err e) limit indexes held ready reply calls index old x is message carries lookup lt at given = tt
copied (Ok t) limit indexes held ready reply calls index old x is message carries lookup lt at given =
    subst (λ (o : Option ReadyReply). CopiesReply indexes held o (records_of calls) (records_of (slice_set calls index x))) is (
      message.1.0,
      message.1.1,
      map-set record_of calls index x
          ∙ ap (slice_set (records_of calls) index) (given ∙ ap (λ (z : CallRecord). given_record (record_of z) (content_of reply.payload) reply.last) (sym at) ∙ ap (λ (p : Content). given_record (record_of old) p reply.last) (content_is reply.payload message.1.0.content (carries message.1.0 message.1.1)))
          ∙ sym (ap (λ (o : Option Record). put_part o index message.1.0.content reply.last (records_of calls)) (record_at calls index old lt at))
          ∙ sym (ap (λ (o : Option ℕ). put_at o message.1.0.content reply.last (records_of calls)) lookup),
    )

-- the record is as it was
pub uncopied : {T E : Type 0} (r : Result T E) (calls : List CallRecord) (index : ℕ) (old x : CallRecord) → index < length calls → old ≡ get_or calls index old → OnErr r (record_of x ≡ record_of (get_or calls index old))
    → OnErr r (records_of (slice_set calls index x) ≡ records_of calls)
uncopied (Ok t) calls index old x lt at same = tt
uncopied (Err e) calls index old x lt at same = map-set record_of calls index x ∙ ap (slice_set (records_of calls) index) (same ∙ ap record_of (sym at)) ∙ set_own (records_of calls) index (record_of old) (record_at calls index old lt at)

-- there is no such record
pub copied_past : (limit : ℕ) (indexes held : List ℕ) (ready : Option ReadyReply) (reply : Reply) (calls : List CallRecord) (index : ℕ) → Some (ready_of reply) ≡ ready → IsMessage limit held → slice_get indexes reply.call ≡ Some index
    → length calls ≤ index → CopiesReply indexes held ready (records_of calls) (records_of calls)
copied_past limit indexes held ready reply calls index is message lookup le =
    let long : length (records_of calls) ≤ index = rw (length-map calls record_of) le in
    subst (λ (o : Option ReadyReply). CopiesReply indexes held o (records_of calls) (records_of calls)) is (
      message.1.0,
      message.1.1,
      sym (ap (λ (o : Option Record). put_part o index message.1.0.content reply.last (records_of calls)) (slice_get_past (records_of calls) index long))
          ∙ sym (ap (λ (o : Option ℕ). put_at o message.1.0.content reply.last (records_of calls)) lookup),
    )

-- the call has no record
pub copied_nowhere : (limit : ℕ) (indexes held : List ℕ) (ready : Option ReadyReply) (reply : Reply) (calls : List CallRecord) → Some (ready_of reply) ≡ ready → IsMessage limit held → slice_get indexes reply.call ≡ None
    → CopiesReply indexes held ready (records_of calls) (records_of calls)
copied_nowhere limit indexes held ready reply calls is message lookup =
    subst (λ (o : Option ReadyReply). CopiesReply indexes held o (records_of calls) (records_of calls)) is
    (message.1.0, message.1.1, sym (ap (λ (o : Option ℕ). put_at o message.1.0.content reply.last (records_of calls)) lookup))

pub looked_up : (indexes : List ℕ) (call index : ℕ) → call < length indexes → index ≡ get_or indexes call index → slice_get indexes call ≡ Some index
looked_up indexes call index lt at = slice_get_read indexes (length indexes) call index refl lt at
