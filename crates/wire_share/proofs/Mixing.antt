-- Answers are never mixed.
use Rattle.std.proofs.Common.{◌≡◌, ℕ, List, ◌∷◌, ◌++◌, sym, ◌∙◌, ap, subst, Option, Some}
use Rattle.std.proofs.lemmas.Option.{none-some}
use Rattle.wire_msg.specs.{Message}
use Rattle.wire_peer.specs.{Asked, LogEntry, content_of}
use Rattle.wire_msg.specs.declared.payloads.Payload.{Payload}
use Rattle.wire_peer.specs.declared.call_table.ReadyReply.{ReadyReply}
use Rattle.wire_peer.specs.declared.calls.CallKind.{CallKind}
use Rattle.wire_peer.specs.declared.calls.CallNo.{CallNo}
use Rattle.wire_model.specs.{ClientAct, ClientEnd, ClientRun, HoldsAlone, Made, asked_as, first_end, handed}
use Rattle.wire_model.specs.Alone.{HasLast, NoneBehind, NoneTo, parts_to}
use Rattle.wire_model.specs.Owners as owners
use Rattle.wire_share.specs.declared.awaited.Awaited.{Awaited}
use Rattle.wire_share.specs.Acts.{Answers, AreFit, DownAct, DownRun, Gives, Passes, ShareAct, acts_at, acts_of, with_act}
use Rattle.wire_share.specs.Mixing.{IsAmong, IsReplyTo, IsUnanswered, NeverMixed}
use Rattle.wire_share.specs.Sharing.{DownSeen, kind_by, new_downstream}
use Rattle.wire_share.proofs.Among.{Inside, WasPassed, acts_once, at_on, fits, given_here, handed_at, inside, inside_down, inside_up, passed_here, split_at_act, was_passed}
use Rattle.wire_share.proofs.Lasts.{all_last, is_last}
use Rattle.wire_share.proofs.Pairing.{Fits, fits_on, paired, split_run}
use Rattle.wire_share.proofs.Parts.{AllLast, has_last, none_front, none_later, not_among, only_part}
use Rattle.wire_share.proofs.Records.{Has, made_asked}
use Rattle.wire_msg.specs.declared.header.TheConstants.{MAX_MESSAGE_LEN}

module _ (acts : List ShareAct) (downs : ℕ → DownSeen) (made : ℕ → Made) (ends : ℕ → ClientEnd) (fit : AreFit acts)
    (below : (d : ℕ) → DownRun (new_downstream d) (acts_at acts d) (downs d))
    (above : (u : ℕ) → ClientRun u (first_end MAX_MESSAGE_LEN made u) (acts_of acts u) (ends u))
    (alone : (u : ℕ) → HoldsAlone MAX_MESSAGE_LEN (acts_of acts u) (ends u)) where
  none_behind : (u : ℕ) → NoneBehind (handed (acts_of acts u))
  none_behind u = none_front (handed (acts_of acts u)) (alone u).ready (alone u).none_behind

  -- each reply that it hands out is the last one of its call
  last : (u : ℕ) → AllLast (handed (acts_of acts u))
  last u = all_last (acts_of acts u) MAX_MESSAGE_LEN (alone u).heard (alone u).ready (acts_once acts u) (alone u).hears (alone u).replies

  -- what the upstream of an answer hands out
  handed_is : (before after : List ShareAct) (d u : ℕ) (m answer : Message) (reply : ReadyReply) (told : List LogEntry) → acts ≡ before ++ Gives d u m reply answer told ∷ after
      → handed (acts_of acts u) ≡ handed (acts_of before u) ++ (reply, answer) ∷ handed (acts_of after u)
  handed_is before after d u m answer reply told is = ap (λ (xs : List ShareAct). handed (acts_of xs u)) is ∙ handed_at before after d u m answer reply told

  -- a call that was made has a record of what it asked
  recorded_at : (v : ℕ) (before after : List ClientAct) (kind : CallKind) (payload : Payload) (number : CallNo) → acts_of acts v ≡ before ++ owners.Calls kind payload number ∷ after
      → Has v (ends v).records number.number (asked_as kind (content_of payload))
  recorded_at v before after kind payload number is =
      made_asked v before kind payload number after (first_end MAX_MESSAGE_LEN made v) (ends v) (λ n zero. sym (zero_is n zero))
      (subst (λ (xs : List ClientAct). ClientRun v (first_end MAX_MESSAGE_LEN made v) xs (ends v)) is (above v))
    where
      zero_is : (n : ℕ) → Some 0 ≡ Some n → 0 ≡ n
      zero_is n zero = cc

  -- calls that are the same have the same record
  moved : (c d : Awaited) (a : Asked) → c ≡ d → Has c.upstream (ends c.upstream).records c.call a → Has d.upstream (ends d.upstream).records d.call a
  moved c d a same has = subst (λ (x : Awaited). Has x.upstream (ends x.upstream).records x.call a) same has

  -- the record of the call that a request was passed on as
  recorded : (d u : ℕ) (m answer : Message) (reply : ReadyReply) (told : List LogEntry) → Inside (Gives d u m reply answer told) acts
      → (a : Asked) × (a.payload ≡ m.content) × Has u (ends u).records reply.call a
  recorded d u m answer reply told i =
      let call : Awaited = record { upstream = u; call = reply.call } in
      let was : WasPassed d m call acts =
      paired (λ (n : Message) (c : Awaited). WasPassed d n c acts) (acts_at acts d) (new_downstream d) (downs d) (λ c is. absurd (none-some c is))
      (λ n c made j. was_passed acts d n c made j) (below d) m call answer.content told
      (inside_down (Gives d u m reply answer told) acts d _ (given_here d u m answer reply told) i) in
      let v = was.0 in
      let payload = was.1 in
      let number = was.2 in
      let kind = kind_by m.flags.more_to_come in
      let at = split_at_act (owners.Calls kind payload number) (acts_of acts v) (inside_up (Passes d v m payload number was.3) acts v _ (passed_here d v m payload number was.3) was.4) in
      let has = recorded_at v at.0 at.1 kind payload number at.2 in (
        asked_as kind (content_of payload),
        fits (Passes d v m payload number was.3) acts fit was.4,
        moved (record { upstream = v; call = number.number }) call (asked_as kind (content_of payload)) was.5 has,
      )

  -- the call that a request is answered with the reply to is one that it was passed on as before
  passed_before : (before after : List ShareAct) (d u : ℕ) (m answer : Message) (reply : ReadyReply) (told : List LogEntry) → acts ≡ before ++ Gives d u m reply answer told ∷ after
      → WasPassed d m (record { upstream = u; call = reply.call }) before
  passed_before before after d u m answer reply told is =
      let call : Awaited = record { upstream = u; call = reply.call } in
      let act : DownAct = Answers m call answer.content told in
      let at : acts_at acts d ≡ acts_at before d ++ act ∷ acts_at after d =
      ap (λ (xs : List ShareAct). acts_at xs d) is ∙ at_on before (Gives d u m reply answer told ∷ after) d
      ∙ ap (λ (o : Option DownAct). acts_at before d ++ with_act o (acts_at after d)) (given_here d u m answer reply told) in
      let run = split_run (acts_at before d) (act ∷ acts_at after d) (new_downstream d) (downs d) (subst (λ (xs : List DownAct). DownRun (new_downstream d) xs (downs d)) at (below d)) in
      let fits_now : Fits (λ (n : Message) (c : Awaited). WasPassed d n c before) run.0 =
      fits_on (λ (n : Message) (c : Awaited). WasPassed d n c before) (acts_at before d) (new_downstream d) run.0 (λ c none. absurd (none-some c none))
      (λ n c made j. was_passed before d n c made j) run.1 in
      let given = run.2.1 in
      (fits_now call given.0).1 m given.1

  pub passed : (before after : List ShareAct) (d u : ℕ) (m answer : Message) (reply : ReadyReply) (told : List LogEntry) → acts ≡ before ++ Gives d u m reply answer told ∷ after
      → (payload : Payload) × (call : CallNo) × (made_ : List LogEntry) × IsAmong (Passes d u m payload call made_) before × (call.number ≡ reply.call)
  passed before after d u m answer reply told is =
      let was = passed_before before after d u m answer reply told is in
      let same = was.5 in
      let here = subst (λ (v : ℕ). Inside (Passes d v m was.1 was.2 was.3) before) (ap (λ (a : Awaited). a.upstream) same) was.4 in
      (was.1, was.2, was.3, split_at_act (Passes d u m was.1 was.2 was.3) before here, ap (λ (a : Awaited). a.call) same)

  pub own : (d u : ℕ) (m answer : Message) (reply : ReadyReply) (told : List LogEntry) → IsAmong (Gives d u m reply answer told) acts → IsReplyTo u m answer reply.call (ends u)
  own d u m answer reply told among =
      let i = subst (λ (xs : List ShareAct). Inside (Gives d u m reply answer told) xs) (sym among.2) (inside (Gives d u m reply answer told) among.0 among.1) in
      let rec = recorded d u m answer reply told i in
      let has = rec.2 in
      let is = handed_is among.0 among.1 d u m answer reply told among.2 in
      let first = handed (acts_of among.0 u) in
      let then = handed (acts_of among.1 u) in
      record {
        record_ = has.0;
        at = has.1;
        connection = has.3;
        payload = ap (λ (a : Asked). a.payload) has.2 ∙ rec.1;
        parts =
            (alone u).parts reply.call has.0 has.1 ∙ ap (parts_to reply.call) is
            ∙ only_part first then (reply, answer) (subst AllLast is (last u)) (subst NoneBehind is (none_behind u));
        done =
            ((alone u).done reply.call has.0 has.1).1
            (subst (HasLast reply.call) (sym is) (has_last first then (reply, answer) (is_last first then (reply, answer) (subst AllLast is (last u)))));
      }

  pub once : (before after : List ShareAct) (d u : ℕ) (m answer : Message) (reply : ReadyReply) (told : List LogEntry) → acts ≡ before ++ Gives d u m reply answer told ∷ after → IsUnanswered u reply.call after
  once before after d u m answer reply told is e n other later after_told among same =
      let at = handed_is before after d u m answer reply told is in
      let none =
      none_later (handed (acts_of before u)) (handed (acts_of after u)) (reply, answer) (subst AllLast at (last u)) (subst NoneBehind at (none_behind u)) in
      let again = ap (λ (xs : List ShareAct). handed (acts_of xs u)) among.2 ∙ handed_at among.0 among.1 e u n other later after_told in
      not_among reply.call (handed (acts_of among.0 u)) (handed (acts_of among.1 u)) (later, other) (subst (NoneTo reply.call) again none) same

  pub never_mixed : NeverMixed acts ends
  never_mixed = record { passed = passed; own = own; once = once }
