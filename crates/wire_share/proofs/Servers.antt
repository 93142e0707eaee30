-- What a request is answered with is what the server's log has for its payload.
use Rattle.std.proofs.Common.{◌≡◌, ◌≤◌, ℕ, List, ◌∷◌, ◌++◌, sym, ◌∙◌, ap, subst, Some, append_assoc, arith, inl}
use Rattle.std.specs.Prelude.{slice_get, ℤ, pos, ◌≤ℤ◌, FitsSigned}
use Rattle.std.specs.Int.{w32}
use Rattle.wire_msg.specs.{Message}
use Rattle.wire_peer.specs.{Does, IsLimit, LogEntry, Stops}
use Rattle.wire_peer.specs.declared.call_table.ReadyReply.{ReadyReply}
use Rattle.wire_model.specs.Machines.{Answered, Mute, Never, OnWay, Place, Waiting}
use Rattle.wire_model.specs.{AreMade, ClientEnd, Deed, Made, OwnersKnow, ServerEnds}
use Rattle.wire_share.specs.Acts.{Gives, ShareAct}
use Rattle.wire_share.specs.Mixing.{AnswersAreTheServers, IsAmong, IsEntryOf, IsMadeSo, IsReplyTo, NeverMixed}
use Rattle.wire_msg.specs.declared.header.TheConstants.{MAX_MESSAGE_LEN}

-- the entry that a place names, if it names one
index : Place → ℕ
index (Answered e) = e
index (Mute e) = e
index OnWay = 0
index Waiting = 0
index Never = 0

-- the numbers of an upstream's client are good ones
pub limit_is : IsLimit MAX_MESSAGE_LEN
limit_is = (omega arith, omega arith)

pub are_made : (made : ℕ → Made) → ((u : ℕ) → IsMadeSo (made u)) → AreMade made
are_made made so u =
    subst (λ (id : ℤ). (pos 1 ≤ℤ id) × FitsSigned w32 id) (sym (so u).0) (omega arith, grind arith)

module _ {H : Type 0} (does : Does H) (stops : Stops H) (acts : List ShareAct) (k : ℕ) (first : H) (deeds : List Deed) (ends : ℕ → ClientEnd) (servers : ServerEnds H)
    (unmixed : NeverMixed acts ends) (know : OwnersKnow does stops k first deeds ends servers) where
  entry_of : (u call : ℕ) → ℕ
  entry_of u call = index (know.owned.place (u, call))

  -- a call that got a reply is one of the owners', and its place names its entry
  named : (u : ℕ) (m answer : Message) (reply : ReadyReply) → 1 ≤ u → u ≤ k → IsReplyTo u m answer reply.call (ends u) → know.owned.place (u, reply.call) ≡ Answered (entry_of u reply.call)
  unfolding entry_of index
  named u m answer reply from to is =
      let whole = know.owned.whole (u, reply.call) is.record_ (from, to, is.at) is.done in
      whole.2 ∙ ap Answered (sym (ap index whole.2))

  own : (d u : ℕ) (m answer : Message) (reply : ReadyReply) (told : List LogEntry) → 1 ≤ u → u ≤ k → IsAmong (Gives d u m reply answer told) acts → IsEntryOf u m answer servers.log (entry_of u reply.call)
  unfolding entry_of index
  own d u m answer reply told from to among =
      let is = unmixed.own d u m answer reply told among in
      let whole = know.owned.whole (u, reply.call) is.record_ (from, to, is.at) is.done in
      let entry = whole.1 in
      subst (λ (e : ℕ). IsEntryOf u m answer servers.log e) (sym (ap index whole.2)) (record {
        entry = entry.entry;
        at = ap (λ (log : List LogEntry). slice_get log whole.0) (sym know.log) ∙ entry.at;
        connection = entry.connection ∙ is.connection;
        payload = entry.payload ∙ is.payload;
        answers = whole.3 ∙ ap Some is.parts;
      })

  -- an act behind another one is among all
  behind : (before after : List ShareAct) (act other : ShareAct) → acts ≡ before ++ act ∷ after → IsAmong other after → IsAmong other acts
  behind before after act other is among = (
    before ++ act ∷ among.0,
    among.1,
    is ∙ ap (λ (xs : List ShareAct). before ++ act ∷ xs) among.2 ∙ sym (append_assoc before (act ∷ among.0) (other ∷ among.1)),
  )

  once : (before after : List ShareAct) (d u : ℕ) (m answer : Message) (reply : ReadyReply) (told : List LogEntry) → acts ≡ before ++ Gives d u m reply answer told ∷ after → 1 ≤ u → u ≤ k
      → (e v : ℕ) (n other : Message) (later : ReadyReply) (after_told : List LogEntry) → 1 ≤ v → v ≤ k → IsAmong (Gives e v n later other after_told) after → entry_of v later.call ≡ entry_of u reply.call → ⊥
  unfolding entry_of
  once before after d u m answer reply told is from to e v n other later after_told from' to' among same =
      let a = unmixed.own d u m answer reply told (before, after, is) in
      let b = unmixed.own e v n other later after_told (behind before after (Gives d u m reply answer told) (Gives e v n later other after_told) is among) in
      let pair : (v, later.call) ≡ (u, reply.call) =
      know.owned.one_call (v, later.call) (u, reply.call) b.record_ a.record_ (entry_of u reply.call) (from', to', b.at) (from, to, a.at)
      (inl (named v n other later from' to' b ∙ ap Answered same)) (inl (named u m answer reply from to a)) in
      let there = subst (λ (w : ℕ). IsAmong (Gives e w n later other after_told) after) (ap (λ (p : ℕ × ℕ). p.0) pair) among in
      unmixed.once before after d u m answer reply told is e n other later after_told there (ap (λ (p : ℕ × ℕ). p.1) pair)

  pub answers_are : AnswersAreTheServers acts k servers.log
  answers_are = record { entry_of = entry_of; own = own; once = once }
