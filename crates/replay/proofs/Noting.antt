-- What is told where an answer is taken for a recorded one.
use Rattle.std.proofs.Common.{◌≡◌, ◌≤◌, ℕ, ℤ, List, Option, Result, Ok, Err, OnOk, drop, length, subst}
use Rattle.wire_msg.specs.declared.header.TheConstants.{MAX_MESSAGE_LEN}
use Rattle.wire_msg.specs.{IsMessage, Message, SpellsMsg}
use Rattle.replay.specs.Carried.{IsCarried}
use Rattle.replay.specs.Compared.{IsCompared}
use Rattle.replay.specs.Counts.{HasCounted}
use Rattle.replay.specs.Held.{IsReply}
use Rattle.replay.specs.Notes.{NotesBoth}
use Rattle.replay.specs.Same.{AreSameMessages}
use Rattle.replay.specs.declared.cursors.Cursor.{Cursor}
use Rattle.replay.specs.declared.tally.Tally.{Tally}

-- a call that went well compared what a recorded answer is carried over as
pub compared_as : {A E : Type 0} (r : Result A E) (cursors : List Cursor) (names : List (List ℕ)) (recorded carried given received : List ℕ) (before after : Tally)
    → IsCarried cursors recorded carried → given ≡ carried
    → ((m n : Message) → SpellsMsg m given → SpellsMsg n received → length given ≤ MAX_MESSAGE_LEN → length received ≤ MAX_MESSAGE_LEN → OnOk r (HasCounted (AreSameMessages names m n) before after))
    → (¬ IsMessage MAX_MESSAGE_LEN given → ¬ IsMessage MAX_MESSAGE_LEN received → ¬ IsReply given → ¬ IsReply received → OnOk r (HasCounted (drop 12 given ≡ drop 12 received) before after))
    → OnOk r ((bytes : List ℕ) × IsCarried cursors recorded bytes × IsCompared names bytes received before after)
compared_as (Err e) cursors names recorded carried given received before after is same messages other = tt
compared_as (Ok a) cursors names recorded carried given received before after is same messages other =
    let told : IsCompared names given received before after = record { messages = messages; other = other } in
    (carried, is, subst (λ (b : List ℕ). IsCompared names b received before after) same told)

-- two answers of which these are the bytes were noted
pub noted_as : {A E : Type 0} (r : Result A E) (recorded received one two : List ℕ) (old new : List Cursor) → one ≡ recorded → two ≡ received
    → OnOk r (NotesBoth one two old new) → OnOk r (NotesBoth recorded received old new)
noted_as r recorded received one two old new e f n =
    subst (λ (b : List ℕ). OnOk r (NotesBoth recorded b old new)) f (subst (λ (b : List ℕ). OnOk r (NotesBoth b two old new)) e n)
