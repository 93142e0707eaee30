use Rattle.std.proofs.Common.{◌≡◌, ◌<◌, ℕ, List, length, take, drop, Result, Ok, Err, Some, None, sym, ap, subst, refl, ◌∙◌, arith}
use Rattle.std.specs.Prelude.{slice_range, IsOk, MatchResult}
use Rattle.std.specs.Int.{w32, from_le_bytes}
use Rattle.std.proofs.Math.Bool.{Bool-set}
use Rattle.std.proofs.Math.Logic.{∥∥₁_elim}
use Rattle.std.proofs.lemmas.Grind.{not_there}
use Rattle.std.proofs.lemmas.List.{take-take}
use Rattle.wire_msg.specs.declared.flags.MsgFlags.{MsgFlags}
use Rattle.wire_msg.specs.declared.fault.MsgFault.{MsgFault}
use Rattle.wire_msg.specs.Header.{number_at}
use Rattle.wire_msg.specs.Spelling.{FlagsAre}
use Rattle.wire_msg.specs.Faults.{flags_fault}
use Rattle.wire_msg.proofs.FlagLaws.{flags_are_sound, same_flags}
use Rattle.wire_msg.proofs.MsgAnswers.{msg_read}
use Rattle.wire_msg.proofs.msg.RawMsg.flags.Goals as goal

-- the four bytes of flags
word_is : (bytes : List ℕ) (word : ℕ) → word ≡ from_le_bytes w32 (take 4 (slice_range bytes 16 20)) → word ≡ number_at bytes 16
word_is bytes word e = e ∙ ap (from_le_bytes w32) (take-take 4 4 (drop 16 bytes) (omega arith))

read_ok : (word : ℕ) (r : Result MsgFlags MsgFault) → MatchResult r (λ flags. FlagsAre word flags) (λ f. flags_fault word ≡ Some f) → flags_fault word ≡ None → IsOk r
read_ok word (Ok flags) m none = refl
read_ok word (Err f) m none = absurd (let same : None ≡ Some f = sym none ∙ m in cc)

pub slice_bounds-little_u32-end : goal.slice_bounds-little_u32-end
slice_bounds-little_u32-end c =
    let no : length c.args.self.bytes.now < 20 → ⊥ = λ lt. not_there c.args.self.spelled (λ s. let r = msg_read s.0 c.args.self.bytes.now s.1 in omega (arith, lt, r.long)) in
    omega (arith, no)

pub unwrap-requires : goal.unwrap-requires
unwrap-requires c =
    ∥∥₁_elim c.args.self.spelled (Bool-set _ _) (λ s.
    let w = word_is c.args.self.bytes.now c.little_u32.result c.little_u32.ensures in
    read_ok c.little_u32.result c.read.result c.read.ensures.read (ap flags_fault (w ∙ (msg_read s.0 c.args.self.bytes.now s.1).word) ∙ flags_are_sound s.1.word s.0.flags s.1.flags))

pub returns : goal.returns
returns c = λ m s.
    let w = word_is c.args.self.bytes.now c.little_u32.result c.little_u32.ensures in
    let read = rw c.unwrap.ensures at c.read.ensures.read in
    same_flags s.word c.unwrap.result m.flags (subst (λ (n : ℕ). FlagsAre n c.unwrap.result) (w ∙ (msg_read m c.args.self.bytes.now s).word) read) s.flags
