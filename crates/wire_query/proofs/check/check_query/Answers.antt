use Rattle.std.proofs.Common.{◌≡◌, ◌-◌, ℕ, inl, inr, true, false, List, take, drop, length, ap, subst, ◌∙◌, arith}
use Rattle.std.specs.Prelude.{slice_range}
use Rattle.std.specs.Int.{w32, from_le_bytes}
use Rattle.std.proofs.lemmas.List.{take_rest, take-take}
use Rattle.wire_msg.specs.Header.{number_at}
use Rattle.wire_query.specs.Faults.{IsFlagWord}
use Rattle.wire_query.proofs.PartLaws.{parts_told}
use Rattle.wire_query.proofs.check.check_query.Goals as goal

-- the four bytes of flags
word_is : (bytes : List ℕ) (word : ℕ) → word ≡ from_le_bytes w32 (take 4 (slice_range bytes 16 20)) → word ≡ number_at bytes 16
word_is bytes word e = e ∙ ap (from_le_bytes w32) (take-take 4 4 (drop 16 bytes) (omega arith))

pub returns : goal.returns
returns c =
    let bytes : List ℕ = c.args.bytes.now in
    let word : ℕ = c.little_u32-flags.result in
    let flags : IsFlagWord word = elim c.else-flags-ne0.either [ inl w ↦ (true, w.1) | inr e ↦ (false, e) ] in
    parts_told c.args.limit bytes (take (length bytes - 20) (drop 20 bytes)) c.check_name.result c.requires (λ i. (c.type_inv.bytes i).fits) (take_rest bytes 20) c.in_ok-check_header.ensures c.if-bytes-lt-NAME.false
    (subst IsFlagWord (word_is bytes word c.little_u32-flags.ensures) flags) c.check_name.ensures
