use Rattle.std.proofs.Common.{◌≡◌, ◌-◌, ℕ, inl, inr, List, take, drop, length, sym, ap, subst, ◌∙◌, arith}
use Rattle.std.specs.Prelude.{slice_range}
use Rattle.std.specs.Int.{w32, from_le_bytes}
use Rattle.std.proofs.lemmas.List.{take_rest, take-take}
use Rattle.wire_msg.specs.Header.{number_at}
use Rattle.wire_query.specs.Spelling.{IsOneDocument}
use Rattle.wire_query.proofs.PartLaws.{numbers_told}
use Rattle.wire_query.proofs.check.check_numbers.Goals as goal

-- the four bytes of numberToReturn
count_is : (bytes : List ℕ) (count : ℕ) → count ≡ from_le_bytes w32 (take 4 (slice_range bytes 4 8)) → count ≡ number_at bytes 4
count_is bytes count e = e ∙ ap (from_le_bytes w32) (take-take 4 4 (drop 4 bytes) (omega arith))

pub returns : goal.returns
returns c =
    let bytes : List ℕ = c.args.bytes.now in
    let count : ℕ = c.little_u32-count.result in
    let skip : number_at bytes 0 ≡ 0 = sym c.little_u32.ensures ∙ c.if-little_u32-ne0.false in
    let one : IsOneDocument count = elim c.else-count-ne1.either [ inl w ↦ inr w.1 | inr e ↦ inl e ] in
    numbers_told c.args.at bytes (take (length bytes - 8) (drop 8 bytes)) c.check_command.result (take_rest bytes 8) c.if-bytes-lt-NUMBERS_LEN.false skip
    (subst IsOneDocument (count_is bytes count c.little_u32-count.ensures) one) c.check_command.ensures
