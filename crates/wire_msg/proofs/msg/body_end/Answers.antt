use Rattle.std.proofs.Common.{◌≡◌, ◌+◌, ◌-◌, ℕ, List, length, take, drop, ap, ◌∙◌, arith, length-take, length-drop}
use Rattle.std.specs.Int.{w32, from_le_bytes}
use Rattle.std.proofs.lemmas.List.{take_rest}
use Rattle.wire_msg.proofs.OffsetLaws.{known_parts, parts_read}
use Rattle.wire_msg.proofs.msg.body_end.Goals as goal

-- the length in front of the body's document
len_is : (bytes : List ℕ) (at n : ℕ) → n ≡ from_le_bytes w32 (take 4 (take (length bytes - at) (drop at bytes))) → n ≡ from_le_bytes w32 (take 4 (drop at bytes))
len_is bytes at n e = e ∙ ap (λ (x : List ℕ). from_le_bytes w32 (take 4 x)) (take_rest bytes at)

pub little_u32-requires : goal.little_u32-requires
little_u32-requires c = omega (arith, c.requires.inside, length-take (length c.args.bytes.now - (c.args.at + 1)) (drop (c.args.at + 1) c.args.bytes.now), length-drop (c.args.at + 1) c.args.bytes.now)

pub returns-clause-inside : goal.returns-clause-inside
returns-clause-inside c =
    let k = known_parts c.args.bytes.now c.args.at c.requires.known c.requires.offset in
    let n = len_is c.args.bytes.now (c.args.at + 1) c.little_u32.result c.little_u32.ensures in
    (omega arith, omega (arith, k.2, n))

pub returns-clause-end : goal.returns-clause-end
returns-clause-end c = λ m s.
    let n = len_is c.args.bytes.now (c.args.at + 1) c.little_u32.result c.little_u32.ensures in
    let r = parts_read m c.args.bytes.now s c.args.at (c.requires.offset m s) in
    ap (λ (k : ℕ). c.args.at + 1 + k) (n ∙ r.document_is.len)
