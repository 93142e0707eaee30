use Rattle.std.proofs.Common.{◌≡◌, ◌-◌, List, ℕ, length, take, drop, ap, ◌∙◌, arith, length-take, length-drop}
use Rattle.std.specs.Int.{w32, from_le_bytes}
use Rattle.std.proofs.lemmas.List.{take_rest}
use Rattle.wire_msg.proofs.ReadLaws.{known_sequence, sequence_read}
use Rattle.wire_msg.proofs.sequence_iter.known_size.Goals as goal

pub slice_bounds-little_u32-count : goal.slice_bounds-little_u32-count
slice_bounds-little_u32-count c = let k = known_sequence c.args.bytes.now c.requires in omega (arith, k.0)

pub slice_bounds-little_u32-start : goal.slice_bounds-little_u32-start
slice_bounds-little_u32-start c = let k = known_sequence c.args.bytes.now c.requires in omega (arith, k.0)

pub little_u32-requires : goal.little_u32-requires
little_u32-requires c =
    let k = known_sequence c.args.bytes.now c.requires in
    omega (arith, k.0, length-take (length c.args.bytes.now - 1) (drop 1 c.args.bytes.now), length-drop 1 c.args.bytes.now)

pub returns-clause-within : goal.returns-clause-within
returns-clause-within c =
    let k = known_sequence c.args.bytes.now c.requires in
    let is : c.little_u32.result ≡ from_le_bytes w32 (take 4 (drop 1 c.args.bytes.now)) = c.little_u32.ensures ∙ ap (λ (x : List ℕ). from_le_bytes w32 (take 4 x)) (take_rest c.args.bytes.now 1) in
    (omega (arith, k.1, is), omega (arith, k.2, is))

pub returns-clause-size : goal.returns-clause-size
returns-clause-size c = λ q rest fits whole.
    c.little_u32.ensures ∙ ap (λ (x : List ℕ). from_le_bytes w32 (take 4 x)) (take_rest c.args.bytes.now 1) ∙ (sequence_read c.args.bytes.now q rest fits whole).size
