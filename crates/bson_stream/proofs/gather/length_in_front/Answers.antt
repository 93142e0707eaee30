use Rattle.std.proofs.Common.{◌≡◌, ℕ, List, ◌+◌, ◌-◌, ◌++◌, length, take, ap, ◌∙◌, arith, length-append, length-take}
use Rattle.std.specs.Int.{w32, from_le_bytes}
use Rattle.bson_stream.proofs.Holdings.{front_four}
use Rattle.bson_stream.proofs.gather.length_in_front.Goals as goal

pub returns : goal.returns
returns c =
    let n = c.min-n.result in
    let held = c.args.held.now in
    let piece = c.args.piece.now in
    let a : n ≡ 0 + length (take n held) = omega (arith, c.min-n.ensures, length-take n held) in
    let first : take n c.put.new.bytes ≡ take n held = ap (λ (k : ℕ). take k c.put.new.bytes) a ∙ c.put.ensures.filled in
    let b : 4 ≡ n + length (take (4 - n) piece) = omega (arith, c.min-n.ensures, c.if-piece-n.false, length-take (4 - n) piece) in
    let second : take 4 c.put-2.new.bytes ≡ take n c.put.new.bytes ++ take (4 - n) piece = ap (λ (k : ℕ). take k c.put-2.new.bytes) b ∙ c.put-2.ensures.filled in
    let all : take 4 c.put-2.new.bytes ≡ take 4 (held ++ piece) = second ∙ ap (λ (x : List ℕ). x ++ take (4 - n) piece) first ∙ front_four held piece n c.min-n.ensures in
    (omega (arith, c.min-n.ensures, c.if-piece-n.false, length-append held piece), c.little_u32.ensures ∙ ap (from_le_bytes w32) all)
