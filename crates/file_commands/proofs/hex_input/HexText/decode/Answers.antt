use Rattle.std.proofs.Common.{◌++◌, ◌∙◌, List, ℕ, arith, get_or, subst, sym, take}
use Rattle.std.proofs.lemmas.List.{take_all}
use Rattle.file_commands.specs.Input.{IsDecoded, packed}
use Rattle.file_commands.proofs.HexLemmas.{passes_byte, passes_space, piece_more}
use Rattle.file_commands.proofs.hex_input.HexText.decode.Goals as goal

pub loop-byte-preserved-then-is_white_space : goal.loop-byte-preserved-then-is_white_space
loop-byte-preserved-then-is_white_space c = (
  omega (arith, c.loop-byte.invariant.0),
  (λ text d.
      let piece = c.args.piece.now in
      let i = c.loop-byte.byte-index in
      let more = piece_more text piece i c.loop-byte-test.true in
      subst (λ (x : List ℕ). IsDecoded c.loop-byte.self (packed x)) (sym more)
      (passes_space c.loop-byte.self (text ++ take i piece) (get_or piece i 0) (c.loop-byte.invariant.1 text d) (sym c.is_white_space.ensures ∙ c.if-is_white_space.true))),
)

pub loop-byte-preserved : goal.loop-byte-preserved
loop-byte-preserved c = (
  omega (arith, c.loop-byte.invariant.0, c.in_ok-take.ensures.counted),
  (λ text d.
      let piece = c.args.piece.now in
      let i = c.loop-byte.byte-index in
      let more = piece_more text piece i c.loop-byte-test.true in
      let taken = c.in_ok-take.ensures.decoded (packed (text ++ take i piece)) (c.loop-byte.invariant.1 text d) in
      subst (λ (x : List ℕ). IsDecoded c.take.new.self (packed x)) (sym more)
      (passes_byte c.take.new.self (text ++ take i piece) (get_or piece i 0) taken (sym c.is_white_space.ensures ∙ c.if-is_white_space.false))),
)

pub returns : goal.returns
returns c = λ text d.
    let at_end = c.loop-byte-test.false in
    subst (λ (x : List ℕ). IsDecoded c.loop-byte.self (packed (text ++ x))) (take_all c.loop-byte.byte-index c.args.piece.now (omega (arith, at_end))) (c.loop-byte.invariant.1 text d)
