use Rattle.std.proofs.Common.{◌≡◌, ℕ, sym, ap, ◌∙◌, arith}
use Rattle.std.specs.Prelude.{bit_xor}
use Rattle.wire_frames.specs.Crc32c.{crc_step, crc_steps}
use Rattle.wire_frames.proofs.CrcLaws.{steps_more}
use Rattle.wire_frames.proofs.crc.add_byte.Goals as goal

pub loop-preserved : goal.loop-preserved
loop-preserved c = c.step-register.ensures ∙ ap crc_step c.loop.invariant ∙ sym (steps_more c.loop.counter (bit_xor c.args.register c.args.byte))

pub returns : goal.returns
returns c =
    let e : c.loop.counter ≡ 8 = omega arith in
    c.loop.invariant ∙ ap (λ (k : ℕ). crc_steps k (bit_xor c.args.register c.args.byte)) e
