-- The register of CRC-32C, a step at a time.
use Rattle.std.proofs.Common.{◌≡◌, ℕ, suc, ◌+◌, ap, arith}
use Rattle.wire_frames.specs.Crc32c.{crc_step, crc_steps}

pub steps_more : (n r : ℕ) → crc_steps (n + 1) r ≡ crc_step (crc_steps n r)
steps_more n r =
    let e : n + 1 ≡ suc n = omega arith in
    ap (λ (k : ℕ). crc_steps k r) e
