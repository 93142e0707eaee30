use Rattle.std.proofs.Common.{◌≡◌, ◌≤◌, ◌+◌, ◌∙◌, ℕ, List, length, refl, ap, arith}
use Rattle.std.proofs.lemmas.Bool.{le-ltb}
use Rattle.wire_msg.specs.{header_of, number_at}
use Rattle.byte_views.specs.Headers.{front_numbers, header_shown, number_or_0}
use Rattle.byte_views.proofs.header.front_numbers.Goals as goal

-- a number that the bytes have
there : (bytes : List ℕ) (at : ℕ) → at + 4 ≤ length bytes → number_or_0 bytes at ≡ number_at bytes at
there bytes at le = rw (le-ltb (length bytes) (at + 4) le) refl

-- the header among the numbers
header : (bytes : List ℕ) → 16 ≤ length bytes → header_shown (front_numbers bytes) ≡ header_of bytes
header bytes long = rw (there bytes 0 (omega (arith, long)), there bytes 4 (omega (arith, long)), there bytes 8 (omega (arith, long)), there bytes 12 (omega (arith, long))) refl

pub returns-clause-header : goal.returns-clause-header
returns-clause-header c = λ long. ap header_shown c.read_numbers.ensures ∙ header c.args.bytes.now long
