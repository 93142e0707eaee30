use Rattle.std.proofs.Common.{◌≡◌, length, map, ℕ, ℤ}
use Rattle.wire_peer.specs.Chains.{chain, is_longer}
use Rattle.wire_peer.specs.Contents.{buf_content}
use Rattle.wire_peer.proofs.reply_buf.is_one_too_long.Given as goal

-- none of the payloads before those that are left is too long
abbrev pub invariant-loop-answer : goal.invariant-loop-answer
invariant-loop-answer l = (id : ℕ) (to : ℤ) → is_longer l.limit (chain id to (map buf_content l.fn.answers)) ≡ is_longer l.limit (chain id to (map buf_content l.rest))

abbrev pub decreases-loop-answer : goal.decreases-loop-answer
decreases-loop-answer l = length l.rest
