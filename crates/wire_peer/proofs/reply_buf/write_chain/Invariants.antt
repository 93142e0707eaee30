use Rattle.std.proofs.Common.{◌≤◌, ◌<◌, ◌^◌, length, map}
use Rattle.wire_peer.specs.Contents.{buf_content}
use Rattle.wire_peer.proofs.reply_buf.write_chain.Given as goal
use Rattle.wire_peer.proofs.ChainLaws.{IsAppended}

-- the replies that are left come behind what was appended
abbrev pub invariant-loop-answer : goal.invariant-loop-answer
invariant-loop-answer l =
    (1 ≤ l.next) × (l.next < 2 ^ 31)
    × IsAppended l.limit l.fn.first l.fn.to (map buf_content l.fn.answers) l.fn.out l.next l.to (map buf_content l.rest) l.out

abbrev pub decreases-loop-answer : goal.decreases-loop-answer
decreases-loop-answer l = length l.rest
