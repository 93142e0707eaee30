use Rattle.std.proofs.Common.{◌≡◌, ◌++◌}
use Rattle.wire_peer.specs.AnswerLists.{answers_of}
use Rattle.wire_peer.specs.Counting.{numbers_from}
use Rattle.wire_peer.proofs.counting.push_numbers.Given as goal

-- so many were appended
abbrev pub invariant-loop-number : goal.invariant-loop-number
invariant-loop-number l = answers_of l.answers ≡ answers_of l.fn.answers ++ numbers_from 1 l.number
