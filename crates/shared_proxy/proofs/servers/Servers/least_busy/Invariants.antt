use Rattle.std.proofs.Common.{◌≡◌, ℕ, ◌<◌, ◌≤◌, ◌^◌, ◌-◌, MatchOption, slice_index_or}
use Rattle.std.specs.List.{IsAmong}
use Rattle.shared_proxy.specs.Queues.{load_in}
use Rattle.shared_proxy.proofs.servers.Servers.least_busy.Given as goal

abbrev pub invariant-loop-number : goal.invariant-loop-number
invariant-loop-number l = record {
  found : MatchOption l.found (l.least ≡ 2 ^ 64 - 1) (λ u. (load_in l.self l.core u ≡ l.least) × IsAmong l.self.shared.numbers.items u);
  least : (k : ℕ) (d : ℕ) → k < l.number-index → l.least ≤ load_in l.self l.core (slice_index_or l.self.shared.numbers.items k d);
}
