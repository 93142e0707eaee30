use Rattle.std.proofs.Common.{arith}
use Rattle.std.proofs.lemmas.List.Elements.{All-nil}
use Rattle.wire_msg.specs.{IsMessage}
use Rattle.wire_peer.proofs.ServerLaws.{nothing_is_open}
use Rattle.wire_peer.proofs.servers.Server.of.Goals as goal

pub invariant_of-result : goal.invariant_of-result
invariant_of-result c = record {
  window_is = c.requires.window;
  limit_is = c.requires.limit;
  read_limit = rw c.new.ensures;
  reply_limit = rw c.new-2.ensures;
  between = λ _. rw c.new.ensures (nothing_is_open c.args.limit);
  room = c.in_ok-waiting.ensures.exact;
  within = let none = c.in_ok-waiting.ensures.len in omega (arith, none);
  each = rw c.in_ok-waiting.ensures.items (All-nil (IsMessage c.args.limit));
}
