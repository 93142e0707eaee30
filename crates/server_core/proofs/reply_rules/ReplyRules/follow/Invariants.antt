use Rattle.std.proofs.Common.{◌≡◌, None, length}
use Rattle.wire_peer.specs.{log_of}
use Rattle.server_core.specs.Replies.{last_flow, rules_after}
use Rattle.server_core.proofs.reply_rules.ReplyRules.follow.Given as goal

-- what comes of the entries that are left is what comes of all
abbrev pub invariant-loop-entry : goal.invariant-loop-entry
invariant-loop-entry l =
    (rules_after (log_of l.left) l.self.script.rules.items ≡ rules_after (log_of l.entries) l.initial.self.script.rules.items)
    × (last_flow l.self.flow l.self.script.rules.items (log_of l.left) ≡ last_flow None l.initial.self.script.rules.items (log_of l.entries))

abbrev pub decreases-loop-entry : goal.decreases-loop-entry
decreases-loop-entry l = length l.left
