-- What a script says of the requests of a log, and what becomes of their replies.
use Rattle.std.specs.Prelude.{◌≡◌, List, [], ◌∷◌, Option, None, Some}
use Rattle.script_rules.specs.declared.action.Flow.{Flow}
use Rattle.script_rules.specs.declared.action.Flow.TheVariants as flows
use Rattle.script_rules.specs.{RuleView, after, flow_by, met}
use Rattle.wire_serve.specs.declared.gated_link.Gate.{Gate}
use Rattle.wire_serve.specs.declared.gated_link.Gate.TheVariants as gates
use Rattle.wire_peer.specs.{LogEntry}
use Rattle.server_core.specs.declared.reply_rules.ReplyRules.{ReplyRules}

-- the gate that a flow wants; a reply that is held goes through an open one when it is let go
abbrev pub gate_for : Flow → Gate
gate_for (flows.Cut count) = gates.Cut count
gate_for flows.Dropped = gates.Swallowed
gate_for _ = gates.Open

-- the rules after the requests of these entries, one after another
abbrev pub rules_after : List LogEntry → List RuleView → List RuleView
rules_after [] rs = rs
rules_after (e ∷ es) rs = rules_after es (after e.payload rs)

-- what becomes of the reply to the last of them, or as before, if there is none
abbrev pub last_flow : Option Flow → List RuleView → List LogEntry → Option Flow
last_flow before rs [] = before
last_flow before rs (e ∷ es) = last_flow (Some (flow_by (met e.payload rs))) (after e.payload rs) es

-- The requests of these entries were told: the rules are those after them, and the flow is that of
-- the last one, or none.
abbrev pub Follows : ReplyRules → List LogEntry → ReplyRules → Type 0
Follows old log new =
    (new.script.rules.items ≡ rules_after log old.script.rules.items)
    × (new.flow ≡ last_flow None old.script.rules.items log)
